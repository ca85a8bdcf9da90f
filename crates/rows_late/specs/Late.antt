-- One record more (document 02, C-18: "with this record folded in"; "Just the 2 to the power D cells over the row gain it"), over any lattice of groupings and any measure.
--
--   late M d rows r the base rows with row r folded in
--   over x          the cells over codes x, in which they fall: theirs of every node
--   paired xs x     of these, the cells in which just one of xs falls: with x they become normal
--   emptied M e     entry e without its total: what depends on the codes alone
use Rattle.std.specs.Prelude.{List, [], ◌∷◌, map, ℕ, eqb, length}
use Rattle.lists.specs.Lists.{keep}
use Rattle.cube.specs.Measure.{Measure, Row}
use Rattle.cube.specs.Lattice.{Lattice}
use Rattle.cube.specs.Cube.{within}
use Rattle.cube.specs.Condensed.{Entry, base, normal}
use Rattle.rows_merge.specs.United.{united}

abbrev pub late : {A : Type 0} → Measure A → ℕ → List (Row A) → Row A → List (Row A)
late M d rows r = united M d rows (r ∷ [])

abbrev pub emptied : {A : Type 0} → Measure A → Entry A → Entry A
emptied M (base r l) = base (record { codes = r.codes; total = M.none }) l
emptied M (normal r) = normal (record { codes = r.codes; total = M.none })

module _ (L : Lattice) where
  unfoldable pub over : List ℕ → List (List ℕ)
  over x = map (λ s. L.cell s x) L.nodes

  unfoldable pub paired : List (List ℕ) → List ℕ → List (List ℕ)
  paired xs x = keep (λ c. eqb (length (within L xs c)) 1) (over x)
