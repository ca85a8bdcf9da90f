-- The cell of an empty table: how many there are, and its total.
use mathlib.Core.Path.{◌≡◌, refl, ap, ◌∙◌}
use mathlib.Core.List.{List, [], ◌∷◌, map}
use Prim.Native.Nat.{ℕ, ◌+◌}
use lib.ListN.{length}
use Rattle.cube.specs.declared.Total.{Total}
use Rattle.cube.specs.Measure.{Row, sums as measure, codes_of}
use Rattle.cube.specs.Lattice.{Lattice}
use Rattle.cube.specs.Codes.{plain}
use Rattle.cube.specs.Cube.{blank, total, filled}
use Rattle.cube.specs.Condensed.{common, normals}
use Rattle.cube.proofs.Normals.{normals-length}
use Rattle.rows_ready.specs.Blank.{blanks, blank_rows}

pub blank-count : (L : Lattice) (xs : List (List ℕ)) → length (blank L xs) ≡ blanks (length xs)
blank-count L [] = refl
blank-count L (x ∷ xs) = refl

pub blank-rows : (d : ℕ) (rows : List (Row Total)) → map (filled (plain d) measure rows) (blank (plain d) (codes_of rows)) ≡ blank_rows d (length rows)
unfolding total
blank-rows d [] = refl
blank-rows d (r ∷ rows) = refl

-- with the common cells, the normal ones
pub normals-count : (L : Lattice) (xs : List (List ℕ)) → length (normals L xs) ≡ blanks (length xs) + length (common L xs)
normals-count L xs = normals-length L xs ∙ ap (λ (n : ℕ). n + length (common L xs)) (blank-count L xs)
