-- One level everywhere: the nodes are the sets of dimensions, turned round, and the cells are those of the plain archive with their node in front.
--
--   flat d            d dimensions of one level
--   turned d s        the node of set s, and the set of node s: 2 to the power D, less 1, less s
--   fronted d c       a cell of the plain archive with its node in front
--   with_node d r      the same of a cell with its total
use Rattle.std.specs.Prelude.{List, [], ◌∷◌, ℕ, ◌-◌, replicate}
use Rattle.lattice.specs.Sets.{full}
use Rattle.cube.specs.Measure.{Row}
use Rattle.cube.specs.Codes.{set-of}
use Rattle.family_nodes.specs.Families.{Levels}

abbrev pub flat : ℕ → List Levels
flat d = replicate d []

abbrev pub turned : ℕ → ℕ → ℕ
turned d s = full d - s

abbrev pub fronted : ℕ → List ℕ → List ℕ
fronted d c = turned d (set-of c) ∷ c

abbrev pub with_node : {A : Type 0} → ℕ → Row A → Row A
with_node d r = record { codes = fronted d r.codes; total = r.total }
