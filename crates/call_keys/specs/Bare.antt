-- Sets of which no cell is shared, by how many rows share the cells of each set but the full one.
--
--   bare d used s       no cell of set s is shared: it is the full set, or no row shares one
--   least_bare d used    the smallest such sets, in lattice order
use Rattle.std.specs.Prelude.{Bool, ◌||◌, List, [], ℕ, eqb, get_or}
use Rattle.lattice.specs.Sets.{full, sets}
use Rattle.cube.specs.Codes.{plain}
use Rattle.cube.specs.Condensed.{smallest}

unfoldable pub bare : ℕ → List ℕ → ℕ → Bool
bare d used s = eqb s (full d) || eqb (get_or used s 0) 0

unfoldable pub least_bare : ℕ → List ℕ → List ℕ
least_bare d used = smallest (plain d) (bare d used) (sets d) []
