-- The rows of a table and its base rows (document 01: "Folding comes first").
--
--   Table d rows    rows of a table of d dimensions
--   folded M d rows   its base rows: the rows grouped by the full set, so that rows with equal codes are one, with the sum of their readings and the count of them
--   listed_before p q   cell p is listed before cell q: by the lattice order of their sets, then by codes
use Rattle.std.specs.Prelude.{Bool, List, ℕ}
use Rattle.lists.specs.Lists.{◌∈◌}
use Rattle.lists.specs.Order.{earlier}
use Rattle.lattice.specs.Sets.{full}
use Rattle.cube.specs.Measure.{Measure, Row}
use Rattle.cube.specs.Codes.{Coded, keys, plain}
use Rattle.cube.specs.Cube.{grouped}

module _ {A : Type 0} where
  abbrev pub Table : ℕ → List (Row A) → Type 0
  Table d rows = (r : Row A) → r ∈ rows → Coded d r.codes

  unfoldable pub folded : Measure A → ℕ → List (Row A) → List (Row A)
  folded M d rows = grouped (plain d) M rows (full d)

  abbrev pub listed_before : Row A → Row A → Bool
  listed_before p q = earlier (keys p.codes) (keys q.codes)
