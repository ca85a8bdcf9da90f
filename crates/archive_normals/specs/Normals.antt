-- The normal entries of an archive as bytes, set by set.
--
--   shared_bytes d rows s   the normal entries of set s
--   common_bytes d rows     those of all sets but the full one, in lattice order
--   blank_bytes d n         that of an empty table, where there are no rows (n is 0)
--   normal_bytes d rows     the normal entries
use mathlib.Core.List.{List, map, flat_map}
use Rattle.std.specs.Prelude.{ℕ}
use Rattle.cube.specs.declared.Total.{Total}
use Rattle.cube.specs.Measure.{Row, sums as measure, codes_of}
use Rattle.cube.specs.Codes.{plain}
use Rattle.cube.specs.Cube.{filled}
use Rattle.cube.specs.Condensed.{common}
use Rattle.rows_ready.specs.Blank.{blank_rows}
use Rattle.rows_condense.specs.Shared.{shared_rows, normal_rows}
use Rattle.archive_entries.specs.Layout.{cell_bytes}

unfoldable pub shared_bytes : ℕ → List (Row Total) → ℕ → List ℕ
shared_bytes d rows s = flat_map cell_bytes (shared_rows d rows s)

unfoldable pub common_bytes : ℕ → List (Row Total) → List ℕ
common_bytes d rows = flat_map cell_bytes (map (filled (plain d) measure rows) (common (plain d) (codes_of rows)))

unfoldable pub blank_bytes : ℕ → ℕ → List ℕ
blank_bytes d n = flat_map cell_bytes (blank_rows d n)

unfoldable pub normal_bytes : ℕ → List (Row Total) → List ℕ
normal_bytes d rows = flat_map cell_bytes (normal_rows d rows)
