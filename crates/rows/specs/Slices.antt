-- A slice of rows, as the functions over it take it.
--
--   codes s       the codes of its rows
--   held s        its rows
--   totals s i    the total of row i
use Rattle.std.specs.Prelude.{List, ℕ}
use Rattle.cube.specs.declared.Total.{Total}
use Rattle.cube.specs.Measure.{Row}
use Rattle.rows.specs.declared.RowSlice.{RowSlice}
use Rattle.rows.specs.Rows.{cut, rows_of, row_total}

abbrev pub codes : RowSlice → List (List ℕ)
codes s = cut s.dims s.n s.words.now

abbrev pub held : RowSlice → List (Row Total)
held s = rows_of s.dims s.n s.words.now

abbrev pub totals : RowSlice → ℕ → Total
totals s = row_total s.dims s.n s.words.now
