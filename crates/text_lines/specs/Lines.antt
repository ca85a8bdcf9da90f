-- The lister's form (document 01, "The five-row example"): "First line: D, base count, normal count. Then for each entry its codes (`*` is ALL), sum, count, and on base entries
-- a colon and the list. An empty list ends the line at the colon. One space parts fields." Characters are ASCII.
--
--   code_text c     a code or `*`, and a space
--   row_text r      codes, sum, count
--   set_text s      a space, and a set's number
--   base_text b     the line of a base entry
--   cell_text r     the line of a normal entry
--   head_text d n m  the first line: D, base count, normal count
use Rattle.std.specs.Prelude.{cond, ℕ, eqb}
use mathlib.Core.List.{List, ◌++◌, flat_map}
use Rattle.text_decimals.specs.Decimals.{ascii, decimal, integer}
use Rattle.cube.specs.declared.Total.{Total}
use Rattle.cube.specs.Measure.{Row}
use Rattle.cube.specs.Codes.{ALL}
use Rattle.archive_entries.specs.Layout.{Based}

unfoldable pub code_text : ℕ → List ℕ
code_text c = cond (eqb c ALL) (ascii "*") (decimal c) ++ ascii " "

unfoldable pub row_text : Row Total → List ℕ
row_text r = flat_map code_text r.codes ++ (integer r.total.sum ++ (ascii " " ++ decimal r.total.count))

unfoldable pub set_text : ℕ → List ℕ
set_text s = ascii " " ++ decimal s

unfoldable pub base_text : Based → List ℕ
base_text b = row_text b.row ++ (ascii " :" ++ (flat_map set_text b.list ++ ascii "\n"))

unfoldable pub cell_text : Row Total → List ℕ
cell_text r = row_text r ++ ascii "\n"

unfoldable pub head_text : ℕ → ℕ → ℕ → List ℕ
head_text d n m = (decimal d ++ ascii " ") ++ ((decimal n ++ ascii " ") ++ (decimal m ++ ascii "\n"))
