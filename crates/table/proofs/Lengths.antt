-- The length of a table: opening, D, sizes, row count, rows, check word.
use mathlib.Core.Path.{◌≡◌}
use mathlib.Core.List.{◌++◌, flat_map}
use Prim.Native.Nat.{ℕ, ◌+◌, ◌*◌}
use native.Mathlib.Omega.{arith}
use lib.ListN.{length, length-append}
use Rattle.fields.specs.Words.{word_bytes, words_bytes}
use Rattle.fields.specs.WordsLaws.{length_words_bytes}
use Rattle.fields_sums.specs.Twos.{reading_bytes}
use Rattle.fields_check.specs.Check.{check_of}
use Rattle.fields_walk.specs.Fields.{header_bytes}
use Rattle.fields_walk.proofs.Lengths.{length-flat, length-header, length-below}
use Rattle.cube.specs.declared.Total.{Total}
use Rattle.cube.specs.Measure.{Row}
use Rattle.table.specs.Layout.{FACT, Records, row_bytes, table_bytes, TableLimits}

row-length : (d : ℕ) (r : Row Total) → length r.codes ≡ d → length (row_bytes r) ≡ 4 * d + 4
row-length d r h = omega (arith, length-append (words_bytes r.codes) (reading_bytes r.total.sum), length_words_bytes r.codes, h)

pub table-length : (t : Records) → TableLimits t → length (table_bytes t) ≡ 16 + 4 * length t.sizes + length t.rows * (4 * length t.sizes + 4)
unfolding table_bytes
table-length t l =
    let d = length t.sizes in
    let front = header_bytes FACT t.sizes in
    let rows = word_bytes (length t.rows) ++ flat_map row_bytes t.rows in
    let e = length-flat row_bytes (4 * d + 4) t.rows (λ r m. row-length d r (length-below t.sizes r.codes (l.each r m).below)) in
    omega (arith, length-append (front ++ rows) (word_bytes (check_of (front ++ rows))), length-append front rows, length-header FACT t.sizes, e)
