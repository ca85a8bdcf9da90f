-- A table read from its bytes, with its stops in checking order (document 01): 1 to 6, 10 and 11.
--
--   row zs              a row: its codes, below the sizes zs, and a reading
--   body s zs           row count, rows and check word of the bytes s
--   read_table s         what the bytes s hold, or the first stop
--   record_there s d at  the row that stands at a place: d codes and a reading
--   rows_at s d n at     the n rows from a place on
--   Rowed s d n         n rows of d codes stand behind a header, are rows of a table, and can be totalled
--   base_rows t          the base rows of the table t
--   table_answer p       what the code answers for what was read: D and the number of base rows, or the stop's number
--   Stored p ws         the words ws have the base rows of the table that was read
use Rattle.std.specs.Prelude.{◌≡◌, List, [], ◌∷◌, ℕ, zero, suc, ◌+◌, ◌*◌, ◌≤◌, length, Result, Ok, Err}
use Rattle.fields.specs.Words.{words_at}
use Rattle.fields_sums.specs.Twos.{reading_at}
use Rattle.fields_walk.specs.Parsed.{Parsed, stop, got, and_then, many}
use Rattle.fields_walk.specs.Fields.{reading, field, codes, header, close}
use Rattle.cube.specs.declared.Total.{Total}
use Rattle.cube.specs.Measure.{sums, Row}
use Rattle.cube.specs.Bounds.{Summable}
use Rattle.cube.specs.Table.{Table, folded}
use Rattle.rows.specs.Rows.{rows_of}
use Rattle.table.specs.declared.Folded.{Folded}
use Rattle.table.specs.Layout.{FACT, Records}

unfoldable pub row : List ℕ → List ℕ → Parsed (Row Total)
row zs l =
    and_then (codes zs l) (λ x rest. and_then (reading rest) (λ z rest'. got (record { codes = x; total = record { sum = z; count = 1 } }) rest'))

-- the row count, the rows and the check word that ends the bytes s
unfoldable pub body : List ℕ → List ℕ → List ℕ → Parsed Records
body s zs l =
    and_then (field 0 1025 5 l) (λ n rest. and_then (many n (row zs) rest) (λ rows rest'.
    and_then (close s rest') (λ u rest''. got (record { sizes = zs; rows = rows }) rest'')))

unfoldable pub read_table : List ℕ → Parsed Records
read_table s = and_then (header FACT s) (body s)

abbrev pub record_there : List ℕ → ℕ → ℕ → Row Total
record_there s d at = record { codes = words_at s d at; total = record { sum = reading_at s (at + 4 * d); count = 1 } }

unfoldable pub rows_at : List ℕ → ℕ → ℕ → ℕ → List (Row Total)
rows_at s d zero at = []
rows_at s d (suc n) at = record_there s d at ∷ rows_at s d n (at + (4 * d + 4))

pub record Rowed (s : List ℕ) (d n : ℕ) : Type 0 where
  pub dims : d ≤ 8
  pub few : n ≤ 1024
  pub inside : 12 + 4 * d + n * (4 * d + 4) ≤ length s
  pub table : Table d (rows_at s d n (12 + 4 * d))
  pub summable : Summable (rows_at s d n (12 + 4 * d))

-- the base rows of a table
abbrev pub base_rows : Records → List (Row Total)
base_rows t = folded sums (length t.sizes) t.rows

abbrev pub table_answer : Parsed Records → Result Folded ℕ
table_answer (stop n) = Err n
table_answer (got t rest) = Ok (record { dims = length t.sizes; rows = length (base_rows t) })

abbrev pub Stored : Parsed Records → List ℕ → Type 0
Stored (stop n) ws = Unit {0}
Stored (got t rest) ws = rows_of (length t.sizes) (length (base_rows t)) ws ≡ base_rows t
