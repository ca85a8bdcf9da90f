-- A table as bytes (document 01, "Bytes of the two files").
--
--   FACT            the opening bytes 46 41 43 54
--   Records         what a table holds: the sizes of its dimensions, and its rows
--   row_bytes r      a row: its codes and its reading
--   table_bytes t    the file: opening, D, sizes, row count, rows, check word
--   Reads zs r      a row of a table: codes below the sizes zs, and one reading of 32 bits
--   TableLimits t   the limits of document 01
use Rattle.std.specs.Prelude.{◌≡◌, ℕ, ◌^◌, ◌≤◌, ◌<◌, length}
use mathlib.Core.List.{List, [], ◌∷◌, ◌++◌, flat_map}
use Rattle.std.specs.Int.Signed.{mag}
use Rattle.lists.specs.Lists.{◌∈◌}
use Rattle.fields.specs.Words.{word_bytes, words_bytes}
use Rattle.fields_sums.specs.Twos.{reading_bytes}
use Rattle.fields_check.specs.Check.{checked}
use Rattle.fields_walk.specs.Fields.{header_bytes}
use Rattle.fields_walk.specs.Limits.{Sized, Below}
use Rattle.cube.specs.declared.Total.{Total}
use Rattle.cube.specs.Measure.{Row}

abbrev pub FACT : List ℕ
FACT = 0x46 ∷ 0x41 ∷ 0x43 ∷ 0x54 ∷ []

pub record Records : Type 0 where
  pub sizes : List ℕ
  pub rows : List (Row Total)

abbrev pub row_bytes : Row Total → List ℕ
row_bytes r = words_bytes r.codes ++ reading_bytes r.total.sum

unfoldable pub table_bytes : Records → List ℕ
table_bytes t = checked (header_bytes FACT t.sizes ++ (word_bytes (length t.rows) ++ flat_map row_bytes t.rows))

-- a row of a table: codes below the sizes, a reading of 32 bits, counted once
pub record Reads (zs : List ℕ) (r : Row Total) : Type 0 where
  pub below : Below zs r.codes
  pub reading : mag r.total.sum < 2 ^ 31
  pub once : r.total.count ≡ 1

pub record TableLimits (t : Records) : Type 0 where
  pub sized : Sized t.sizes
  pub few : length t.rows ≤ 1024
  pub each : (r : Row Total) → r ∈ t.rows → Reads t.sizes r
