-- An archive as bytes (document 01, "Bytes of the two files").
--
--   CUBE              the opening bytes 43 55 42 45
--   Based             a base entry: a base row and its list of sets
--   cell_bytes r       a normal entry or a listed cell: codes or ALL, sum, count
--   base_bytes b       a base entry: codes, sum, count, list count, list
--   section bytes xs  a count, and the things counted
--   sets_in bs         how many sets base entries list
--   Held              what an archive's fields hold: sizes, base entries, normal entries
--   layout a          the file: opening, D, sizes, base count, base entries, normal count, normal entries, check word
--   required zs rows  what an archive of these sizes and base rows holds: our entries
--   archive_bytes zs rows    the archive of these sizes and base rows
--   Limits zs rows    the limits of document 01 on sizes and base rows
use Rattle.std.specs.Prelude.{◌≡◌, true, ℕ, ◌+◌, ◌≤◌, length}
use mathlib.Core.List.{List, [], ◌∷◌, ◌++◌, map, flat_map}
use Rattle.lists.specs.Lists.{◌∈◌}
use Rattle.lists.specs.Order.{Rising, earlier}
use Rattle.fields.specs.Words.{word_bytes, words_bytes}
use Rattle.fields_sums.specs.Twos.{sum_bytes}
use Rattle.fields_check.specs.Check.{checked}
use Rattle.fields_walk.specs.Fields.{header_bytes}
use Rattle.fields_walk.specs.Limits.{Sized, Below}
use Rattle.cube.specs.declared.Total.{Total}
use Rattle.cube.specs.Measure.{sums, Row, codes_of}
use Rattle.cube.specs.Bounds.{most, can_make, count_of}
use Rattle.cube.specs.Codes.{plain}
use Rattle.cube.specs.Cube.{filled}
use Rattle.cube.specs.Condensed.{listed, normals}

abbrev pub CUBE : List ℕ
CUBE = 0x43 ∷ 0x55 ∷ 0x42 ∷ 0x45 ∷ []

pub record Based : Type 0 where
  pub row : Row Total
  pub list : List ℕ

unfoldable pub cell_bytes : Row Total → List ℕ
cell_bytes r = words_bytes r.codes ++ (sum_bytes r.total.sum ++ word_bytes r.total.count)

unfoldable pub base_bytes : Based → List ℕ
base_bytes b = cell_bytes b.row ++ (word_bytes (length b.list) ++ words_bytes b.list)

-- a count, and the things counted
abbrev pub section : {A : Type 0} → (A → List ℕ) → List A → List ℕ
section bytes xs = word_bytes (length xs) ++ flat_map bytes xs

pub record Held : Type 0 where
  pub sizes : List ℕ
  pub bases : List Based
  pub cells : List (Row Total)

abbrev pub sets_in : List Based → ℕ
sets_in [] = 0
sets_in (b ∷ bs) = length b.list + sets_in bs

unfoldable pub layout : Held → List ℕ
layout a = checked (header_bytes CUBE a.sizes ++ (section base_bytes a.bases ++ section cell_bytes a.cells))

-- our base entry of a row: the row with our list
abbrev pub based : ℕ → List (Row Total) → Row Total → Based
based d rows r = record { row = r; list = listed (plain d) (codes_of rows) r.codes }

unfoldable pub required : List ℕ → List (Row Total) → Held
required zs rows =
    let d = length zs in
    record { sizes = zs; bases = map (based d rows) rows; cells = map (filled (plain d) sums rows) (normals (plain d) (codes_of rows)) }

unfoldable pub archive_bytes : List ℕ → List (Row Total) → List ℕ
archive_bytes zs rows = layout (required zs rows)

-- a base row: codes below the sizes, a count, and a sum that so many readings can make
pub record Fair (zs : List ℕ) (r : Row Total) : Type 0 where
  pub below : Below zs r.codes
  pub counted : 1 ≤ r.total.count
  pub made : can_make r.total.count r.total.sum ≡ true

pub record Limits (zs : List ℕ) (rows : List (Row Total)) : Type 0 where
  pub sized : Sized zs
  pub few : length rows ≤ 1024
  pub rising : Rising earlier (codes_of rows)
  pub each : (r : Row Total) → r ∈ rows → Fair zs r
  pub counts : count_of rows ≤ most
