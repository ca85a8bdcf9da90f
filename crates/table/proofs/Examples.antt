-- Worked examples of document 01 on a table's bytes, by computation.
use mathlib.Core.Path.{◌≡◌, refl, ap}
use mathlib.Core.List.Memᴰ
use mathlib.Core.List.Permᴰ
use mathlib.Core.List.{List, [], ◌∷◌, ◌++◌, map, flat_map}
use Prim.Native.Nat.{ℕ}
use lib.IntN.{pos}
use lib.ListN.{length, take, drop}
use Rattle.lists.specs.Lists.{◌∈◌}
use Rattle.lists.proofs.Tests.{cases}
use Rattle.fields.specs.Words.{word_at, words, words_bytes}
use Rattle.fields_sums.specs.Twos.{reading_at}
use Rattle.fields_check.specs.Check.{check_of}
use Rattle.fields_walk.specs.Parsed.{stop, got, many}
use Rattle.fields_walk.specs.Fields.{room, word, reading, field, codes, header, close}
use Rattle.cube.specs.declared.Total.{Total}
use Rattle.cube.specs.Measure.{Row}
use Rattle.table.specs.Layout.{Records, row_bytes, table_bytes}
use Rattle.table.specs.Reading.{row, body, read_table}
use Rattle.table.specs.Rearranged.{Rearranged}

abbrev read : List ℕ → ℕ → Row Total
read x n = record { codes = x; total = record { sum = pos n; count = 1 } }

abbrev five : Records
five =
    record { sizes = 7 ∷ 6 ∷ 3 ∷ []; rows = read (0 ∷ 1 ∷ 1 ∷ []) 50 ∷ read (1 ∷ 1 ∷ 1 ∷ []) 100 ∷ read (2 ∷ 3 ∷ 1 ∷ []) 60 ∷ read (4 ∷ 5 ∷ 1 ∷ []) 70 ∷ read (6 ∷ 5 ∷ 2 ∷ []) 80 ∷ [] }

-- the table of the five rows is 108 bytes
five_length : length (table_bytes five) ≡ 108
unfolding table_bytes words_bytes flat_map
five_length = refl

-- its bytes; fewer than the opening; the opening and no more; a byte that follows
reads_five : map read_table (table_bytes five ∷ take 3 (table_bytes five) ∷ take 4 (table_bytes five) ∷ (table_bytes five ++ 0 ∷ []) ∷ [])
    ≡ got five [] ∷ stop 1 ∷ stop 2 ∷ stop 10 ∷ []
unfolding read_table body row header field word room reading reading_at many codes close word_at check_of words table_bytes words_bytes flat_map
reads_five = refl

-- ---- rows in another order

-- two rows with equal codes, and their bytes the other way round
abbrev pair : Row Total → Row Total → List ℕ
pair q r = table_bytes (record { sizes = 1 ∷ []; rows = q ∷ r ∷ [] })

pair_rearranged : Rearranged 1 (pair (read (0 ∷ []) 5) (read (0 ∷ []) 7)) (pair (read (0 ∷ []) 7) (read (0 ∷ []) 5))
unfolding table_bytes words_bytes flat_map check_of words
pair_rearranged = record {
  front = take 16 (pair (read (0 ∷ []) 5) (read (0 ∷ []) 7));
  rows = row_bytes (read (0 ∷ []) 5) ∷ row_bytes (read (0 ∷ []) 7) ∷ [];
  others = row_bytes (read (0 ∷ []) 7) ∷ row_bytes (read (0 ∷ []) 5) ∷ [];
  last = drop 32 (pair (read (0 ∷ []) 5) (read (0 ∷ []) 7));
  first = refl;
  second = refl;
  order = Permᴰ.swap refl refl;
  header = refl;
  each = λ q m. lengths q m;
  check = refl;
}
  where
    lengths : (q : List ℕ) → q ∈ row_bytes (read (0 ∷ []) 5) ∷ row_bytes (read (0 ∷ []) 7) ∷ [] → length q ≡ 8
    lengths q m = cases (Memᴰ.cases_cons m) (λ e. ap length e) (λ n. ap length (Memᴰ.eq_of_singleton n))
