-- Worked examples of both editions (documents 01 and 02), from the definitions by computation: bytes, what is read, and stops.
use mathlib.Core.Path.{◌≡◌, refl}
use mathlib.Core.List.{List, [], ◌∷◌, ◌++◌, map, flat_map}
use Prim.Native.Nat.{ℕ}
use lib.Count.{ones, ones_in}
use lib.IntN.{ℤ, pos}
use lib.ListN.{length, take}
use Rattle.fields.specs.Words.{word_at, words, words_bytes}
use Rattle.fields_sums.specs.Twos.{sum_at}
use Rattle.fields_check.specs.Check.{check_of, checked}
use Rattle.lattice.specs.Sets.{sets}
use Rattle.fields_walk.specs.Parsed.{Parsed, stop, got, many}
use Rattle.fields_walk.specs.Fields.{room, word, sum, field, codes, header, close}
use Rattle.cube.specs.Measure.{Row}
use Rattle.cube.specs.declared.Figures.{Figures}
use Rattle.cube.specs.declared.Extremes.{Extremes}
use Rattle.cube.specs.declared.Extremes.TheVariants.{Known}
use Rattle.cube.specs.Extremes.{figures, reading}
use Rattle.cube.specs.Bounds.{can_make, suits}
use Rattle.cube.specs.Codes.{ALL, plain}
use Rattle.cube.specs.Cube.{cuboid, total, grouped}
use Rattle.cube.specs.Condensed.{Answer, no_record, found, proper, single, listed, reach, shared, common, normals, ours, lookup}
use Rattle.cube.specs.Table.{folded}
use Rattle.archive_entries.specs.Reading.{rising, fair, amount}
use Rattle.archive_editions.specs.Format.{CUB2, one, two}
use Rattle.archive_editions.specs.Layout.{Held, base_bytes, layout, required, archive_bytes}
use Rattle.archive_editions.specs.Reading.{extremes, list, entry, entries, bases, cells, walk, rows_in, read, read_both, convert}

abbrev row : List ℕ → ℤ → Row Figures
row x z = record { codes = x; total = reading z }

-- a cell's answer: its entry, sum, count and extremes
abbrev found_at : ℕ → ℕ → ℕ → Extremes → Answer Figures
found_at k s n e = found k (record { sums = record { sum = pos s; count = n }; extremes = e })

-- what was read: its base rows, or none; bytes, or none; its stop, or 0
abbrev rows_of : Parsed (Held (List ℕ)) → List (Row Figures)
rows_of (stop n) = []
rows_of (got a rest) = rows_in a

abbrev bytes_of : Parsed (List ℕ) → List ℕ
bytes_of (stop n) = []
bytes_of (got xs rest) = xs

abbrev stop_of : {A : Type 0} → Parsed A → ℕ
stop_of (stop n) = n
stop_of (got a rest) = 0

-- ---- the five rows of source document 004

abbrev sizes : List ℕ
sizes = 7 ∷ 6 ∷ 3 ∷ []

abbrev five : List (Row Figures)
five = row (0 ∷ 1 ∷ 1 ∷ []) (pos 50) ∷ row (1 ∷ 1 ∷ 1 ∷ []) (pos 100) ∷ row (2 ∷ 3 ∷ 1 ∷ []) (pos 60) ∷ row (4 ∷ 5 ∷ 1 ∷ []) (pos 70) ∷ row (6 ∷ 5 ∷ 2 ∷ []) (pos 80) ∷ []

-- 444 bytes, of which these are the words; the last is the check word
five_two : words (archive_bytes two sizes (folded figures 3 five))
    ≡ 843208003 ∷ 3 ∷ 7 ∷ 6 ∷ 3
    ∷ 5
    ∷ 0 ∷ 1 ∷ 1 ∷ 50 ∷ 0 ∷ 1 ∷ 1 ∷ 50 ∷ 50 ∷ 1 ∷ 1
    ∷ 1 ∷ 1 ∷ 1 ∷ 100 ∷ 0 ∷ 1 ∷ 1 ∷ 100 ∷ 100 ∷ 1 ∷ 1
    ∷ 2 ∷ 3 ∷ 1 ∷ 60 ∷ 0 ∷ 1 ∷ 1 ∷ 60 ∷ 60 ∷ 2 ∷ 1 ∷ 2
    ∷ 4 ∷ 5 ∷ 1 ∷ 70 ∷ 0 ∷ 1 ∷ 1 ∷ 70 ∷ 70 ∷ 2 ∷ 1 ∷ 6
    ∷ 6 ∷ 5 ∷ 2 ∷ 80 ∷ 0 ∷ 1 ∷ 1 ∷ 80 ∷ 80 ∷ 2 ∷ 1 ∷ 4
    ∷ 5
    ∷ 65535 ∷ 65535 ∷ 65535 ∷ 360 ∷ 0 ∷ 5 ∷ 1 ∷ 50 ∷ 100
    ∷ 65535 ∷ 1 ∷ 65535 ∷ 150 ∷ 0 ∷ 2 ∷ 1 ∷ 50 ∷ 100
    ∷ 65535 ∷ 5 ∷ 65535 ∷ 150 ∷ 0 ∷ 2 ∷ 1 ∷ 70 ∷ 80
    ∷ 65535 ∷ 65535 ∷ 1 ∷ 280 ∷ 0 ∷ 4 ∷ 1 ∷ 50 ∷ 100
    ∷ 65535 ∷ 1 ∷ 1 ∷ 150 ∷ 0 ∷ 2 ∷ 1 ∷ 50 ∷ 100
    ∷ 843866400 ∷ []
unfolding archive_bytes required layout base_bytes words check_of words_bytes folded grouped cuboid total normals common shared single proper listed sets ones ones_in flat_map
five_two = refl

-- in edition one 324, the last word is the check word
five-lengths : (length (archive_bytes two sizes (folded figures 3 five)) ≡ 444) × (length (archive_bytes one sizes (folded figures 3 five)) ≡ 324)
    × (word_at (archive_bytes one sizes (folded figures 3 five)) 320 ≡ 1162632024)
unfolding archive_bytes required layout base_bytes words word_at check_of words_bytes folded grouped cuboid total normals common shared single proper listed sets ones ones_in flat_map
five-lengths = (refl, refl, refl)

-- both editions are read back as the same rows, edition one "as converted"; edition one is converted to edition two; and neither is read as the other
five_read : (rows_of (read_both (archive_bytes two sizes five)) ≡ five) × (rows_of (read_both (archive_bytes one sizes five)) ≡ five)
    × (bytes_of (convert (archive_bytes one sizes five)) ≡ archive_bytes two sizes five)
    × (stop_of (read one (archive_bytes two sizes five)) ≡ 1) × (stop_of (read two (archive_bytes one sizes five)) ≡ 1) × (stop_of (convert (archive_bytes two sizes five)) ≡ 1)
unfolding convert read walk header field word sum room many bases entries entry rising codes fair can_make amount extremes suits list cells close word_at sum_at check_of words archive_bytes required layout base_bytes words_bytes cuboid total normals common shared single proper listed sets ones ones_in flat_map
five_read = (refl, refl, refl, refl, refl, refl)

-- look-ups with extremes
five_answers : map (λ c. lookup (plain 3) c (ours (plain 3) figures five)) ((ALL ∷ 5 ∷ 1 ∷ []) ∷ (0 ∷ 3 ∷ ALL ∷ []) ∷ (ALL ∷ 1 ∷ ALL ∷ []) ∷ (ALL ∷ ALL ∷ ALL ∷ []) ∷ (ALL ∷ ALL ∷ 1 ∷ []) ∷ [])
    ≡ found_at 3 70 1 (Known (pos 70) (pos 70)) ∷ no_record ∷ found_at 6 150 2 (Known (pos 50) (pos 100)) ∷ found_at 5 360 5 (Known (pos 50) (pos 100))
    ∷ found_at 8 280 4 (Known (pos 50) (pos 100)) ∷ []
unfolding sets ones ones_in cuboid total proper single listed reach shared common normals ours flat_map
five_answers = refl

-- ---- no rows: 52 bytes, and 40 in edition one; the 24 bytes of the base version stop with 12

abbrev front : List ℕ
front = 1 ∷ 0 ∷ 0 ∷ 0 ∷ 1 ∷ 0 ∷ 0 ∷ 0 ∷ 0 ∷ 0 ∷ 0 ∷ 0 ∷ 1 ∷ 0 ∷ 0 ∷ 0 ∷ 0xFF ∷ 0xFF ∷ 0 ∷ 0 ∷ 0 ∷ 0 ∷ 0 ∷ 0 ∷ 0 ∷ 0 ∷ 0 ∷ 0 ∷ 0 ∷ 0 ∷ 0 ∷ 0 ∷ []

abbrev empty_two : List ℕ
empty_two = 0x43 ∷ 0x55 ∷ 0x42 ∷ 0x32 ∷ front ++ (0 ∷ 0 ∷ 0 ∷ 0 ∷ 0 ∷ 0 ∷ 0 ∷ 0 ∷ 0 ∷ 0 ∷ 0 ∷ 0 ∷ 0x45 ∷ 0x55 ∷ 0x43 ∷ 0x32 ∷ [])

abbrev empty_one : List ℕ
empty_one = 0x43 ∷ 0x55 ∷ 0x42 ∷ 0x45 ∷ front ++ (0x45 ∷ 0x55 ∷ 0x43 ∷ 0x45 ∷ [])

abbrev empty_old : List ℕ
empty_old = 0x43 ∷ 0x55 ∷ 0x42 ∷ 0x45 ∷ 1 ∷ 0 ∷ 0 ∷ 0 ∷ 1 ∷ 0 ∷ 0 ∷ 0 ∷ 0 ∷ 0 ∷ 0 ∷ 0 ∷ 0 ∷ 0 ∷ 0 ∷ 0 ∷ 0x45 ∷ 0x55 ∷ 0x42 ∷ 0x45 ∷ []

empty_bytes : (archive_bytes two (1 ∷ []) [] ≡ empty_two) × (length empty_two ≡ 52) × (archive_bytes one (1 ∷ []) [] ≡ empty_one) × (length empty_one ≡ 40)
    × (bytes_of (convert empty_one) ≡ empty_two)
unfolding convert read walk header field word room many bases entries cells close word_at check_of words archive_bytes required layout base_bytes words_bytes cuboid total normals common shared proper sets ones ones_in flat_map
empty_bytes = (refl, refl, refl, refl, refl)

-- fewer bytes than the opening; the opening and no more; a byte that follows; another opening
empty_stops : map (λ s. stop_of (read_both s)) (empty_two ∷ empty_one ∷ empty_old ∷ take 3 empty_two ∷ take 4 empty_two ∷ (empty_two ++ 0 ∷ []) ∷ (0x43 ∷ 0x55 ∷ 0x42 ∷ 0x46 ∷ []) ∷ [])
    ≡ 0 ∷ 0 ∷ 12 ∷ 1 ∷ 2 ∷ 10 ∷ 1 ∷ []
unfolding read walk header field word room many bases entries cells close word_at check_of words archive_bytes required layout base_bytes words_bytes cuboid total normals common shared proper sets ones ones_in flat_map
empty_stops = refl

-- ---- stop 19: one base row with sum s and count n, and extremes as they stand

abbrev lone : ℕ → ℕ → ℕ → ℕ → ℕ → List ℕ
lone s n k l g = checked (CUB2 ++ words_bytes (1 ∷ 1 ∷ 1 ∷ 0 ∷ s ∷ 0 ∷ n ∷ k ∷ l ∷ g ∷ 1 ∷ 0 ∷ 0 ∷ []))

-- -5 to 5; unknown; a known field of 2; unknown with a least or a greatest that is not zero; a greatest that no least below it makes up for; least above greatest;
-- a known field of 7, and an end in greatest and before it, where 2 goes first
lone_stops : map (λ s. stop_of (read_both s)) (lone 0 2 1 4294967291 5 ∷ lone 0 2 0 0 0 ∷ lone 0 2 2 4294967291 5 ∷ lone 0 2 0 1 0 ∷ lone 0 2 0 0 1 ∷ lone 0 2 1 0 5
    ∷ lone 0 2 1 5 4294967291 ∷ lone 0 2 7 0 0 ∷ take 42 (lone 0 2 7 0 0) ∷ take 40 (lone 0 2 7 0 0) ∷ [])
    ≡ 0 ∷ 0 ∷ 19 ∷ 19 ∷ 19 ∷ 19 ∷ 19 ∷ 19 ∷ 2 ∷ 2 ∷ []
unfolding read walk header field word sum room many bases entries entry rising codes fair can_make amount extremes suits list cells close word_at sum_at check_of words archive_bytes required layout base_bytes words_bytes cuboid total normals common shared single proper listed sets ones ones_in flat_map
lone_stops = refl

-- a count of 1: its sum is least and greatest, or both are unknown; another least, another greatest
lone_one : map (λ s. stop_of (read_both s)) (lone 7 1 1 7 7 ∷ lone 7 1 0 0 0 ∷ lone 7 1 1 6 7 ∷ lone 7 1 1 7 8 ∷ lone 7 1 1 6 6 ∷ []) ≡ 0 ∷ 0 ∷ 19 ∷ 19 ∷ 19 ∷ []
unfolding read walk header field word sum room many bases entries entry rising codes fair can_make amount extremes suits list cells close word_at sum_at check_of words archive_bytes required layout base_bytes words_bytes cuboid total normals common shared single proper listed sets ones ones_in flat_map
lone_one = refl

-- the same faults in a normal entry are stop 12
abbrev blank : ℕ → ℕ → ℕ → List ℕ
blank k l g = checked (CUB2 ++ words_bytes (1 ∷ 1 ∷ 0 ∷ 1 ∷ ALL ∷ 0 ∷ 0 ∷ 0 ∷ k ∷ l ∷ g ∷ []))

blank_stops : map (λ s. stop_of (read_both s)) (blank 0 0 0 ∷ blank 2 0 0 ∷ blank 0 0 1 ∷ blank 1 0 0 ∷ blank 1 1 0 ∷ []) ≡ 0 ∷ 12 ∷ 12 ∷ 12 ∷ 12 ∷ []
unfolding read walk header field word room many bases entries cells close word_at check_of words archive_bytes required layout base_bytes words_bytes cuboid total normals common shared proper sets ones ones_in flat_map
blank_stops = refl
