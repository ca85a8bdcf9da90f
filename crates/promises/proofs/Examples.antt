-- The P examples of document 01 on bytes: each is a table's bytes, built, read back, asked and expanded by the definitions of the calls. One list, one theorem.
use mathlib.Core.Path.{◌≡◌, refl}
use mathlib.Core.List.{List, [], ◌∷◌, map, flat_map}
use Prim.Native.Nat.{ℕ, ◌+◌, ◌-◌, ◌*◌, ◌^◌}
use lib.IntN.{pos, negsuc}
use lib.Count.{ones, ones_in}
use lib.ListN.{length}
use Rattle.std.specs.Prelude.{true, false, Option, Some, None, Result, Ok, Err}
use Rattle.fields.specs.Words.{word_at, words, words_bytes}
use Rattle.fields_sums.specs.Twos.{reading_at, sum_at}
use Rattle.fields_check.specs.Check.{check_of}
use Rattle.lattice.specs.Sets.{sets}
use Rattle.fields_walk.specs.Parsed.{Parsed, stop, got, many}
use Rattle.fields_walk.specs.Fields.{room, word, sum, reading, field, codes, header, close}
use Rattle.cube.specs.declared.Total.{Total}
use Rattle.cube.specs.Measure.{Row}
use Rattle.cube.specs.Bounds.{can_make}
use Rattle.cube.specs.Codes.{ALL}
use Rattle.cube.specs.Cube.{cuboid, existing, total, grouped, cells as cells_of}
use Rattle.cube.specs.Condensed.{Entry, proper, single, listed, shared, common, normals, reach}
use Rattle.cube.specs.Table.{folded}
use Rattle.cube.proofs.Examples.{Example, examples}
use Rattle.table.specs.Layout.{table_bytes}
use Rattle.table.specs.Reading.{row, body, read_table}
use Rattle.archive_entries.specs.Layout.{Held, cell_bytes, base_bytes, section, layout, required, archive_bytes}
use Rattle.archive_entries.specs.Reading.{rising, fair, amount, list, entry, entries, bases, cell, cells, walk_archive, read_archive}
use Rattle.call_cuboids.specs.Cuboids.{cuboid_bytes, expansion_bytes}
use Rattle.call_questions.specs.declared.Cell.{Cell}
use Rattle.call_answers.specs.Answers.{Outcome, stop as stopped, bytes, within}
use Rattle.call_answers.specs.Calls.{builds, checks, lists_cuboid, expands, entries_in, told, looks_up}
use Rattle.call_answers.specs.Keys.{lists_keys, tells_fixed}
use Rattle.call_answers.specs.Joins.{joins}
use Rattle.call_answers.specs.Joining.{one as part, both, joined_by}
use Rattle.archive_cells.specs.ListBytes.{list_bytes}
use Rattle.cube.specs.Keys.{key, least_keys, fixes}
use Rattle.fee_shares.specs.Shares.{left, shares}
use Rattle.fee_list.specs.Listed.{fee_bytes}
use Rattle.call_fee.specs.Fees.{weights, shares_fee}
use Rattle.rows_merge.specs.United.{united}
use Rattle.call_add.specs.Adds.{added, adds}
use Rattle.rows_window.specs.Window.{replied}
use Rattle.call_window.specs.Windows.{window, asks_window}

-- what an example says of the bytes: the archive's length and check word, its entries, how long its expansion is, and answers to questions; a refusal is none of these
pub record Told : Type 0 where
  pub length : ℕ
  pub check : ℕ
  pub entries : Parsed (List (Entry Total))
  pub expansion : Parsed ℕ
  pub answers : List (Result (Option Cell) ℕ)

pub record File : Type 0 where
  pub length : ℕ
  pub check : ℕ

abbrev bytes_of : Outcome → List ℕ
bytes_of (stopped n) = []
bytes_of (bytes xs) = xs

abbrev entries_of : Parsed Held → Parsed (List (Entry Total))
entries_of (stop n) = stop n
entries_of (got a rest) = got (entries_in a) rest

abbrev length_of : Outcome → Parsed ℕ
length_of (stopped n) = stop n
length_of (bytes xs) = got (length xs) []

abbrev built : Example → List ℕ
built e = bytes_of (builds (table_bytes (record { sizes = e.sizes; rows = e.rows })))

abbrev on_bytes : Example → Told
on_bytes e = record {
  length = length (built e);
  check = word_at (built e) (length (built e) - 4);
  entries = entries_of (read_archive (built e));
  expansion = length_of (expands (built e));
  answers = map (looks_up (built e)) e.questions;
}

-- an expansion has a count for each set, and its cells
abbrev expected : Example → File → Told
expected e f = record {
  length = f.length;
  check = f.check;
  entries = got e.said.entries [];
  expansion = got (4 * 2 ^ length e.sizes + e.said.cells * (4 * length e.sizes + 12)) [];
  answers = map told e.said.answers;
}

abbrev expects : List Example → List File → List Told
expects [] fs = []
expects (e ∷ es) [] = []
expects (e ∷ es) (f ∷ fs) = expected e f ∷ expects es fs

abbrev file : ℕ → ℕ → File
file n w = record { length = n; check = w }

abbrev files : List File
files = file 324 0x454c5b58 ∷ file 48 0x45425549 ∷ file 124 0x45455566 ∷ file 224 0x45485572 ∷ file 40 0x45435545 ∷ file 104 0x454255a3 ∷ []

pub as_document_01_says : map on_bytes examples ≡ expects examples files
unfolding builds expands looks_up expansion_bytes cuboid_bytes read_table body row reading reading_at table_bytes folded read_archive walk_archive header field word sum sum_at room many codes rising fair amount list entry bases entries cell cells close word_at check_of words archive_bytes required layout base_bytes cell_bytes listed single can_make normals common shared proper cuboid existing total grouped cells_of reach sets ones ones_in words_bytes flat_map
as_document_01_says = refl

-- ---- The five rows: 108 bytes, 324 bytes, ten entries; an output of 324 bytes suffices and one of 323 does not; a cuboid; a set that is none.

abbrev read : List ℕ → ℕ → Row Total
read x n = record { codes = x; total = record { sum = pos n; count = 1 } }

abbrev many_read : List ℕ → ℕ → ℕ → Row Total
many_read x n k = record { codes = x; total = record { sum = pos n; count = k } }

abbrev five : List ℕ
five = table_bytes (record { sizes = 7 ∷ 6 ∷ 3 ∷ []; rows = read (0 ∷ 1 ∷ 1 ∷ []) 50 ∷ read (1 ∷ 1 ∷ 1 ∷ []) 100 ∷ read (2 ∷ 3 ∷ 1 ∷ []) 60 ∷ read (4 ∷ 5 ∷ 1 ∷ []) 70 ∷ read (6 ∷ 5 ∷ 2 ∷ []) 80 ∷ [] })

pub five_lengths : map length (five ∷ bytes_of (builds five) ∷ bytes_of (within 324 (builds five)) ∷ []) ≡ 108 ∷ 324 ∷ 324 ∷ []
unfolding builds read_table body row reading reading_at table_bytes folded header field word room many codes close word_at check_of words archive_bytes required layout base_bytes cell_bytes listed single normals common shared proper cuboid existing total grouped cells_of sets ones ones_in words_bytes flat_map
five_lengths = refl

pub five_short : within 323 (builds five) ≡ stopped 15
unfolding builds read_table body row reading reading_at table_bytes folded header field word room many codes close word_at check_of words archive_bytes required layout base_bytes cell_bytes listed single normals common shared proper cuboid existing total grouped cells_of sets ones ones_in words_bytes flat_map
five_short = refl

pub five_checked : checks (bytes_of (builds five)) ≡ Ok (record { bases = 5; cells = 5 })
unfolding checks builds read_table body row reading reading_at table_bytes folded read_archive walk_archive header field word sum sum_at room many codes rising fair amount list entry bases entries cell cells close word_at check_of words archive_bytes required layout base_bytes cell_bytes listed single can_make normals common shared proper cuboid existing total grouped cells_of sets ones ones_in words_bytes flat_map
five_checked = refl

pub five_listed : map (lists_cuboid (bytes_of (builds five))) (2 ∷ 8 ∷ [])
    ≡ bytes (section cell_bytes (many_read (ALL ∷ 1 ∷ ALL ∷ []) 150 2 ∷ many_read (ALL ∷ 3 ∷ ALL ∷ []) 60 1 ∷ many_read (ALL ∷ 5 ∷ ALL ∷ []) 150 2 ∷ [])) ∷ stopped 14 ∷ []
unfolding lists_cuboid cuboid_bytes builds read_table body row reading reading_at table_bytes folded read_archive walk_archive header field word sum sum_at room many codes rising fair amount list entry bases entries cell cells close word_at check_of words archive_bytes required layout base_bytes cell_bytes listed single can_make normals common shared proper cuboid existing total grouped cells_of sets ones ones_in words_bytes flat_map
five_listed = refl

-- ---- No rows at D 1, size 1: 40 bytes that end with the check word 45435545 (hexadecimal)

pub empty_built : builds (table_bytes (record { sizes = 1 ∷ []; rows = [] }))
    ≡ bytes (0x43 ∷ 0x55 ∷ 0x42 ∷ 0x45 ∷ 1 ∷ 0 ∷ 0 ∷ 0 ∷ 1 ∷ 0 ∷ 0 ∷ 0 ∷ 0 ∷ 0 ∷ 0 ∷ 0 ∷ 1 ∷ 0 ∷ 0 ∷ 0
    ∷ 0xFF ∷ 0xFF ∷ 0 ∷ 0 ∷ 0 ∷ 0 ∷ 0 ∷ 0 ∷ 0 ∷ 0 ∷ 0 ∷ 0 ∷ 0 ∷ 0 ∷ 0 ∷ 0 ∷ 0x45 ∷ 0x55 ∷ 0x43 ∷ 0x45 ∷ [])
unfolding builds read_table body row reading reading_at table_bytes folded header field word room many codes close word_at check_of words archive_bytes required layout base_bytes cell_bytes listed single normals common shared proper cuboid existing total grouped cells_of sets ones ones_in words_bytes flat_map
empty_built = refl

-- ---- C-12: the five rows have the key 1 alone; the second dimension does not fix the third; stops 14 and 16

pub five_keys : lists_keys (bytes_of (builds five)) ≡ bytes (1 ∷ 0 ∷ 0 ∷ 0 ∷ 1 ∷ 0 ∷ 0 ∷ 0 ∷ [])
unfolding lists_keys list_bytes least_keys key builds read_table body row reading reading_at table_bytes folded read_archive walk_archive header field word sum sum_at room many codes rising fair amount list entry bases entries cell cells close word_at check_of words archive_bytes required layout base_bytes cell_bytes listed single can_make normals common shared proper cuboid existing total grouped cells_of sets ones ones_in words_bytes flat_map
five_keys = refl

pub five_fixed : map (tells_fixed (bytes_of (builds five)) 2) (2 ∷ 3 ∷ 0 ∷ 4 ∷ []) ≡ Ok true ∷ Ok false ∷ Err 16 ∷ Err 16 ∷ []
unfolding tells_fixed fixes builds read_table body row reading reading_at table_bytes folded read_archive walk_archive header field word sum sum_at room many codes rising fair amount list entry bases entries cell cells close word_at check_of words archive_bytes required layout base_bytes cell_bytes listed single can_make normals common shared proper cuboid existing total grouped cells_of sets ones ones_in words_bytes flat_map
five_fixed = refl

pub five_no_set : tells_fixed (bytes_of (builds five)) 8 0 ≡ Err 14
unfolding tells_fixed fixes builds read_table body row reading reading_at table_bytes folded read_archive walk_archive header field word sum sum_at room many codes rising fair amount list entry bases entries cell cells close word_at check_of words archive_bytes required layout base_bytes cell_bytes listed single can_make normals common shared proper cuboid existing total grouped cells_of sets ones ones_in words_bytes flat_map
five_no_set = refl

-- rows that are repeated are one base row and spoil no key: dimension 1 alone, and of one row the empty set
abbrev repeated : List ℕ
repeated = table_bytes (record { sizes = 2 ∷ 1 ∷ []; rows = read (0 ∷ 0 ∷ []) 5 ∷ read (1 ∷ 0 ∷ []) 6 ∷ read (0 ∷ 0 ∷ []) 7 ∷ read (1 ∷ 0 ∷ []) 8 ∷ [] })

abbrev one : List ℕ
one = table_bytes (record { sizes = 2 ∷ 1 ∷ []; rows = read (1 ∷ 0 ∷ []) 5 ∷ read (1 ∷ 0 ∷ []) 6 ∷ [] })

abbrev none : List ℕ
none = table_bytes (record { sizes = 2 ∷ 1 ∷ []; rows = [] })

pub repeated_keys : map (λ s. lists_keys (bytes_of (builds s))) (repeated ∷ one ∷ none ∷ []) ≡ bytes (list_bytes (1 ∷ [])) ∷ bytes (list_bytes (0 ∷ [])) ∷ bytes (list_bytes (0 ∷ [])) ∷ []
unfolding lists_keys list_bytes least_keys key builds read_table body row reading reading_at table_bytes folded read_archive walk_archive header field word sum sum_at room many codes rising fair amount list entry bases entries cell cells close word_at check_of words archive_bytes required layout base_bytes cell_bytes listed single can_make normals common shared proper cuboid existing total grouped cells_of sets ones ones_in words_bytes flat_map
repeated_keys = refl

-- ---- C-22: a fee over the cells of the five rows' second dimension, whose counts are 2, 1 and 2

pub five_shared : map (shares_fee (bytes_of (builds five)) 101) (2 ∷ 8 ∷ []) ≡ bytes (words_bytes (3 ∷ 41 ∷ 20 ∷ 40 ∷ [])) ∷ stopped 14 ∷ []
unfolding shares_fee weights fee_bytes list_bytes shares left builds read_table body row reading reading_at table_bytes folded read_archive walk_archive header field word sum sum_at room many codes rising fair amount list entry bases entries cell cells close word_at check_of words archive_bytes required layout base_bytes cell_bytes listed single can_make normals common shared proper cuboid existing total grouped cells_of sets ones ones_in words_bytes flat_map
five_shared = refl

-- no rows: there is a cell, yet nothing to share by; 14 before 23 before 24
abbrev no_rows : List ℕ
no_rows = bytes_of (builds (table_bytes (record { sizes = 1 ∷ []; rows = [] })))

pub empty-shared : shares_fee no_rows 5 0 ∷ shares_fee no_rows 1000000001 0 ∷ shares_fee no_rows 1000000001 2 ∷ [] ≡ stopped 24 ∷ stopped 23 ∷ stopped 14 ∷ []
unfolding shares_fee builds read_table body row reading reading_at table_bytes folded read_archive walk_archive header field word sum sum_at room many codes rising fair amount list entry bases entries cell cells close word_at check_of words archive_bytes required layout base_bytes cell_bytes listed single can_make normals common shared proper cuboid existing total grouped cells_of sets ones ones_in words_bytes flat_map
empty-shared = refl

-- ---- C-15: the five rows joined with themselves, every sum and count twice; with no rows, either way round, which leaves their bytes; with other sizes

abbrev no_five : List ℕ
no_five = bytes_of (builds (table_bytes (record { sizes = 7 ∷ 6 ∷ 3 ∷ []; rows = [] })))

abbrev five_twice : List (Row Total)
five_twice = many_read (0 ∷ 1 ∷ 1 ∷ []) 100 2 ∷ many_read (1 ∷ 1 ∷ 1 ∷ []) 200 2 ∷ many_read (2 ∷ 3 ∷ 1 ∷ []) 120 2 ∷ many_read (4 ∷ 5 ∷ 1 ∷ []) 140 2 ∷ many_read (6 ∷ 5 ∷ 2 ∷ []) 160 2 ∷ []

pub five_joined : map (joins (bytes_of (builds five))) (bytes_of (builds five) ∷ no_five ∷ no_rows ∷ []) ≡ bytes (archive_bytes (7 ∷ 6 ∷ 3 ∷ []) five_twice) ∷ builds five ∷ stopped 17 ∷ []
unfolding joins united builds read_table body row reading reading_at table_bytes folded read_archive walk_archive header field word sum sum_at room many codes rising fair amount list entry bases entries cell cells close word_at check_of words archive_bytes required layout base_bytes cell_bytes listed single can_make normals common shared proper cuboid existing total grouped cells_of sets ones ones_in words_bytes flat_map
five_joined = refl

pub joined_five : joins no_five (bytes_of (builds five)) ≡ builds five
unfolding joins united builds read_table body row reading reading_at table_bytes folded read_archive walk_archive header field word sum sum_at room many codes rising fair amount list entry bases entries cell cells close word_at check_of words archive_bytes required layout base_bytes cell_bytes listed single can_make normals common shared proper cuboid existing total grouped cells_of sets ones ones_in words_bytes flat_map
joined_five = refl

-- the five rows in three tables, one without rows, in another order
abbrev three : List (Row Total) → List ℕ
three rows = table_bytes (record { sizes = 7 ∷ 6 ∷ 3 ∷ []; rows = rows })

pub five_parts : joined_by builds (both (part (three (read (6 ∷ 5 ∷ 2 ∷ []) 80 ∷ read (1 ∷ 1 ∷ 1 ∷ []) 100 ∷ []))) (both (part (three [])) (part (three (read (4 ∷ 5 ∷ 1 ∷ []) 70 ∷ read (0 ∷ 1 ∷ 1 ∷ []) 50 ∷ read (2 ∷ 3 ∷ 1 ∷ []) 60 ∷ [])))))
    ≡ builds five
unfolding joins united builds read_table body row reading reading_at table_bytes folded read_archive walk_archive header field word sum sum_at room many codes rising fair amount list entry bases entries cell cells close word_at check_of words archive_bytes required layout base_bytes cell_bytes listed single can_make normals common shared proper cuboid existing total grouped cells_of sets ones ones_in words_bytes flat_map
five_parts = refl

-- ---- C-18: a record of known codes added to the five rows, and one of new codes: one entry for the row, and one for (*,5,1), in which two rows fall now; codes that are no row's

pub five_added : adds (bytes_of (builds five)) (0 ∷ 1 ∷ 1 ∷ []) (negsuc 49)
    ≡ bytes (archive_bytes (7 ∷ 6 ∷ 3 ∷ []) (many_read (0 ∷ 1 ∷ 1 ∷ []) 0 2 ∷ read (1 ∷ 1 ∷ 1 ∷ []) 100 ∷ read (2 ∷ 3 ∷ 1 ∷ []) 60 ∷ read (4 ∷ 5 ∷ 1 ∷ []) 70 ∷ read (6 ∷ 5 ∷ 2 ∷ []) 80 ∷ []))
unfolding adds added united builds read_table body row reading reading_at table_bytes folded read_archive walk_archive header field word sum sum_at room many codes rising fair amount list entry bases entries cell cells close word_at check_of words archive_bytes required layout base_bytes cell_bytes listed single can_make normals common shared proper cuboid existing total grouped cells_of sets ones ones_in words_bytes flat_map
five_added = refl

pub five_grown : checks (bytes_of (builds five)) ∷ checks (bytes_of (adds (bytes_of (builds five)) (3 ∷ 5 ∷ 1 ∷ []) (pos 10))) ∷ [] ≡ Ok (record { bases = 5; cells = 5 }) ∷ Ok (record { bases = 6; cells = 6 }) ∷ []
unfolding checks adds added united builds read_table body row reading reading_at table_bytes folded read_archive walk_archive header field word sum sum_at room many codes rising fair amount list entry bases entries cell cells close word_at check_of words archive_bytes required layout base_bytes cell_bytes listed single can_make normals common shared proper cuboid existing total grouped cells_of sets ones ones_in words_bytes flat_map
five_grown = refl

pub five_unadded : map (λ x. adds (bytes_of (builds five)) x (pos 10)) ((7 ∷ 1 ∷ 1 ∷ []) ∷ (ALL ∷ 1 ∷ 1 ∷ []) ∷ (0 ∷ 1 ∷ []) ∷ (0 ∷ 1 ∷ 1 ∷ 0 ∷ []) ∷ []) ≡ stopped 13 ∷ stopped 13 ∷ stopped 13 ∷ stopped 13 ∷ []
unfolding adds added builds read_table body row reading reading_at table_bytes folded read_archive walk_archive header field word sum sum_at room many codes rising fair amount list entry bases entries cell cells close word_at check_of words archive_bytes required layout base_bytes cell_bytes listed single can_make normals common shared proper cuboid existing total grouped cells_of sets ones ones_in words_bytes flat_map
five_unadded = refl

-- ---- C-19: the five rows through a window: the chip of code 4, and the second dimension's code 5; 16 before 13 before 20

pub five_windowed : map (asks_window (bytes_of (builds five)) 1 4) ((4 ∷ ALL ∷ ALL ∷ []) ∷ (4 ∷ 5 ∷ 2 ∷ []) ∷ (6 ∷ 5 ∷ 2 ∷ []) ∷ (ALL ∷ 5 ∷ 1 ∷ []) ∷ (6 ∷ 6 ∷ 2 ∷ []) ∷ []) ≡ Ok (Some (record { sum = pos 70; count = 1 })) ∷ Ok None ∷ Err 20 ∷ Err 20 ∷ Err 13 ∷ []
unfolding asks_window window replied builds read_table body row reading reading_at table_bytes folded read_archive walk_archive header field word sum sum_at room many codes rising fair amount list entry bases entries cell cells close word_at check_of words archive_bytes required layout base_bytes cell_bytes listed single can_make normals common shared proper cuboid existing total grouped cells_of sets ones ones_in words_bytes flat_map
five_windowed = refl

pub five_seen : map (asks_window (bytes_of (builds five)) 2 5) ((ALL ∷ 5 ∷ ALL ∷ []) ∷ (ALL ∷ 5 ∷ 1 ∷ []) ∷ (ALL ∷ ALL ∷ ALL ∷ []) ∷ []) ≡ Ok (Some (record { sum = pos 150; count = 2 })) ∷ Ok (Some (record { sum = pos 70; count = 1 })) ∷ Err 20 ∷ []
unfolding asks_window window replied builds read_table body row reading reading_at table_bytes folded read_archive walk_archive header field word sum sum_at room many codes rising fair amount list entry bases entries cell cells close word_at check_of words archive_bytes required layout base_bytes cell_bytes listed single can_make normals common shared proper cuboid existing total grouped cells_of sets ones ones_in words_bytes flat_map
five_seen = refl

pub five_no_window : asks_window (bytes_of (builds five)) 0 7 [] ∷ asks_window (bytes_of (builds five)) 4 7 [] ∷ asks_window (bytes_of (builds five)) 1 7 [] ∷ asks_window (bytes_of (builds five)) 1 6 [] ∷ [] ≡ Err 16 ∷ Err 16 ∷ Err 13 ∷ Err 13 ∷ []
unfolding asks_window window builds read_table body row reading reading_at table_bytes folded read_archive walk_archive header field word sum sum_at room many codes rising fair amount list entry bases entries cell cells close word_at check_of words archive_bytes required layout base_bytes cell_bytes listed single can_make normals common shared proper cuboid existing total grouped cells_of sets ones ones_in words_bytes flat_map
five_no_window = refl
