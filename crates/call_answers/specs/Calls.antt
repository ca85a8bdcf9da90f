-- What the five calls compute (document 01), each from the bytes that it is given.
--
--   builds s            the archive of the table s (stops 1 to 6, 10, 11)
--   checks s            the base count and the normal count of the archive s (stops 1 to 12)
--   lists_cuboid s set   the cuboid of a set, listed (stops 1 to 12, 14)
--   expands s           the expansion of the archive s (stops 1 to 12)
--   entries_in a         the entries that an archive holds
--   looks_up s q         the answer of the archive s to the question q: a cell with its entry's number, or none for 'no record' (stops 1 to 13)
use Rattle.std.specs.Prelude.{cond, List, ◌++◌, map, ℕ, ◌^◌, ltb, length, Option, Result, Ok, Err}
use Rattle.fields_walk.specs.Parsed.{Parsed, stop, got}
use Rattle.cube.specs.declared.Total.{Total}
use Rattle.cube.specs.Codes.{plain}
use Rattle.cube.specs.Condensed.{Entry, base, normal, Answer, lookup}
use Rattle.table.specs.Layout.{Records}
use Rattle.table.specs.Reading.{read_table, base_rows}
use Rattle.archive_entries.specs.Layout.{Held, archive_bytes}
use Rattle.archive_entries.specs.Reading.{read_archive, rows_in}
use Rattle.call_questions.specs.declared.Cell.{Cell}
use Rattle.call_questions.specs.Questions.{asks, looked}
use Rattle.call_cuboids.specs.Cuboids.{cuboid_bytes, expansion_bytes}
use Rattle.call_answers.specs.declared.Counts.{Counts}
use Rattle.call_answers.specs.Answers.{Outcome, stop as stopped, bytes, refuse_unless}

-- what was read settles the outcome
abbrev pub outcome : {A : Type 0} → (A → Outcome) → Parsed A → Outcome
outcome f (stop n) = stopped n
outcome f (got v rest) = f v

abbrev pub dims : Held → ℕ
dims a = length a.sizes

-- ---- build

abbrev pub archived : Records → Outcome
archived t = bytes (archive_bytes t.sizes (base_rows t))

unfoldable pub builds : List ℕ → Outcome
builds s = outcome archived (read_table s)

-- ---- check

abbrev pub counted : Parsed Held → Result Counts ℕ
counted (stop n) = Err n
counted (got a rest) = Ok (record { bases = length a.bases; cells = length a.cells })

unfoldable pub checks : List ℕ → Result Counts ℕ
checks s = counted (read_archive s)

-- ---- list a cuboid, expand

abbrev pub cuboid_of : ℕ → Held → Outcome
cuboid_of set a = refuse_unless (ltb set (2 ^ dims a)) 14 (bytes (cuboid_bytes (dims a) (rows_in a) set))

unfoldable pub lists_cuboid : List ℕ → ℕ → Outcome
lists_cuboid s set = outcome (cuboid_of set) (read_archive s)

abbrev pub expanded : Held → Outcome
expanded a = bytes (expansion_bytes (dims a) (rows_in a))

unfoldable pub expands : List ℕ → Outcome
expands s = outcome expanded (read_archive s)

-- ---- look up

abbrev pub entries_in : Held → List (Entry Total)
entries_in a = map (λ b. base b.row b.list) a.bases ++ map normal a.cells

-- 'no record' is a result and no refusal
abbrev pub told : Answer Total → Result (Option Cell) ℕ
told a = Ok (looked a)

abbrev pub answered : List ℕ → Parsed Held → Result (Option Cell) ℕ
answered q (stop n) = Err n
answered q (got a rest) = cond (asks a.sizes q) (told (lookup (plain (dims a)) q (entries_in a))) (Err 13)

unfoldable pub looks_up : List ℕ → List ℕ → Result (Option Cell) ℕ
looks_up s q = answered q (read_archive s)
