-- The small tables as files, and what `build` writes for one (document 02, C-23).
--
--   small d rows        a table of d dimensions with sizes 2 and these rows
--   BuiltWith d rows n  `build` writes for it an archive that is accepted and has n entries
use Rattle.std.specs.Prelude.{◌≡◌, List, [], ℕ, length, replicate}
use Rattle.fields_walk.specs.Parsed.{got}
use Rattle.cube.specs.declared.Total.{Total}
use Rattle.cube.specs.Measure.{Row}
use Rattle.table.specs.Layout.{Records, table_bytes}
use Rattle.archive_entries.specs.Layout.{Held}
use Rattle.archive_entries.specs.Reading.{read_archive}
use Rattle.call_answers.specs.Answers.{bytes}
use Rattle.call_answers.specs.Calls.{builds, entries_in}

abbrev pub small : ℕ → List (Row Total) → Records
small d rows = record { sizes = replicate d 2; rows = rows }

abbrev pub BuiltWith : ℕ → List (Row Total) → ℕ → Type 0
BuiltWith d rows n = (s : List ℕ) × (a : Held) × (builds (table_bytes (small d rows)) ≡ bytes s) × (read_archive s ≡ got a []) × (length (entries_in a) ≡ n)
