-- What stands at a place of an archive.
--
--   row_there s d at      the codes, the sum and the count of an entry
--   list_there s d at     the list of a base entry
--   base_there s d at     a base entry
--   width_there s d at    how many bytes a base entry takes
--   codes_before s d p    the codes of the entry before, whose place is p; none before the first entry
--   Before s d p          the bytes have these codes
use Rattle.std.specs.Prelude.{List, [], ℕ, ◌+◌, ◌*◌, ◌≤◌, length, Option, Some, None}
use Rattle.fields.specs.Words.{word_at, words_at}
use Rattle.fields_sums.specs.Twos.{sum_at}
use Rattle.cube.specs.declared.Total.{Total}
use Rattle.cube.specs.Measure.{Row}
use Rattle.archive_entries.specs.Layout.{Based}

abbrev pub row_there : List ℕ → ℕ → ℕ → Row Total
row_there s d at = record { codes = words_at s d at; total = record { sum = sum_at s (at + 4 * d); count = word_at s (at + 4 * d + 8) } }

abbrev pub list_there : List ℕ → ℕ → ℕ → List ℕ
list_there s d at = words_at s (word_at s (at + 4 * d + 12)) (at + 4 * d + 16)

abbrev pub base_there : List ℕ → ℕ → ℕ → Based
base_there s d at = record { row = row_there s d at; list = list_there s d at }

abbrev pub width_there : List ℕ → ℕ → ℕ → ℕ
width_there s d at = 4 * d + 16 + 4 * word_at s (at + 4 * d + 12)

abbrev pub codes_before : List ℕ → ℕ → Option ℕ → List ℕ
codes_before s d None = []
codes_before s d (Some p) = words_at s d p

abbrev pub Before : List ℕ → ℕ → Option ℕ → Type 0
Before s d None = Unit {0}
Before s d (Some p) = p + 4 * d ≤ length s
