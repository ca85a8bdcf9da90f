-- How many entries the small tables have (document 02, C-23).
--
--   entries d rows      how many entries the archive of a table has: those of our condensed cube of its base rows
--   has d n rows        the table has n entries
--   having d n          the small tables with n entries
--   tally d n           how many there are
--   most_entries d       no small table has more entries
--   occurs d n          there is a small table with n entries
--   occurring d         the numbers of entries that occur, rising
--   fields d            what is printed for d: d, then each number of entries that occurs with its tally
use Rattle.std.specs.Prelude.{Bool, ℕ, suc, ◌+◌, ◌*◌, ◌^◌, eqb, ltb, length}
use mathlib.Core.List.{List, [], ◌∷◌, flat_map}
use Rattle.lists.specs.Lists.{keep}
use Rattle.cube.specs.declared.Total.{Total}
use Rattle.cube.specs.Measure.{Row, sums}
use Rattle.cube.specs.Codes.{plain}
use Rattle.cube.specs.Condensed.{ours}
use Rattle.cube.specs.Table.{folded}
use Rattle.small_model.specs.Small.{up_to, tables}

unfoldable pub entries : ℕ → List (Row Total) → ℕ
entries d rows = length (ours (plain d) sums (folded sums d rows))

abbrev pub has : ℕ → ℕ → List (Row Total) → Bool
has d n rows = eqb (entries d rows) n

unfoldable pub having : ℕ → ℕ → List (List (Row Total))
having d n = keep (has d n) (tables d)

abbrev pub tally : ℕ → ℕ → ℕ
tally d n = length (having d n)

abbrev pub most_entries : ℕ → ℕ
most_entries d = 2 ^ d + 2 ^ d * 2 ^ d

abbrev pub occurs : ℕ → ℕ → Bool
occurs d n = ltb 0 (tally d n)

unfoldable pub occurring : ℕ → List ℕ
occurring d = keep (occurs d) (up_to (suc (most_entries d)))

unfoldable pub fields : ℕ → List ℕ
fields d = d ∷ flat_map (λ n. n ∷ tally d n ∷ []) (occurring d)
