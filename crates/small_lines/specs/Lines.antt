-- Tallies as text (document 02, C-23): "D, then each number of entries that occurs, rising, followed by its tally, one space between fields".
--
--   gap n           a space, and a number
--   spaced l        numbers with one space between them
--   line d          the line for d
--   report          the three lines
--   pair_text n c    a number of entries and its tally, each behind a space
--   text_from k l    those of the tallies l, from k entries on, that are not 0
use mathlib.Core.List.{List, [], ◌∷◌, ◌++◌, flat_map}
use Rattle.std.specs.Prelude.{ℕ, zero, suc}
use Rattle.text_decimals.specs.Decimals.{ascii, decimal}
use Rattle.small_model.specs.Tally.{fields}

unfoldable pub gap : ℕ → List ℕ
gap n = ascii " " ++ decimal n

unfoldable pub spaced : List ℕ → List ℕ
spaced [] = []
spaced (n ∷ l) = decimal n ++ flat_map gap l

unfoldable pub line : ℕ → List ℕ
line d = spaced (fields d) ++ ascii "\n"

unfoldable pub report : List ℕ
report = line 1 ++ (line 2 ++ line 3)

unfoldable pub pair_text : ℕ → ℕ → List ℕ
pair_text n c = gap n ++ gap c

unfoldable pub text_from : ℕ → List ℕ → List ℕ
text_from k [] = []
text_from k (zero ∷ l) = text_from (suc k) l
text_from k (suc c ∷ l) = pair_text k (suc c) ++ text_from (suc k) l
