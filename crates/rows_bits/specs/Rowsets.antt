-- A set of rows below 1,024 as bits: 32 words of 32 rows, the first row in the lowest bit.
--
--   has words x        row x is in the set
--   stays passed x     row x is not among the rows that are passed over
--   empty words        each word is 0
use Rattle.std.specs.Prelude.{Bool, not, List, ℕ, ◌/◌, ◌%◌, ◌^◌, eqb, get_or}
use Rattle.lists.specs.Lists.{every}

unfoldable pub has : List ℕ → ℕ → Bool
has words x = eqb (get_or words (x / 32) 0 / 2 ^ (x % 32) % 2) 1

abbrev pub stays : List ℕ → ℕ → Bool
stays passed x = not (has passed x)

unfoldable pub empty : List ℕ → Bool
empty words = every (eqb 0) words
