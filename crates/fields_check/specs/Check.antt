-- The check word, which ends a file.
--
--   words_sum ws    the sum of a list of words
--   check_sum ws    that sum modulo 2 ^ 32
--   check_of s      the check word of the bytes before it: the sum of their words, modulo 2 ^ 32
--   checked body   a body with its check word straight after it
use Rattle.std.specs.Prelude.{ℕ, ◌+◌, ◌%◌, ◌^◌, List, [], ◌∷◌, ◌++◌}
use Rattle.fields.specs.Words.{words, word_bytes}

abbrev pub words_sum : List ℕ → ℕ
words_sum [] = 0
words_sum (w ∷ ws) = w + words_sum ws

abbrev pub check_sum : List ℕ → ℕ
check_sum ws = words_sum ws % 2 ^ 32

unfoldable pub check_of : List ℕ → ℕ
check_of s = check_sum (words s)

abbrev pub checked : List ℕ → List ℕ
checked body = body ++ word_bytes (check_of body)
