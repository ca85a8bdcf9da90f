-- Words: 32 bits, unsigned, the lowest byte first.
--
--   word a b c d    the word of four bytes
--   word_at s at     the word at byte offset at of s
--   words_at s n at  the n words from a byte offset on
--   word_bytes w     the four bytes of a word
--   words s         the words of s from its start; up to three bytes left at the end are no word
--   words_bytes ws   the bytes of a list of words
--   are_words ws     each number of the list is a word
use Rattle.std.specs.Prelude.{Bool, true, ◌&&◌, List, [], ◌∷◌, ◌++◌, ℕ, zero, suc, ◌+◌, ◌*◌, ◌/◌, ◌%◌, ◌^◌, ltb, get_or}

abbrev pub word : ℕ → ℕ → ℕ → ℕ → ℕ
word a b c d = a + 256 * b + 65536 * c + 16777216 * d

unfoldable pub word_at : List ℕ → ℕ → ℕ
word_at s at = word (get_or s at 0) (get_or s (at + 1) 0) (get_or s (at + 2) 0) (get_or s (at + 3) 0)

abbrev pub word_bytes : ℕ → List ℕ
word_bytes w = w % 256 ∷ w / 256 % 256 ∷ w / 256 / 256 % 256 ∷ w / 256 / 256 / 256 % 256 ∷ []

unfoldable pub words_at : List ℕ → ℕ → ℕ → List ℕ
words_at s zero at = []
words_at s (suc n) at = word_at s at ∷ words_at s n (at + 4)

unfoldable pub words : List ℕ → List ℕ
words [] = []
words (a ∷ []) = []
words (a ∷ b ∷ []) = []
words (a ∷ b ∷ c ∷ []) = []
words (a ∷ b ∷ c ∷ d ∷ rest) = word a b c d ∷ words rest

unfoldable pub words_bytes : List ℕ → List ℕ
words_bytes [] = []
words_bytes (w ∷ ws) = word_bytes w ++ words_bytes ws

abbrev pub are_words : List ℕ → Bool
are_words [] = true
are_words (w ∷ ws) = ltb w (2 ^ 32) && are_words ws
