-- Numbers as fields.
--
--   list_bytes l   a list of numbers: how many there are, then the numbers
use Rattle.std.specs.Prelude.{◌≡◌, refl, List, ◌∷◌, ◌++◌, ℕ, ◌+◌, ◌*◌, length}
use Rattle.std.proofs.Common.{arith}
use Rattle.fields.specs.Words.{word_bytes, words_bytes}
use Rattle.fields.specs.WordsLaws.{length_words_bytes}

unfoldable pub list_bytes : List ℕ → List ℕ
list_bytes l = words_bytes (length l ∷ l)

-- field after field
pub list_is : (l : List ℕ) → list_bytes l ≡ word_bytes (length l) ++ words_bytes l
unfolding list_bytes words_bytes
list_is l = refl

pub list_length : (l : List ℕ) → length (list_bytes l) ≡ 4 + 4 * length l
unfolding list_bytes
list_length l = omega (arith, length_words_bytes (length l ∷ l))
