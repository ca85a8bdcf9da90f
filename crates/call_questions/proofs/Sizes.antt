-- A question's codes beside the sizes that stand in bytes, four bytes for each: what is left of the question fits what is left of the sizes just where the question fits the sizes.
use mathlib.Core.Path.{◌≡◌, refl}
use mathlib.Core.Bool.{true, false}
use mathlib.Core.List.{List, [], ◌∷◌, ◌++◌}
use Prim.Native.Nat.{ℕ, ◌+◌, ◌*◌, ◌<◌}
use native.Mathlib.Omega.{arith}
use lib.ListN.{length}
use Rattle.fields.specs.Words.{word_at, words}
use Rattle.fields.specs.WordsLaws.{words_none}
use Rattle.fields.proofs.Chunks.{words_chunk}
use Rattle.call_questions.specs.Questions.{asks}
use Rattle.call_questions.proofs.Pairs.{allows}

-- the test of what is left, where a code is read beside four bytes
pub asks-more : (bs x rest : List ℕ) (q r : List ℕ) (z c : ℕ) → bs ≡ x ++ rest → length x ≡ 4 → z ≡ word_at x 0 → q ≡ c ∷ r → allows z c ≡ true → asks (words bs) q ≡ asks (words rest) r
asks-more bs x rest q r z c e n v f h = rw (e, words_chunk x rest n, f, ← v, h) refl

pub asks-less : (bs x rest : List ℕ) (q r : List ℕ) (z c : ℕ) → bs ≡ x ++ rest → length x ≡ 4 → z ≡ word_at x 0 → q ≡ c ∷ r → allows z c ≡ false → asks (words bs) q ≡ false
asks-less bs x rest q r z c e n v f h = rw (e, words_chunk x rest n, f, ← v, h) refl

pub asks-none : (bs q : List ℕ) → length bs ≡ 4 * length q → length bs < 4 → asks (words bs) q ≡ true
asks-none bs [] e h = rw (words_none bs h) refl
asks-none bs (c ∷ q) e h = absurd (omega (arith, e, h))
