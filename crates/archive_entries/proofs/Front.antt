-- Words that were read into the front of a local array are its front.
use mathlib.Core.Path.{◌≡◌, sym, ap, ◌∙◌}
use mathlib.Core.List.{List, ◌++◌}
use Prim.Native.Nat.{ℕ, ◌≤◌}
use native.Mathlib.Omega.{arith}
use lib.ListN.{length, take, drop, length-append}
use lib.Seq.{length-take-le, take_at}
use Rattle.fields.specs.Words.{words_at}
use Rattle.fields.specs.WordsLaws.{length_words_at}

module _ (s l : List ℕ) (n at : ℕ) {xs : List ℕ} (h : n ≤ length l) (e : xs ≡ words_at s (length (take n l)) at) where
  read : xs ≡ words_at s n at
  read = e ∙ ap (λ (k : ℕ). words_at s k at) (length-take-le n l h)

  long : length xs ≡ n
  long = ap length read ∙ length_words_at s n at

  pub front_is : take n (xs ++ drop n l) ≡ words_at s n at
  front_is = take_at xs (drop n l) n long ∙ read

  pub front_length : n ≡ length (take n (xs ++ drop n l))
  front_length = sym (ap length front_is ∙ length_words_at s n at)

  pub front-room : n ≤ length (xs ++ drop n l)
  front-room = rw length-append (omega (arith, long))
