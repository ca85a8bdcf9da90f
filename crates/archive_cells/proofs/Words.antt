-- Numbers of any type as words, and how a loop writes them: those from place i on are left.
use mathlib.Core.Path.{◌≡◌, refl, ap, ◌∙◌}
use mathlib.Core.List.{List, [], ◌∷◌, ◌++◌, map}
use Prim.Native.Nat.{ℕ, ◌+◌, ◌-◌, ◌≤◌, ◌<◌}
use lib.ListN.{length, get_or, drop, drop_of_length-le}
use borrow.Rule.Slice.PartMut.{mid_of, put_mid}
use Rattle.std.proofs.lemmas.List.{at_drop_more}
use Rattle.fields.specs.Words.{word_bytes, words_bytes}
use Rattle.fields.specs.Written.{Wrote}
use Rattle.archive_cells.specs.Writing.{Writing}
use Rattle.archive_cells.specs.WritingLaws.{writing_more, writing_done}

-- numbers that are converted to themselves
pub as_they_are : (ns : List ℕ) → map (λ n. n) ns ≡ ns
as_they_are [] = refl
as_they_are (n ∷ ns) = ap (λ (l : List ℕ). n ∷ l) (as_they_are ns)

module _ {A : Type 0} (word : A → ℕ) (xs : List A) where
  -- the bytes of those from a place on
  unfoldable pub from : ℕ → List ℕ
  from k = words_bytes (map word (drop k xs))

  pub words_all : from 0 ≡ words_bytes (map word xs)
  unfolding from
  words_all = refl

  module _ (i : ℕ) where
    pub words_next : {x : A} {n : ℕ} → i < length xs → x ≡ get_or xs i x → n ≡ word x → from i ≡ word_bytes n ++ from (i + 1)
    unfolding from words_bytes
    words_next {x} {n} h is e = at_drop_more (λ l. words_bytes (map word l)) xs i x h ∙ rw (← is, ← e)

    pub words_none : length xs ≤ i → from i ≡ []
    unfolding from words_bytes
    words_none h = rw (drop_of_length-le xs {i = i} h)

    module _ {l m : List ℕ} {at : ℕ} (w : Writing (words_bytes (map word xs)) (from i) l m at) where
      -- one more is written over the front of the rest
      pub words_more : {x : A} {n : ℕ} → i < length xs → x ≡ get_or xs i x → n ≡ word x → {r : List ℕ} {k : ℕ} → Wrote (word_bytes n) (mid_of at (length m - at) m) r k
          → Writing (words_bytes (map word xs)) (from (i + 1)) l (put_mid at (length m - at) m r) (at + k)
      words_more {n = n} h is e s = writing_more (word_bytes n) (from (i + 1)) (rw (words_next h is e) at w) s

      pub words_done : length xs ≤ i → Wrote (words_bytes (map word xs)) l m at
      words_done h = writing_done (rw (words_none h) at w)
