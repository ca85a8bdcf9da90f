-- The words of the nodes one level coarser, dimension by dimension.
use mathlib.Core.Path.{◌≡◌, refl, sym, ◌∙◌, ap, ap₂}
use mathlib.Core.Bool.{Bool, true, false, ◌&&◌, ◌||◌, or_assoc}
use mathlib.Core.List.{List, [], ◌∷◌, map}
use Prim.Native.Nat.{ℕ, suc, ◌+◌, ◌*◌, ◌/◌, ◌%◌, ◌<◌, ◌≤◌}
use native.Mathlib.Omega.{arith}
use native.Mathlib.Nat.{mul_assoc, mul-one, one-mul}
use lib.Dec.{ltb}
use lib.ListN.{length, get_or, drop, drop_of_length-le}
use lib.Seq.{drop-cons}
use borrow.Author.Tests.{lt-ltb, le-ltb}
use Rattle.lists.specs.Lists.{some}
use Rattle.lists.proofs.Tests.{cases, truth}
use Rattle.rows_bits.specs.Rowsets.{has}
use Rattle.rows_alone.specs.Alone.{words_of}
use Rattle.family_nodes.specs.Coarser.{rises}
use Rattle.family_alone.specs.Alone.{passed_over, raised}

some-map : {A B : Type 0} (p : B → Bool) (g : A → B) (l : List A) → some p (map g l) ≡ some (λ x. p (g x)) l
some-map p g [] = refl
some-map p g (x ∷ l) = ap (λ b. p (g x) || b) (some-map p g l)

some_as : {A : Type 0} (p q : A → Bool) (l : List A) → ((x : A) → p x ≡ q x) → some p l ≡ some q l
some_as p q [] h = refl
some_as p q (x ∷ l) h = ap₂ ◌||◌ (h x) (some_as p q l h)

module _ (alone : List ℕ) (node x : ℕ) where
  -- row x is in the words of the node that is so much higher
  in_words : ℕ → Bool
  in_words s = has (words_of alone (node + s)) x

  raised-rises : (f : ℕ) (hs : List ℕ) (q : ℕ) → raised alone node f hs q x ≡ some (λ s. in_words (f * s)) (rises hs q)
  unfolding raised in_words
  raised-rises f [] q = refl
  raised-rises f (h ∷ hs) q =
      let e : suc (q % h) ≡ q % h + 1 = omega arith in
      let tail : raised alone node (f * h) hs (q / h) x ≡ some (λ s. in_words (f * s)) (map (λ s. h * s) (rises hs (q / h))) =
      raised-rises (f * h) hs (q / h)
      ∙ some_as (λ s. in_words (f * h * s)) (λ s. in_words (f * (h * s))) (rises hs (q / h)) (λ s. ap in_words (mul_assoc f h s))
      ∙ sym (some-map (λ s. in_words (f * s)) (λ s. h * s) (rises hs (q / h))) in
      cases (truth (ltb (suc (q % h)) h))
      (λ t. let u : ltb (q % h + 1) h ≡ true = ap (λ m. ltb m h) (sym e) ∙ t in
      rw (t, u) (ap₂ ◌||◌ (ap in_words (sym (mul-one f))) tail))
      (λ t. let u : ltb (q % h + 1) h ≡ false = ap (λ m. ltb m h) (sym e) ∙ t in rw (t, u) tail)

  pub raised_all : (hs : List ℕ) → raised alone node 1 hs node x ≡ passed_over alone hs node x
  unfolding passed_over in_words
  raised_all hs = raised-rises 1 hs node ∙ some_as (λ s. in_words (1 * s)) in_words (rises hs node) (λ s. ap in_words (one-mul s))

  module _ (f : ℕ) (hs : List ℕ) (d q : ℕ) (k : d < length hs) where
    abbrev h : ℕ
    h = get_or hs d 0

    here : raised alone node f (drop d hs) q x ≡ (ltb (q % h + 1) h && has (words_of alone (node + f)) x) || raised alone node (f * h) (drop (d + 1) hs) (q / h) x
    unfolding raised
    here = let e : suc d ≡ d + 1 = omega arith in ap (λ (l : List ℕ). raised alone node f l q x) (drop-cons hs d 0 k ∙ ap (λ (m : ℕ). h ∷ drop m hs) e)

    -- the dimension is at ALL, or not
    pub raised-off : h ≤ q % h + 1 → raised alone node f (drop d hs) q x ≡ raised alone node (f * h) (drop (d + 1) hs) (q / h) x
    raised-off l = here ∙ rw (le-ltb (q % h + 1) h l)

    pub raised-on : q % h + 1 < h → (b : Bool) → b || raised alone node f (drop d hs) q x ≡ (b || has (words_of alone (node + f)) x) || raised alone node (f * h) (drop (d + 1) hs) (q / h) x
    raised-on l b =
        ap (λ t. b || t) (here ∙ ap (λ t. (t && has (words_of alone (node + f)) x) || raised alone node (f * h) (drop (d + 1) hs) (q / h) x) (lt-ltb (q % h + 1) h l))
        ∙ sym (or_assoc b (has (words_of alone (node + f)) x) (raised alone node (f * h) (drop (d + 1) hs) (q / h) x))

  pub raised-done : (f : ℕ) (hs : List ℕ) (d q : ℕ) → length hs ≤ d → raised alone node f (drop d hs) q x ≡ false
  unfolding raised
  raised-done f hs d q l = ap (λ (t : List ℕ). raised alone node f t q x) (drop_of_length-le hs l)
