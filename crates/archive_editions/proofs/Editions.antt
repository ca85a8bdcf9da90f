-- What the proofs ask of an edition, and that both editions have it.
use mathlib.Core.Path.{◌≡◌, refl, sym, ap, subst, ◌∙◌}
use mathlib.Core.Logic.{◌↔◌}
use mathlib.Core.Bool.{true, false≢true}
use mathlib.Core.List.Memᴰ
use mathlib.Core.List.{List, [], ◌∷◌}
use Prim.Native.Nat.{ℕ, zero, suc, ◌^◌, ◌≤◌, ◌<◌}
use native.Mathlib.Omega.{arith}
use lib.Dec.{eqb, leb}
use lib.IntN.{ℤ, pos, negsuc, ◌*ℤ◌}
use lib.ListN.{length, take}
use lib.Seq.{length-take-le}
use lib.Signed.{le_z, mag}
use borrow.Author.Tests.{eqb-true, leb-true}
use Rattle.lists.specs.Lists.{◌∈◌}
use Rattle.lists.proofs.Tests.{both, cases, truth}
use Rattle.lists.proofs.Pigeonhole.{no_more}
use Rattle.fields_sums.specs.TwosLaws.{bits_lt, signed_bits, bits_signed, signed-fits}
use Rattle.cube.specs.declared.Total.{Total}
use Rattle.cube.specs.declared.Extremes.{Extremes}
use Rattle.cube.specs.declared.Extremes.TheVariants.{Any, Unknown, Known}
use Rattle.cube.specs.Extremes.{given, lone, converted, Readings}
use Rattle.cube.specs.Bounds.{can_make, suits, Suited}
use Rattle.cube.proofs.Suited.{suits-lone}
use Rattle.archive_editions.specs.Edition.{extreme_words, Edition, edition_one, sound_extremes, edition_two, words_in, Kept}

-- words of any value
abbrev pub Small : List ℕ → Type 0
Small ws = (w : ℕ) → w ∈ ws → w < 2 ^ 32

pub small_none : Small []
small_none w m = absurd (Memᴰ.not-nil m)

pub small_cons : {a : ℕ} {ws : List ℕ} → a < 2 ^ 32 → Small ws → Small (a ∷ ws)
small_cons h s w m = cases (Memᴰ.cases_cons m) (λ e. rw e h) (s w)

-- Words that a base entry may have are those of the extremes that they tell, and these are readings that suit its sum and count.
pub record Tells (E : Edition) : Type 0 where
  pub few : E.extra ≤ 3
  pub back : (t : Total) (ws : List ℕ) → length ws ≡ E.extra → Small ws → can_make t.count t.sum ≡ true → E.sound t ws ≡ true
      → (words_in E (E.tells t ws) ≡ ws) × Readings (E.tells t ws)
  pub suited : (t : Total) (e : Extremes) → can_make t.count t.sum ≡ true → Kept E t e → Suited t e

-- the words of extremes: three, and fewer are a front of them
three_words : (e : Extremes) → length (extreme_words e) ≡ 3
three_words Any = refl
three_words Unknown = refl
three_words (Known l g) = refl

small-words : (e : Extremes) → Readings e → Small (extreme_words e)
small-words Any r = small_cons (omega arith) (small_cons (omega arith) (small_cons (omega arith) small_none))
small-words Unknown r = small_cons (omega arith) (small_cons (omega arith) (small_cons (omega arith) small_none))
small-words (Known l g) r = small_cons (omega arith) (small_cons (bits_lt 31 l r.0) (small_cons (bits_lt 31 g r.1) small_none))

take_in : {x : ℕ} (n : ℕ) (l : List ℕ) → x ∈ take n l → x ∈ l
take_in zero l m = absurd (Memᴰ.not-nil m)
take_in (suc n) [] m = absurd (Memᴰ.not-nil m)
take_in (suc n) (y ∷ l) m = cases (Memᴰ.cases_cons m) Memᴰ.head (λ i. Memᴰ.tail (take_in n l i))

pub front-wide : (k : ℕ) → k ≤ 3 → (e : Extremes) → length (take k (extreme_words e)) ≡ k
front-wide k h e = length-take-le k (extreme_words e) (omega (arith, h, three_words e))

pub words-wide : (E : Edition) → Tells E → (e : Extremes) → length (words_in E e) ≡ E.extra
words-wide E tells e = front-wide E.extra tells.few e

pub words-small : (E : Edition) (e : Extremes) → Readings e → Small (words_in E e)
words-small E e r w m = small-words e r w (take_in E.extra (extreme_words e) m)

-- ---- edition one

-- a sum that one reading makes is a reading
made-reading : (z : ℤ) → can_make 1 z ≡ true → mag z < 2 ^ 31
unfolding can_make
made-reading (pos m) h = omega (arith, leb-true m 2147483647 (both (le_z (negsuc 2147483647 *ℤ pos 1) (pos m)) (leb m 2147483647) h).1)
made-reading (negsuc m) h = omega (arith, leb-true m 2147483647 (both (leb m 2147483647) (le_z (negsuc m) (pos 2147483647 *ℤ pos 1)) h).0)

lone-readings : (n : ℕ) (z : ℤ) → can_make n z ≡ true → Readings (lone n z)
lone-readings zero z h = tt
lone-readings (suc zero) z h = (made-reading z h, made-reading z h)
lone-readings (suc (suc n)) z h = tt

pub converted-readings : (t : Total) → can_make t.count t.sum ≡ true → Readings (converted t)
converted-readings t h = lone-readings t.count t.sum h

lone-suited : (n : ℕ) (z : ℤ) → Readings (lone n z) → Suited (record { sum = z; count = n }) (lone n z)
lone-suited zero z r = tt
lone-suited (suc zero) z r = (r.0, r.1, suits-lone z)
lone-suited (suc (suc n)) z r = tt

pub one_tells : Tells edition_one
one_tells = record {
  few = omega arith;
  back = λ t ws n s h e. (sym (no_more ws n), converted-readings t h);
  suited = λ t e h k. subst (Suited t) k.back (lone-suited t.count t.sum (converted-readings t h));
}

-- A base row of edition one has the extremes that its sum and count tell.
pub kept-one : (t : Total) (e : Extremes) → can_make t.count t.sum ≡ true → Kept edition_one t e ↔ (e ≡ converted t)
kept-one t e h = (
  λ k. sym k.back,
  λ i. record { readings = rw i (converted-readings t h); sound = refl; back = sym i },
)

-- ---- edition two

-- unknown extremes are written as zeros
pub zeros_iff : (t : Total) (l g : ℕ) → (sound_extremes t 0 l g ≡ true) ↔ ((l ≡ 0) × (g ≡ 0))
zeros_iff t l g = (
  λ e. cases (truth (eqb l 0))
      (λ a. cases (truth (eqb g 0)) (λ b. (eqb-true l 0 a, eqb-true g 0 b)) (λ b. absurd (false≢true (simp (a, b) at e))))
      (λ a. cases (truth (eqb g 0)) (λ b. absurd (false≢true (simp (a, b) at e))) (λ b. absurd (false≢true (simp (a, b) at e)))),
  λ z. rw (z.0, z.1),
)

-- A base row of edition two can have unknown extremes, and readings that suit its sum and count.
pub kept-two : (t : Total) (e : Extremes) → Kept edition_two t e ↔ Suited t e
kept-two t Any = (λ k. false≢true (sym (ap given k.back)), λ k. absurd k)
kept-two t Unknown = (λ k. tt, λ k. record { readings = tt; sound = refl; back = refl })
kept-two t (Known l g) = (
  λ k. (k.readings.0, k.readings.1, sym (sounds k.readings) ∙ k.sound),
  λ k. record {
    readings = (k.0, k.1);
    sound = sounds (k.0, k.1) ∙ k.2;
    back = λ i. Known (signed_bits 31 l k.0 i) (signed_bits 31 g k.1 i);
  },
)
  where
    sounds : Readings (Known l g) → edition_two.sound t (words_in edition_two (Known l g)) ≡ suits t l g
    sounds r = λ i. suits t (signed_bits 31 l r.0 i) (signed_bits 31 g r.1 i)

pub two_tells : Tells edition_two
two_tells = record { few = omega arith; back = λ t ws n s h e. back t ws n s e; suited = λ t e h k. (kept-two t e).0 k }
  where
    here : (t : Total) (k a b : ℕ) → a < 2 ^ 32 → b < 2 ^ 32 → edition_two.sound t (k ∷ a ∷ b ∷ []) ≡ true
        → (words_in edition_two (edition_two.tells t (k ∷ a ∷ b ∷ [])) ≡ k ∷ a ∷ b ∷ []) × Readings (edition_two.tells t (k ∷ a ∷ b ∷ []))
    here t zero a b p q e = let z = (zeros_iff t a b).0 e in (rw (z.0, z.1), tt)
    here t (suc zero) a b p q e = (rw (bits_signed 32 a p, bits_signed 32 b q), (signed-fits 31 a, signed-fits 31 b))
    here t (suc (suc k)) a b p q e = absurd (false≢true e)

    back : (t : Total) (ws : List ℕ) → length ws ≡ 3 → Small ws → edition_two.sound t ws ≡ true
        → (words_in edition_two (edition_two.tells t ws) ≡ ws) × Readings (edition_two.tells t ws)
    back t [] n s e = absurd (omega (arith, n))
    back t (k ∷ []) n s e = absurd (omega (arith, n))
    back t (k ∷ a ∷ []) n s e = absurd (omega (arith, n))
    back t (k ∷ a ∷ b ∷ []) n s e = here t k a b (s a (Memᴰ.tail (Memᴰ.head refl))) (s b (Memᴰ.tail (Memᴰ.tail (Memᴰ.head refl)))) e
    back t (k ∷ a ∷ b ∷ c ∷ ws) n s e = absurd (omega (arith, n))
