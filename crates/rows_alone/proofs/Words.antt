-- The words of the sets in a flat array: one set's are written; rows added to a set of rows; the rows that are passed over at a set, dimension by dimension.
use mathlib.Core.Path.{◌≡◌, refl, sym, ap, subst, ◌∙◌}
use mathlib.Core.Logic.{◌≢◌}
use mathlib.Core.Bool.{Bool, true, false, ◌&&◌, ◌||◌, false≢true, or-true, or-false}
use mathlib.Core.List.{List, ◌++◌}
use Prim.Native.Nat.{ℕ, zero, suc, ◌+◌, ◌-◌, ◌*◌, ◌^◌, ◌≤◌, ◌<◌}
use native.Mathlib.Numerals.{add-one}
use native.Mathlib.Omega.{arith}
use lib.Dec.{eqb, ltb}
use lib.Pow.{pow_pos}
use lib.ListN.{length, take, drop, take-append-drop, length-drop}
use lib.Seq.{length-take-le, take-append-le, take_all, drop_at}
use borrow.Rule.Slice.PartMut.{put_mid}
use borrow.Author.Tests.{eqb-true, eqb-false, ltb-true, ltb-false}
use Rattle.std.proofs.lemmas.Slice.{drop-put_mid}
use Rattle.lists.specs.Lists.{some}
use Rattle.lists.proofs.Tests.{cases, truth, both, either}
use Rattle.lists.proofs.Parts.{part-front}
use Rattle.lattice.specs.Sets.{holds}
use Rattle.lattice.proofs.Less.{less_within}
use Rattle.rows_deals.specs.Deals.{Zeros}
use Rattle.rows_bits.specs.Rowsets.{has}
use Rattle.rows_bits.proofs.Bits.{has-none}
use Rattle.rows_slots.proofs.Whole.{zero_at}
use Rattle.rows_alone.specs.Alone.{words_of, passes, Stored}

-- ---- words put into those of set s

pub words-length : (l : List ℕ) (s : ℕ) → s < 256 → 8192 ≤ length l → length (words_of l s) ≡ 32
words-length l s h room = length-take-le 32 (drop (s * 32) l) (rw length-drop (omega (arith, h, room)))

module _ (words old : List ℕ) (s k : ℕ) (small : s < 256) (room : 8192 ≤ length old) (size : length words ≡ 32) (e : k ≡ 32) where
  abbrev put : List ℕ
  put = put_mid (s * 32) k old words

  front : length (take (s * 32) old) ≡ s * 32
  front = length-take-le (s * 32) old (omega (arith, small, room))

  put_here : words_of put s ≡ words
  put_here =
      ap (take 32) (drop_at (take (s * 32) old) (words ++ drop k (drop (s * 32) old)) (s * 32) front)
      ∙ take-append-le 32 words (drop k (drop (s * 32) old)) (omega (arith, size))
      ∙ take_all 32 words (omega (arith, size))

  put_below : (t : ℕ) → t < s → words_of put t ≡ words_of old t
  put_below t h =
      let w : t * 32 + 32 ≤ length (take (s * 32) old) = omega (arith, front, h) in
      part-front (take (s * 32) old) (words ++ drop k (drop (s * 32) old)) (t * 32) 32 w
      ∙ sym (part-front (take (s * 32) old) (drop (s * 32) old) (t * 32) 32 w)
      ∙ ap (λ (l : List ℕ). words_of l t) (take-append-drop (s * 32) old)

  put_above : (t : ℕ) → s < t → words_of put t ≡ words_of old t
  put_above t h = ap (take 32) (drop-put_mid (s * 32) k old words (t * 32) (omega (arith, e, h)) (omega (arith, small, room)) (size ∙ sym e))

  pub words_stored : Stored words old put s
  words_stored = record {
    here = put_here;
    others = λ t n. cases (truth (ltb t s)) (λ b. put_below t (ltb-true t s b)) (λ b. put_above t (omega (arith, ltb-false t s b, n)));
  }

-- ---- rows added one after the other

-- the rows before place i are in
abbrev pub Adding : List ℕ → List ℕ → List ℕ → ℕ → Type 0
Adding rows old words i = (x : ℕ) → some (eqb x) (drop i rows) || has words x ≡ some (eqb x) rows || has old x

-- ---- the rows that are passed over

pub cleared_none : (words : List ℕ) → Zeros words → (x : ℕ) → has words x ≡ false
cleared_none words z = has-none words (λ i. zero_at words i z)

module _ (alone : List ℕ) (s x : ℕ) where
  -- row x is in the words of s without the dimension at place k
  abbrev at : ℕ → Bool
  at k = has (words_of alone (s - 2 ^ k)) x

  passes-next : (k : ℕ) → passes (k + 1) alone s x ≡ passes k alone s x || holds 32 s (2 ^ k) && at k
  unfolding passes
  passes-next k = ap (λ (j : ℕ). passes j alone s x) (add-one k)

  pub passes-start : passes 0 alone s x ≡ false
  unfolding passes
  passes-start = refl

  -- one dimension more: the set lacks it, or has it
  pub passes-off : (k : ℕ) → holds 32 s (2 ^ k) ≡ false → passes (k + 1) alone s x ≡ passes k alone s x
  passes-off k e = passes-next k ∙ ap (λ (b : Bool). passes k alone s x || b && at k) e ∙ or-false (passes k alone s x)

  pub passes_on : (k : ℕ) → holds 32 s (2 ^ k) ≡ true → passes (k + 1) alone s x ≡ passes k alone s x || at k
  passes_on k e = passes-next k ∙ ap (λ (b : Bool). passes k alone s x || b && at k) e

  pub passes_in : (k : ℕ) → passes k alone s x ≡ true → (i : ℕ) × (i < k) × (holds 32 s (2 ^ i) ≡ true) × (at i ≡ true)
  unfolding passes
  passes_in zero e = absurd (false≢true e)
  passes_in (suc k) e = cases (either (passes k alone s x) (holds 32 s (2 ^ k) && at k) e)
      (λ t. let r = passes_in k t in (r.0, omega (arith, r.1), r.2, r.3))
      (λ t. let r = both (holds 32 s (2 ^ k)) (at k) t in (k, omega arith, r.0, r.1))

  pub passes_of : (k i : ℕ) → i < k → holds 32 s (2 ^ i) ≡ true → at i ≡ true → passes k alone s x ≡ true
  passes_of zero i h e f = absurd (omega (arith, h))
  passes_of (suc k) i h e f = ap (λ (j : ℕ). passes j alone s x) (sym (add-one k)) ∙ cases (truth (eqb i k))
      (λ t. let q = eqb-true i k t in
      passes_on k (subst (λ (j : ℕ). holds 32 s (2 ^ j) ≡ true) q e) ∙ ap (λ (b : Bool). passes k alone s x || b) (subst (λ (j : ℕ). at j ≡ true) q f) ∙ or-true (passes k alone s x))
      (λ t. let n : i ≢ k = eqb-false i k t in passes-next k ∙ ap (λ (b : Bool). b || holds 32 s (2 ^ k) && at k) (passes_of k i (omega (arith, h, n)) e f))

-- none at the empty set
pub passes-first : (alone : List ℕ) (x : ℕ) → passes 8 alone 0 x ≡ false
passes-first alone x = cases (truth (passes 8 alone 0 x))
    (λ t. let r = passes_in alone 0 x 8 t in absurd (omega (arith, less_within 32 r.0 0 (omega (arith, r.1)) r.2, pow_pos r.0)))
    (λ t. t)
