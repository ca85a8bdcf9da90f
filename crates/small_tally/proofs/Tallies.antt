-- The tallies as they grow, table by table.
use mathlib.Core.Path.{◌≡◌, refl, sym, ◌∙◌, ap, subst}
use mathlib.Core.Logic.{◌≢◌}
use mathlib.Core.List.{List, [], ◌∷◌, ◌++◌, map, map-append}
use Prim.Native.Nat.{ℕ, zero, suc, ◌+◌, ◌*◌, ◌^◌, ◌≤◌, ◌<◌}
use native.Mathlib.Nat.{mul-le-mul}
use native.Mathlib.Numerals.{add-one}
use native.Mathlib.Omega.{arith}
use lib.Dec.{eqb}
use lib.ListN.{length, get_or, take, set, replicate, length-set, length-append, length-map}
use lib.Pow.{pow_mono}
use lib.Seq.{get_or-set_same, get_or-set_other, ext_get_or}
use borrow.Author.Tests.{eqb-true, eqb-false, eq-eqb, ne_eqb}
use Rattle.lists.specs.Lists.{keep}
use Rattle.lists.proofs.Tests.{cases, truth}
use Rattle.lists.proofs.Members.{keep_append, keep-length}
use Rattle.lists.proofs.Places.{map_at}
use Rattle.small_model.specs.Small.{from, up_to, table, tables}
use Rattle.small_model.specs.Tally.{entries, has, having, tally, most_entries}
use Rattle.small_model.proofs.Numbers.{from-length}
use Rattle.small_model.proofs.Tables.{table_small, small_in}
use Rattle.small_model.proofs.Tally.{entries-most}
use Rattle.small_tally.specs.Flat.{Zeros}

-- one number more, at the end
from_more : (k n : ℕ) → from k (suc n) ≡ from k n ++ ((k + n) ∷ [])
from_more k zero = let e : k + 0 ≡ k = omega arith in rw e
from_more k (suc n) = let e : suc k + n ≡ k + suc n = omega arith in ap (λ (l : List ℕ). k ∷ l) (from_more (suc k) n ∙ rw e)

-- the number at a place
from_at : (k n i : ℕ) → i < n → get_or (from k n) i 0 ≡ k + i
from_at k zero i h = absurd (omega arith)
from_at k (suc n) zero h = omega arith
from_at k (suc n) (suc i) h = omega (arith, from_at (suc k) n i (omega (arith, h)))

module _ (d : ℕ) where
  -- how many of the first t tables have n entries
  unfoldable pub so_far : ℕ → ℕ → ℕ
  so_far t n = length (keep (has d n) (map (table d) (up_to t)))

  sofar_none : (n : ℕ) → so_far 0 n ≡ 0
  unfolding so_far
  sofar_none n = refl

  sofar_more : (t n : ℕ) → so_far (t + 1) n ≡ so_far t n + length (keep (has d n) (table d t ∷ []))
  unfolding so_far
  sofar_more t n =
      let z : 0 + t ≡ t = omega arith in
      let e : up_to (t + 1) ≡ up_to t ++ (t ∷ []) = ap up_to (add-one t) ∙ from_more 0 t ∙ rw z in
      ap (λ (l : List ℕ). length (keep (has d n) (map (table d) l))) e
      ∙ rw (map-append, keep_append) (length-append (keep (has d n) (map (table d) (up_to t))) (keep (has d n) (table d t ∷ [])))

  sofar_few : (t n : ℕ) → so_far t n ≤ t
  unfolding so_far
  sofar_few t n = omega (arith, keep-length (has d n) (map (table d) (up_to t)), length-map (up_to t) (table d), from-length 0 t)

  sofar_all : (n : ℕ) → so_far (2 ^ 2 ^ d) n ≡ tally d n
  unfolding so_far having tables
  sofar_all n = refl

  -- the tallies of the first t tables
  pub record Tallied (l : List ℕ) (t : ℕ) : Type 0 where
    pub size : length l ≡ suc (most_entries d)
    pub each : (n : ℕ) → n < suc (most_entries d) → get_or l n 0 ≡ so_far t n

  pub tallied_none : {l : List ℕ} → length l ≡ suc (most_entries d) → Zeros l → Tallied l 0
  tallied_none h b = record { size = h; each = λ n k. b n ∙ sym (sofar_none n) }

  module _ {l : List ℕ} {t : ℕ} (w : Tallied l t) (h : t < 2 ^ 2 ^ d) {e : ℕ} (k : e ≡ entries d (table d t)) where
    pub tallied_place : e < suc (most_entries d)
    tallied_place = omega (arith, k, entries-most d (small_in d (table d t) (table_small d t)))

    pub tallied_few : get_or l e 0 ≤ t
    tallied_few = omega (arith, w.each e tallied_place, sofar_few t e)

    counted : length (keep (has d e) (table d t ∷ [])) ≡ 1
    counted = rw (eq-eqb (entries d (table d t)) e (sym k))

    uncounted : (n : ℕ) → n ≢ e → length (keep (has d n) (table d t ∷ [])) ≡ 0
    uncounted n q = rw (ne_eqb (entries d (table d t)) n (λ f. q (sym (k ∙ f))))

    abbrev more : List ℕ
    more = set l e (get_or l e 0 + 1)

    more-here : get_or more e 0 ≡ so_far (t + 1) e
    more-here =
        get_or-set_same l e (get_or l e 0 + 1) 0 (omega (arith, tallied_place, w.size))
        ∙ omega (arith, sofar_more t e, counted, w.each e tallied_place)

    more_there : (n : ℕ) → n < suc (most_entries d) → n ≢ e → get_or more n 0 ≡ so_far (t + 1) n
    more_there n j q = get_or-set_other l e n (get_or l e 0 + 1) 0 q ∙ omega (arith, w.each n j, sofar_more t n, uncounted n q)

    pub tallied_more : Tallied more (t + 1)
    tallied_more = record {
      size = length-set l e (get_or l e 0 + 1) ∙ w.size;
      each = λ n j. cases (truth (eqb n e))
          (λ f. subst (λ (i : ℕ). get_or more i 0 ≡ so_far (t + 1) i) (sym (eqb-true n e f)) more-here)
          (λ f. more_there n j (eqb-false n e f));
    }

  pub tallied_all : {l : List ℕ} {t : ℕ} → Tallied l t → t ≡ 2 ^ 2 ^ d → l ≡ map (tally d) (up_to (suc (most_entries d)))
  tallied_all {l} {t} w e =
      let m : List ℕ = up_to (suc (most_entries d)) in
      let long : length m ≡ suc (most_entries d) = from-length 0 (suc (most_entries d)) in
      ext_get_or 0 l (map (tally d) m) (w.size ∙ sym (length-map m (tally d) ∙ long))
      (λ i h.
      let k : i < suc (most_entries d) = omega (arith, h, w.size) in
      let z : 0 + i ≡ i = omega arith in
      w.each i k ∙ ap (λ (u : ℕ). so_far u i) e ∙ sofar_all i
      ∙ sym (map_at (tally d) 0 0 m i (omega (arith, k, long)) ∙ ap (tally d) (from_at 0 (suc (most_entries d)) i k ∙ z)))

-- ---- the arrays

pub zeros_front : (n k : ℕ) → Zeros (take n (replicate k 0))
zeros_front zero k i = refl
zeros_front (suc n) zero i = refl
zeros_front (suc n) (suc k) zero = refl
zeros_front (suc n) (suc k) (suc i) = zeros_front n k i

-- no table of up to three dimensions has as many as 73 entries
pub most-fits : {d m : ℕ} → d ≤ 3 → m ≡ 2 ^ d → (m ≤ 8) × (m * m ≤ 64) × (m + m * m + 1 ≡ suc (most_entries d))
most-fits {d} {m} h e =
    let few : m ≤ 8 = subst (λ (k : ℕ). k ≤ 8) (sym e) (pow_mono h) in
    let square : m * m ≤ 8 * 8 = mul-le-mul few few in
    (few, omega (arith, square), ap (λ (k : ℕ). k + k * k + 1) e ∙ add-one (most_entries d))
