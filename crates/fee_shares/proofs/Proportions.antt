-- The rounded-down proportions and the cents left: together they are the fee, and there are no more cents left than cells.
use mathlib.Core.Path.{◌≡◌, refl, sym, ◌∙◌, ap}
use mathlib.Core.List.{List, [], ◌∷◌, map}
use Prim.Native.Nat.{ℕ, zero, suc, ◌+◌, ◌-◌, ◌*◌, ◌≤◌, ◌<◌}
use native.Mathlib.Nat.{div-add-mod', mod-lt, le_of_mul-le-mul_right}
use native.Mathlib.Omega.{arith}
use lib.Dec.{ltb, leb, eqb}
use lib.ListN.{length, length-map}
use borrow.Author.Tests.{lt-ltb, lt-leb}
use Rattle.lists.specs.Lists.{sum}
use Rattle.lists.proofs.Members.{keep-length}
use Rattle.fee_shares.specs.Shares.{count, quota, rest, quotas, rests, left, cent, cents, added, shares}
use Rattle.fee_shares.specs.Given.{Threshold, given}
use Rattle.fee_shares.proofs.Counts.{count-cons, count_split}
use Rattle.fee_shares.proofs.Given.{Fair, cents-all, threshold, given-sum, given-length, given-fair}

module _ (t fee : ℕ) where
  -- a proportion in t-th parts of a cent is its whole cents and its remainder
  pub parts : (ws : List ℕ) → sum (map (quota t fee) ws) * t + sum (map (rest t fee) ws) ≡ fee * sum ws
  parts [] = omega arith
  parts (w ∷ ws) = omega (arith, parts ws, div-add-mod' (fee * w) t)

  module _ (p : 0 < t) where
    -- only the remainders that are not 0 add to their total, each less than t
    low-cent : (r : ℕ) → r < t → r ≤ cent (ltb 0 r) * t
    low-cent zero h = omega arith
    low-cent (suc r) h = rw (lt-ltb 0 (suc r) (omega arith)) (omega (arith, h))

    rest-few : (ws : List ℕ) → sum (map (rest t fee) ws) ≤ count (ltb 0) (map (rest t fee) ws) * t
    rest-few [] = omega arith
    rest-few (w ∷ ws) =
        let r : ℕ = rest t fee w in
        let l : List ℕ = map (rest t fee) ws in
        let e : count (ltb 0) (r ∷ l) * t ≡ cent (ltb 0 r) * t + count (ltb 0) l * t = ap (λ (n : ℕ). n * t) (count-cons (ltb 0) r l) ∙ omega arith in
        omega (arith, e, rest-few ws, low-cent r (mod-lt (fee * w) p))

    -- no remainder is t or above
    rest-low : (ws : List ℕ) → count (leb t) (map (rest t fee) ws) ≡ 0
    rest-low [] = refl
    rest-low (w ∷ ws) = rw (lt-leb t (rest t fee w) (mod-lt (fee * w) p)) (rest-low ws)

module _ (fee : ℕ) (ws : List ℕ) (p : 0 < sum ws) where
  pub quotas-le : sum (quotas fee ws) ≤ fee
  quotas-le = le_of_mul-le-mul_right {k = sum ws} (omega (arith, parts (sum ws) fee ws)) p

  -- there are no more cents left than remainders that are not 0
  pub left-some : left fee ws ≤ count (ltb 0) (rests fee ws)
  unfolding left
  left-some =
      let n : ℕ = count (ltb 0) (rests fee ws) in
      let e : fee * sum ws ≤ (sum (quotas fee ws) + n) * sum ws = omega (arith, parts (sum ws) fee ws, rest-few (sum ws) fee p ws) in
      let h : fee ≤ sum (quotas fee ws) + n = le_of_mul-le-mul_right {k = sum ws} e p in
      omega (arith, h)

  pub left_is : sum (quotas fee ws) + left fee ws ≡ fee
  unfolding left
  left_is = omega (arith, quotas-le)

  pub rests-length : length (rests fee ws) ≡ length ws
  rests-length = length-map ws (rest (sum ws) fee)

  pub left-few : left fee ws ≤ length (rests fee ws)
  left-few = omega (arith, left-some, keep-length (ltb 0) (rests fee ws))

  pub rests-low : count (leb (sum ws)) (rests fee ws) ≡ 0
  rests-low = rest-low (sum ws) fee p ws

  -- the cents left are given out by a threshold
  pub share_threshold : (v : ℕ) × (v ≤ sum ws) × Threshold v (left fee ws) (rests fee ws)
  share_threshold = threshold (sum ws) (left fee ws) (rests fee ws) left-few (omega (arith, rests-low, count_split (sum ws) (rests fee ws)))

pub added-sum : (qs cs : List ℕ) → length qs ≡ length cs → sum (added qs cs) ≡ sum qs + sum cs
added-sum [] [] h = refl
added-sum [] (c ∷ cs) h = absurd (omega arith)
added-sum (q ∷ qs) [] h = absurd (omega arith)
added-sum (q ∷ qs) (c ∷ cs) h = omega (arith, added-sum qs cs (omega arith))

pub added-length : (qs cs : List ℕ) → length (added qs cs) ≡ length qs
added-length [] cs = refl
added-length (q ∷ qs) [] = refl
added-length (q ∷ qs) (c ∷ cs) = ap suc (added-length qs cs)

-- by any threshold, the shares are the rounded-down proportions and the cents that it gives out
pub shares-given : (fee : ℕ) (ws : List ℕ) (v : ℕ) → Threshold v (left fee ws) (rests fee ws)
    → shares fee ws ≡ added (quotas fee ws) (given v (left fee ws - count (ltb v) (rests fee ws)) (rests fee ws))
unfolding shares
shares-given fee ws v t = ap (added (quotas fee ws)) (cents-all v (left fee ws) (rests fee ws) t)

-- where the threshold is 0, no cell with the remainder 0 gets a cent
pub shares-fair : (fee : ℕ) (ws : List ℕ) (v : ℕ) → 0 < sum ws → Fair v (rests fee ws) (given v (left fee ws - count (ltb v) (rests fee ws)) (rests fee ws))
shares-fair fee ws v p = given-fair v (left fee ws - count (ltb v) (rests fee ws)) (rests fee ws) (positive v)
  where
    positive : (v : ℕ) → 0 < left fee ws - count (ltb v) (rests fee ws) → 0 < v
    positive zero h = omega (arith, h, left-some fee ws p)
    positive (suc v) h = omega arith

pub shares_sum : (fee : ℕ) (ws : List ℕ) → 0 < sum ws → sum (shares fee ws) ≡ fee
shares_sum fee ws p =
    let s = share_threshold fee ws p in
    let v : ℕ = s.0 in
    let rs : List ℕ = rests fee ws in
    let k : ℕ = left fee ws - count (ltb v) rs in
    let few : k ≤ count (eqb v) rs = omega (arith, s.2.enough, count_split v rs) in
    let long : length (quotas fee ws) ≡ length (given v k rs) = length-map ws (quota (sum ws) fee) ∙ sym (given-length v k rs ∙ rests-length fee ws p) in
    ap sum (shares-given fee ws v s.2) ∙ added-sum (quotas fee ws) (given v k rs) long ∙ omega (arith, given-sum v k rs few, s.2.above, left_is fee ws p)

pub shares-length : (fee : ℕ) (ws : List ℕ) → length (shares fee ws) ≡ length ws
unfolding shares
shares-length fee ws = added-length (quotas fee ws) (cents (left fee ws) (rests fee ws) [] (rests fee ws)) ∙ length-map ws (quota (sum ws) fee)
