-- What the parts of sharing hand to one another.
use mathlib.Core.Path.{◌≡◌, sym, ◌∙◌, ap, ap₂, subst}
use mathlib.Core.List.{List, map}
use Prim.Native.Nat.{ℕ, ◌+◌, ◌-◌, ◌≤◌, ◌<◌}
use native.Mathlib.Numerals.{add-one}
use native.Mathlib.Omega.{arith}
use lib.Dec.{ltb, leb}
use lib.ListN.{length}
use Rattle.lists.specs.Lists.{sum}
use Rattle.fee_shares.specs.Shares.{count, quota, rest, quotas, rests, left, added, shares}
use Rattle.fee_shares.specs.Given.{Threshold, given}
use Rattle.fee_shares.proofs.Proportions.{quotas-le, left-few, rests-low, shares-given}

-- the fee divided: s are the rounded-down proportions, rs their remainders, q the cents of s
pub record Divided (fee : ℕ) (ws : List ℕ) (total : ℕ) (s rs : List ℕ) (q : ℕ) : Type 0 where
  pub some : 0 < sum ws
  pub all : total ≡ sum ws
  pub whole : s ≡ map (quota total fee) ws
  pub over : rs ≡ map (rest total fee) ws
  pub cents : q ≡ sum s

module _ {fee : ℕ} {ws : List ℕ} {total : ℕ} {s rs : List ℕ} {q : ℕ} (d : Divided fee ws total s rs q) where
  whole_is : s ≡ quotas fee ws
  whole_is = d.whole ∙ ap (λ (t : ℕ). map (quota t fee) ws) d.all

  over-is : rs ≡ rests fee ws
  over-is = d.over ∙ ap (λ (t : ℕ). map (rest t fee) ws) d.all

  cents_is : q ≡ sum (quotas fee ws)
  cents_is = d.cents ∙ ap sum whole_is

  left_is : fee - q ≡ left fee ws
  unfolding left
  left_is = ap (λ (n : ℕ). fee - n) cents_is

  pub divided_le : q ≤ fee
  divided_le = omega (arith, cents_is, quotas-le fee ws d.some)

  -- what a threshold needs
  pub divided_few : fee - q ≤ length rs
  divided_few = omega (arith, left_is, left-few fee ws d.some, ap length over-is)

  pub divided_low : count (leb total) rs ≤ fee - q
  divided_low =
      let e : count (leb total) rs ≡ count (leb (sum ws)) (rests fee ws) = ap₂ (λ (t : ℕ) (l : List ℕ). count (leb t) l) d.all over-is in
      omega (arith, e, rests-low fee ws d.some)

  -- the cents left, given out
  module _ {v above : ℕ} (t : Threshold v (fee - q) rs) (e : above ≡ count (leb (v + 1)) rs) where
    above_is : above ≡ count (ltb v) rs
    above_is = e ∙ ap (λ (n : ℕ). count (leb n) rs) (add-one v)

    pub divided_given : added s (given v (fee - q - above) rs) ≡ shares fee ws
    divided_given =
        ap₂ (λ (l : List ℕ) (k : ℕ). added l (given v k rs)) whole_is (ap₂ ◌-◌ left_is above_is)
        ∙ ap (λ (l : List ℕ). added (quotas fee ws) (given v (left fee ws - count (ltb v) l) l)) over-is
        ∙ sym (shares-given fee ws v (subst (λ (l : List ℕ). Threshold v (left fee ws) l) over-is (subst (λ (m : ℕ). Threshold v m rs) left_is t)))
