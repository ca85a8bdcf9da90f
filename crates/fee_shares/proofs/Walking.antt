-- Steps of the loops over weights, shares and remainders.
use mathlib.Core.Path.{◌≡◌, sym, ◌∙◌, ap}
use mathlib.Core.Bool.{Bool, true, false}
use mathlib.Core.List.{List, [], ◌∷◌, map}
use Prim.Native.Nat.{ℕ, zero, suc, ◌*◌, ◌≤◌, ◌<◌}
use native.Mathlib.Nat.{add-zero, mul-le-mul, div-le_of_le-mul}
use native.Mathlib.Omega.{arith}
use lib.ListN.{length, get_or, take, drop}
use lib.Seq.{take_all, get_or-drop}
use Rattle.lists.specs.Lists.{sum}
use Rattle.fee_shares.specs.Shares.{quota, cent}
use Rattle.fee_shares.specs.Given.{Low}

-- ---- one weight

pub weight_low : (l : List ℕ) (i : ℕ) → get_or l i 0 ≤ sum l
weight_low [] i = omega arith
weight_low (w ∷ l) zero = omega arith
weight_low (w ∷ l) (suc i) = omega (arith, weight_low l i)

pub quota-low : {fee w : ℕ} (t : ℕ) → fee ≤ 1000000000 → w ≤ t → quota t fee w ≤ 1000000000
quota-low {fee} {w} t h k = let p : fee * w ≤ 1000000000 * t = mul-le-mul h k in div-le_of_le-mul t (omega (arith, p))

pub quotas-low : (fee t : ℕ) (ws : List ℕ) → fee ≤ 1000000000 → sum ws ≤ t → (i : ℕ) → get_or (map (quota t fee) ws) i 0 ≤ 1000000000
quotas-low fee t [] h k i = omega arith
quotas-low fee t (w ∷ ws) h k zero = quota-low {w = w} t h (omega (arith, k))
quotas-low fee t (w ∷ ws) h k (suc i) = quotas-low fee t ws h (omega (arith, k)) i

-- ---- one more member of a list that f makes

pub map-done : (f : ℕ → ℕ) (ws l : List ℕ) (i : ℕ) → length ws ≤ i → length l ≡ length ws → take i l ≡ map f (take i ws) → l ≡ map f ws
map-done f ws l i h n k = sym (take_all i l (omega (arith, h, n))) ∙ k ∙ ap (map f) (take_all i ws h)

-- ---- shares from place i on, which have had no cent yet

pub give-low : (s s₀ : List ℕ) (i : ℕ) → i < length s → drop i s ≡ drop i s₀ → Low s₀ → get_or s i 0 ≤ 1000000000
give-low s s₀ i h e low =
    let q : get_or s i 0 ≡ get_or s₀ i 0 = at_drop s i ∙ ap (λ (l : List ℕ). get_or l 0 0) e ∙ sym (at_drop s₀ i) in
    rw q (low i)
  where
    at_drop : (l : List ℕ) (i : ℕ) → get_or l i 0 ≡ get_or (drop i l) 0 0
    at_drop l i = sym (rw get_or-drop (rw add-zero))

pub cent-low : (b : Bool) → cent b ≤ 1
cent-low true = omega arith
cent-low false = omega arith
