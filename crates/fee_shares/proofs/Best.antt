-- No split has a smaller total of differences. A threshold v prices a cent: a share y costs its difference from the proportion, and 2 * v - t more for each cent.
-- At this price no share of a cell costs less than ours, and splits of the same fee pay the same for their cents.
use mathlib.Core.Path.{◌≡◌, refl, sym, ◌∙◌, ap, ap₂, subst}
use mathlib.Core.List.{List, [], ◌∷◌, map}
use Prim.Native.Nat.{ℕ, zero, suc, ◌+◌, ◌-◌, ◌*◌, ◌≤◌, ◌<◌}
use native.Mathlib.Nat.{div-add-mod', mod-lt, mul-le-mul_right}
use native.Mathlib.Omega.{arith}
use lib.Dec.{ltb}
use lib.IntN.{ℤ, pos, negsuc, ◌+ℤ◌, ◌-ℤ◌, ◌*ℤ◌, neg_ℤ, nat_abs, +ℤ_assoc, +ℤ_comm}
use lib.ListN.{length, get_or}
use borrow.Author.Tests.{ltb-true, ltb-false, lt-ltb, le-ltb}
use Rattle.lists.specs.Lists.{sum}
use Rattle.lists.proofs.Tests.{cases, truth}
use Rattle.fee_shares.specs.Shares.{quota, rest, added, apart, sumℤ, off}
use Rattle.fee_shares.proofs.Given.{Fair, Fairly}

-- ---- one cell: its proportion is q cents and r parts, its share q + c

module _ (t q r : ℕ) (low : r < t) where
  -- our share's difference
  apart_up : apart ((q + 1) * t) (q * t + r) ≡ t - r
  apart_up = omega (arith, low)

  apart_down : apart ((q + 0) * t) (q * t + r) ≡ r
  apart_down = omega (arith, low)

-- a share above the rounded-down proportion
more : (t v q r k c : ℕ) → r < t → Fairly v r c
    → apart ((q + c) * t) (q * t + r) + t * (q + suc k) + 2 * v * (q + c) ≤ apart ((q + suc k) * t) (q * t + r) + t * (q + c) + 2 * v * (q + suc k)
more t v q r k c low f =
    let d : apart ((q + suc k) * t) (q * t + r) ≡ t - r + k * t = omega (arith, low) in
    cases f
    (λ s. rw (s.0, apart_up t q r low, d) (omega (arith, low)))
    (λ s. rw (s.0, apart_down t q r low, d) (omega (arith, low, s.1)))

-- a share of at most that
fewer : (t v y r k c : ℕ) → r < t → v ≤ t → Fairly v r c
    → apart ((y + k + c) * t) ((y + k) * t + r) + t * y + 2 * v * (y + k + c) ≤ apart (y * t) ((y + k) * t + r) + t * (y + k + c) + 2 * v * y
fewer t v y r k c low price f =
    let d : apart (y * t) ((y + k) * t + r) ≡ k * t + r = omega arith in
    let m : v * k ≤ t * k = mul-le-mul_right k price in
    cases f
    (λ s. rw (s.0, apart_up t (y + k) r low, d) (omega (arith, low, m, s.1)))
    (λ s. rw (s.0, apart_down t (y + k) r low, d) (omega (arith, low, m)))

-- a share of n cents below nothing
owed : (t v q r n c : ℕ) → r < t → v ≤ t → Fairly v r c
    → apart ((q + c) * t) (q * t + r) + 2 * v * (q + c + n) ≤ n * t + (q * t + r) + t * (q + c + n)
owed t v q r n c low price f =
    let m : v * (q + n) ≤ t * (q + n) = mul-le-mul_right (q + n) price in
    cases f
    (λ s. rw (s.0, apart_up t q r low) (omega (arith, low, m, s.1)))
    (λ s. rw (s.0, apart_down t q r low) (omega (arith, low, m)))

-- ---- any share: its cents above nothing, and those below

abbrev up : ℤ → ℕ
up (pos n) = n
up (negsuc n) = 0

abbrev down : ℤ → ℕ
down (pos n) = 0
down (negsuc n) = suc n

abs_diff : (x a : ℕ) → nat_abs (pos x -ℤ pos a) ≡ apart x a
abs_diff x zero = omega arith
abs_diff x (suc a) = cases (truth (ltb x (suc a)))
    (λ e. rw e (omega (arith, ltb-true x (suc a) e)))
    (λ e. rw e (omega (arith, ltb-false x (suc a) e)))

abs_owed : (n a : ℕ) → nat_abs (neg_ℤ (pos n) -ℤ pos a) ≡ n + a
abs_owed zero zero = refl
abs_owed zero (suc a) = rw (lt-ltb 0 (suc a) (omega arith)) (omega arith)
abs_owed (suc n) zero = rw (lt-ltb 0 (suc n) (omega arith)) (omega arith)
abs_owed (suc n) (suc a) = omega arith

-- at the price of v no share costs less than ours
any : (t v q r c a : ℕ) (y : ℤ) → r < t → v ≤ t → Fairly v r c → q * t + r ≡ a
    → apart ((q + c) * t) a + t * up y + 2 * v * (q + c + down y) ≤ nat_abs (y *ℤ pos t -ℤ pos a) + t * (q + c + down y) + 2 * v * up y
any t v q r c a (pos y) low price f e = rw (← e, abs_diff (y * t) (q * t + r)) (cases (truth (ltb q y))
    (λ h. let k : y ≡ q + suc (y - suc q) = omega (arith, ltb-true q y h) in
    subst (λ (z : ℕ). apart ((q + c) * t) (q * t + r) + t * z + 2 * v * (q + c + 0) ≤ apart (z * t) (q * t + r) + t * (q + c + 0) + 2 * v * z) (sym k)
    (omega (arith, more t v q r (y - suc q) c low f)))
    (λ h. let k : q ≡ y + (q - y) = omega (arith, ltb-false q y h) in
    subst (λ (z : ℕ). apart ((z + c) * t) (z * t + r) + t * y + 2 * v * (z + c + 0) ≤ apart (y * t) (z * t + r) + t * (z + c + 0) + 2 * v * y) (sym k)
    (omega (arith, fewer t v y r (q - y) c low price f))))
any t v q r c a (negsuc n) low price f e = rw (← e, abs_owed (suc n * t) (q * t + r)) (omega (arith, owed t v q r (suc n) c low price f))

-- ---- a split

rearrange : (a b c d : ℤ) → (a +ℤ b) +ℤ (c +ℤ d) ≡ (a +ℤ c) +ℤ (b +ℤ d)
rearrange a b c d =
    +ℤ_assoc a b (c +ℤ d)
    ∙ ap (λ (z : ℤ). a +ℤ z) (sym (+ℤ_assoc b c d) ∙ ap (λ (z : ℤ). z +ℤ d) (+ℤ_comm b c) ∙ +ℤ_assoc c b d)
    ∙ sym (+ℤ_assoc a c (b +ℤ d))

up_down : (y : ℤ) → y +ℤ pos (down y) ≡ pos (up y)
up_down (pos n) = ap pos (omega arith)
up_down (negsuc n) = rw (le-ltb (suc n) (suc n) (omega arith)) (ap pos (omega arith))

ups_downs : (ys : List ℤ) → sumℤ ys +ℤ pos (sum (map down ys)) ≡ pos (sum (map up ys))
ups_downs [] = refl
ups_downs (y ∷ ys) = rearrange y (sumℤ ys) (pos (down y)) (pos (sum (map down ys))) ∙ ap₂ ◌+ℤ◌ (up_down y) (ups_downs ys)

split_up : (fee : ℕ) (ys : List ℤ) → sumℤ ys ≡ pos fee → sum (map up ys) ≡ fee + sum (map down ys)
split_up fee ys e =
    let q : pos (fee + sum (map down ys)) ≡ pos (sum (map up ys)) = ap (λ (z : ℤ). z +ℤ pos (sum (map down ys))) (sym e) ∙ ups_downs ys in
    cc

module _ (t fee v : ℕ) (p : 0 < t) (price : v ≤ t) where
  abbrev ours : List ℕ → List ℕ → List ℕ
  ours ws cs = added (map (quota t fee) ws) cs

  costs : (ws cs : List ℕ) (ys : List ℤ) → Fair v (map (rest t fee) ws) cs → length ys ≡ length ws
      → off t fee ws (map pos (ours ws cs)) + t * sum (map up ys) + 2 * v * (sum (ours ws cs) + sum (map down ys))
      ≤ off t fee ws ys + t * (sum (ours ws cs) + sum (map down ys)) + 2 * v * sum (map up ys)
  costs [] cs [] f h = omega arith
  costs [] cs (y ∷ ys) f h = absurd (omega arith)
  costs (w ∷ ws) [] ys f h = absurd f
  costs (w ∷ ws) (c ∷ cs) [] f h = absurd (omega arith)
  costs (w ∷ ws) (c ∷ cs) (y ∷ ys) f h =
      omega (arith, abs_diff ((quota t fee w + c) * t) (fee * w), any t v (quota t fee w) (rest t fee w) c (fee * w) y (mod-lt (fee * w) p) price f.0 (div-add-mod' (fee * w) t), costs ws cs ys f.1 (omega arith))

  -- so no split of what ours come to has a smaller total of differences
  pub ours_best : (ws cs : List ℕ) (ys : List ℤ) → Fair v (map (rest t fee) ws) cs → length ys ≡ length ws → sumℤ ys ≡ pos (sum (ours ws cs))
      → off t fee ws (map pos (ours ws cs)) ≤ off t fee ws ys
  ours_best ws cs ys f h e =
      let u = split_up (sum (ours ws cs)) ys e in
      let c = costs ws cs ys f h in
      let d = rw u at c in
      omega (arith, d)

  -- and each differs by less than a cent
  near_one : (q r c : ℕ) → r < t → Fairly v r c → apart ((q + c) * t) (q * t + r) < t
  near_one q r c low f = cases f
      (λ s. rw (s.0, apart_up t q r low) (omega (arith, low, s.2)))
      (λ s. rw (s.0, apart_down t q r low) low)

  pub ours_near : (ws cs : List ℕ) (i : ℕ) → Fair v (map (rest t fee) ws) cs → i < length ws → apart (get_or (ours ws cs) i 0 * t) (fee * get_or ws i 0) < t
  ours_near [] cs i f h = absurd (omega arith)
  ours_near (w ∷ ws) [] i f h = absurd f
  ours_near (w ∷ ws) (c ∷ cs) zero f h =
      subst (λ (a : ℕ). apart ((quota t fee w + c) * t) a < t) (div-add-mod' (fee * w) t) (near_one (quota t fee w) (rest t fee w) c (mod-lt (fee * w) p) f.0)
  ours_near (w ∷ ws) (c ∷ cs) (suc i) f h = ours_near ws cs i f.1 (omega arith)
