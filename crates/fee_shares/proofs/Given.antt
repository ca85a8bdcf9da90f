-- The cents left go to the largest remainders just as a threshold gives them out; there is a threshold for any number of cents up to that of the cells.
use mathlib.Core.Path.{◌≡◌, refl, sym, ◌∙◌, ap₂}
use mathlib.Core.Logic.{◌≢◌, ◌⊎◌, inl, inr}
use mathlib.Core.Bool.{Bool, true, false}
use mathlib.Core.List.{List, [], ◌∷◌}
use Prim.Native.Nat.{ℕ, zero, suc, ◌+◌, ◌-◌, ◌≤◌, ◌<◌}
use native.Mathlib.Omega.{arith}
use lib.Dec.{eqb, ltb, leb}
use lib.ListN.{length}
use borrow.Author.Tests.{ltb-true, ltb-false, leb-true, leb-false, eqb-true, eqb-false, lt-ltb, le-ltb, eq-eqb, ne_eqb}
use Rattle.lists.specs.Lists.{sum}
use Rattle.lists.proofs.Tests.{cases, truth}
use Rattle.fee_shares.specs.Shares.{count, ahead, cent, cents}
use Rattle.fee_shares.specs.Given.{Threshold, gets, given}
use Rattle.fee_shares.proofs.Counts.{count-cons, count-le, count_split, count-all}

-- above v, v, or below
three : (v r : ℕ) → (v < r) ⊎ ((v ≡ r) ⊎ (r < v))
three v r = cases (truth (ltb v r))
    (λ e. inl (ltb-true v r e))
    (λ e. cases (truth (eqb v r))
    (λ f. inr (inl (eqb-true v r f)))
    (λ f. let q : v ≢ r = eqb-false v r f in inr (inr (omega (arith, ltb-false v r e)))))

-- the tests of a remainder above v, at v, below v
pub above_is : {v r : ℕ} → v < r → (ltb v r ≡ true) × (eqb v r ≡ false)
above_is {v} {r} h = (lt-ltb v r h, ne_eqb v r (λ q. omega (arith, h, q)))

pub below_is : {v r : ℕ} → r < v → (ltb v r ≡ false) × (eqb v r ≡ false)
below_is {v} {r} h = (le-ltb v r (omega arith), ne_eqb v r (λ q. omega (arith, h, q)))

pub equal_is : (v : ℕ) → (ltb v v ≡ false) × (eqb v v ≡ true)
equal_is v = (le-ltb v v (omega arith), eq-eqb v v refl)

-- ---- so many cents are given

cent-some : (k : ℕ) → cent (ltb 0 k) + (k - 1) ≡ k
cent-some zero = refl
cent-some (suc k) = rw (lt-ltb 0 (suc k) (omega arith)) (omega arith)

cent-given : (v k r : ℕ) → cent (gets v k r) + (k - cent (eqb v r)) ≡ cent (ltb v r) + k
cent-given v k r = cases (three v r)
    (λ h. let t = above_is h in rw (t.0, t.1) (omega arith))
    (λ s. cases s
    (λ q. let t = equal_is v in rw (← q, t.0, t.1) (omega (arith, cent-some k)))
    (λ h. let t = below_is h in rw (t.0, t.1) (omega arith)))

pub given-sum : (v k : ℕ) (l : List ℕ) → k ≤ count (eqb v) l → sum (given v k l) ≡ count (ltb v) l + k
given-sum v k [] h = omega arith
given-sum v k (r ∷ l) h =
    let rest = given-sum v (k - cent (eqb v r)) l (omega (arith, h, count-cons (eqb v) r l)) in
    omega (arith, rest, cent-given v k r, count-cons (ltb v) r l)

pub given-length : (v k : ℕ) (l : List ℕ) → length (given v k l) ≡ length l
given-length v k [] = refl
given-length v k (r ∷ l) = omega (arith, given-length v (k - cent (eqb v r)) l)

-- ---- they go to the largest remainders

-- what `all`, `seen` and the cells to come have to do with one another
abbrev pub Cut : List ℕ → List ℕ → List ℕ → Type 0
Cut all seen l = (p : ℕ → Bool) → count p all ≡ count p seen + count p l

cut-next : (all seen l : List ℕ) (r : ℕ) → Cut all seen (r ∷ l) → Cut all (r ∷ seen) l
cut-next all seen l r c p = omega (arith, c p, count-cons p r l, count-cons p r seen)

ltb_sub : (a b m : ℕ) → ltb (a + b) m ≡ ltb 0 (m - a - b)
ltb_sub a b m = cases (truth (ltb (a + b) m))
    (λ e. e ∙ sym (lt-ltb 0 (m - a - b) (omega (arith, ltb-true (a + b) m e))))
    (λ e. e ∙ sym (le-ltb 0 (m - a - b) (omega (arith, ltb-false (a + b) m e))))

-- the cells with a remainder above v come first, those below v too late
ahead-gets : (v m : ℕ) (all seen l : List ℕ) (r : ℕ) → Threshold v m all → Cut all seen (r ∷ l)
    → ltb (ahead all seen r) m ≡ gets v (m - count (ltb v) all - count (eqb v) seen) r
ahead-gets v m all seen l r t c = cases (three v r)
    (λ h. let s = above_is h in
    let more : count (leb r) all ≤ count (ltb v) all = count-le (leb r) (ltb v) all (λ x e. lt-ltb v x (omega (arith, h, leb-true r x e))) in
    let mine : count (eqb r) (r ∷ l) ≡ 1 + count (eqb r) l = count-cons (eqb r) r l ∙ rw (equal_is r).1 in
    let first : ahead all seen r < m = omega (arith, more, mine, count_split r all, c (eqb r), t.above) in
    rw s.0 (lt-ltb (ahead all seen r) m first))
    (λ z. cases z
    (λ q. let s = equal_is v in rw (← q, s.0, s.1) (ltb_sub (count (ltb v) all) (count (eqb v) seen) m))
    (λ h. let s = below_is h in
    let more : count (leb v) all ≤ count (ltb r) all = count-le (leb v) (ltb r) all (λ x e. lt-ltb r x (omega (arith, h, leb-true v x e))) in
    let late : m ≤ ahead all seen r = omega (arith, more, t.enough) in
    rw (s.0, s.1) (le-ltb (ahead all seen r) m late)))

pub cents-given : (v m : ℕ) (all seen l : List ℕ) → Threshold v m all → Cut all seen l
    → cents m all seen l ≡ given v (m - count (ltb v) all - count (eqb v) seen) l
cents-given v m all seen [] t c = refl
cents-given v m all seen (r ∷ l) t c =
    let k : ℕ = m - count (ltb v) all - count (eqb v) seen in
    let next : m - count (ltb v) all - count (eqb v) (r ∷ seen) ≡ k - cent (eqb v r) = omega (arith, count-cons (eqb v) r seen) in
    ap₂ (λ (b : Bool) (w : List ℕ). cent b ∷ w) (ahead-gets v m all seen l r t c)
    (cents-given v m all (r ∷ seen) l t (cut-next all seen l r c) ∙ rw next)

-- from the first cell on
pub cents-all : (v m : ℕ) (rs : List ℕ) → Threshold v m rs → cents m rs [] rs ≡ given v (m - count (ltb v) rs) rs
cents-all v m rs t =
    let e : m - count (ltb v) rs - 0 ≡ m - count (ltb v) rs = omega arith in
    cents-given v m rs [] rs t (λ p. omega arith) ∙ rw e

-- ---- there is a threshold

pub threshold : (b m : ℕ) (rs : List ℕ) → m ≤ length rs → count (ltb b) rs ≤ m → (v : ℕ) × (v ≤ b) × Threshold v m rs
threshold zero m rs h few = (0, omega arith, record { above = few; enough = omega (arith, count-all rs) })
threshold (suc b) m rs h few = cases (truth (leb m (count (leb (suc b)) rs)))
    (λ e. (suc b, omega arith, record { above = few; enough = leb-true m (count (leb (suc b)) rs) e }))
    (λ e. let r = threshold b m rs h (omega (arith, leb-false m (count (leb (suc b)) rs) e)) in (r.0, omega (arith, r.1), r.2))

-- ---- who gets a cent has a remainder of v or above, but not 0, and who gets none of v or below

abbrev pub Fairly : ℕ → ℕ → ℕ → Type 0
Fairly v r c = ((c ≡ 1) × (v ≤ r) × (0 < r)) ⊎ ((c ≡ 0) × (r ≤ v))

abbrev pub Fair : ℕ → List ℕ → List ℕ → Type 0
Fair v [] [] = Unit {0}
Fair v [] (c ∷ cs) = ⊥
Fair v (r ∷ rs) [] = ⊥
Fair v (r ∷ rs) (c ∷ cs) = Fairly v r c × Fair v rs cs

gets-fair : (v k r : ℕ) → (0 < k → 0 < v) → Fairly v r (cent (gets v k r))
gets-fair v k r z = cases (three v r)
    (λ h. let t = above_is h in inl (rw t.0 refl, omega (arith, h), omega (arith, h)))
    (λ s. cases s
    (λ q. let t = equal_is v in cases (truth (ltb 0 k))
    (λ e. inl (rw (← q, t.0, t.1, e) refl, omega (arith, q), omega (arith, q, z (ltb-true 0 k e))))
    (λ e. inr (rw (← q, t.0, t.1, e) refl, omega (arith, q))))
    (λ h. let t = below_is h in inr (rw (t.0, t.1) refl, omega (arith, h))))

pub given-fair : (v k : ℕ) (l : List ℕ) → (0 < k → 0 < v) → Fair v l (given v k l)
given-fair v k [] z = tt
given-fair v k (r ∷ l) z = (gets-fair v k r z, given-fair v (k - cent (eqb v r)) l (λ h. z (omega (arith, h))))
