-- Laws of sets of dimensions, for any number of dimensions.
use mathlib.Core.Path.{◌≡◌, refl, ap}
use mathlib.Core.Logic.{◌⊎◌, inl, inr}
use mathlib.Core.Bool.{Bool, true, ◌&&◌, false≢true}
use mathlib.Core.List.{[], ◌∷◌}
use Prim.Native.Nat.{ℕ, zero, suc, ◌/◌, ◌%◌, ◌^◌, ◌<◌, ◌≤◌}
use native.Mathlib.Omega.{arith}
use lib.Dec.{leb, ltb}
use lib.Count.{ones, ones_step, ones-le}
use lib.ListN.{length}
use lib.Pow.{pow_pos, pow_mono, ones_lt}
use borrow.Author.Tests.{leb-true, le-leb, lt-ltb, ltb-true}
use Rattle.lists.specs.Lists.{◌∈◌, keep, below}
use Rattle.lists.specs.Order.{Strict, Rising}
use Rattle.lists.proofs.Tests.{cases, both, both_of}
use Rattle.lists.proofs.Members.{keep_in, keep_of, below_in, below_of, below_length, below-distinct}
use Rattle.lists.proofs.Pigeonhole.{fewest}
use Rattle.lists.proofs.Pairwise.{pairwise_keep}
use Rattle.lists.proofs.Order.{earlier_cons, by_codes}
use Rattle.lists.proofs.Sorted.{sort_in, sort_of, sort-rising, sort-length, rising_unique}
use Rattle.lattice.specs.Sets.{rank, before, full, sets, holds}

-- ---- lattice order

pub by_lattice : Strict before
by_lattice = record {
  trans = λ x y z. by_codes.trans (rank x) (rank y) (rank z);
  total = λ x y e f. cc (by_codes.total (rank x) (rank y) e f);
  irrefl = λ x. by_codes.irrefl (rank x);
}

-- a set comes before another if it has fewer dimensions, or as many and the smaller number
pub before_is : (s t : ℕ) → before s t ≡ true → (ones s < ones t) ⊎ ((ones s ≡ ones t) × (s < t))
before_is s t e = cases (earlier_cons (ones s) (ones t) (s ∷ []) (t ∷ []) e) inl
    (λ h. inr (h.0, cases (earlier_cons s t [] [] h.1) (λ k. k) (λ k. absurd (false≢true k.1))))

-- ---- the full set

-- the full set has the first dimension, and its half is the full set of the others
pub full-suc : (d : ℕ) → (full (suc d) % 2 ≡ 1) × (full (suc d) / 2 ≡ full d)
full-suc d = omega (arith, pow_pos d)

pub holds-full : (d s : ℕ) → holds d (full d) s ≡ true
holds-full zero s = refl
holds-full (suc d) s = both_of (le-leb (s % 2) (full (suc d) % 2) (omega (arith, (full-suc d).0))) (rw (full-suc d).1 (holds-full d (s / 2)))

pub full-lt : (d : ℕ) → full d < 2 ^ d
full-lt d = ones_lt d

-- ---- one set holds another

pub holds_refl : (d s : ℕ) → holds d s s ≡ true
holds_refl zero s = refl
holds_refl (suc d) s = both_of (le-leb (s % 2) (s % 2) (omega arith)) (holds_refl d (s / 2))

-- the two parts of a step
pub holds-suc : (d s t : ℕ) → holds (suc d) s t ≡ true → (t % 2 ≤ s % 2) × (holds d (s / 2) (t / 2) ≡ true)
holds-suc d s t e = let r = both (leb (t % 2) (s % 2)) (holds d (s / 2) (t / 2)) e in (leb-true (t % 2) (s % 2) r.0, r.1)

pub holds_trans : (d s t u : ℕ) → holds d s t ≡ true → holds d t u ≡ true → holds d s u ≡ true
holds_trans zero s t u e f = refl
holds_trans (suc d) s t u e f =
    let p = holds-suc d s t e in
    let q = holds-suc d t u f in
    both_of (le-leb (u % 2) (s % 2) (omega (arith, p.0, q.0))) (holds_trans d (s / 2) (t / 2) (u / 2) p.1 q.1)

-- what a set holds has no larger number and no more dimensions
pub holds-le : (d s t : ℕ) → t < 2 ^ d → holds d s t ≡ true → (t ≤ s) × (ones t ≤ ones s)
holds-le zero s t h e = omega (arith, ones-le 0 t h)
holds-le (suc d) s t h e =
    let p = holds-suc d s t e in
    let q = holds-le d (s / 2) (t / 2) (omega arith) p.1 in
    omega (arith, p.0, q.0, q.1, ones_step s, ones_step t)

-- dimensions beyond those of the other set change nothing
pub holds-enough : (d e s t : ℕ) → t < 2 ^ d → d ≤ e → holds e s t ≡ holds d s t
holds-enough zero zero s t h k = refl
holds-enough zero (suc e) s t h k = both_of (le-leb (t % 2) (s % 2) (omega arith)) (holds-enough zero e (s / 2) (t / 2) (omega arith) (omega arith))
holds-enough (suc d) zero s t h k = absurd (omega arith)
holds-enough (suc d) (suc e) s t h k = ap (λ (b : Bool). leb (t % 2) (s % 2) && b) (holds-enough d e (s / 2) (t / 2) (omega arith) (omega arith))

-- ---- the list of sets

pub sets-in : (d : ℕ) {s : ℕ} → s ∈ sets d → s < 2 ^ d
unfolding sets
sets-in d m = below_in (2 ^ d) (sort_in before (below (2 ^ d)) m)

pub sets_of : (d : ℕ) {s : ℕ} → s < 2 ^ d → s ∈ sets d
unfolding sets
sets_of d h = sort_of before by_lattice (below_of (2 ^ d) h)

pub sets-rising : (d : ℕ) → Rising before (sets d)
unfolding sets
sets-rising d = sort-rising before by_lattice (below (2 ^ d))

pub sets-length : (d : ℕ) → length (sets d) ≤ 2 ^ d
unfolding sets
sets-length d = omega (arith, sort-length before (below (2 ^ d)), below_length (2 ^ d))

-- there are 2 to the power d
pub sets-count : (d : ℕ) → length (sets d) ≡ 2 ^ d
sets-count d = omega (arith, sets-length d, below_length (2 ^ d), fewest (below (2 ^ d)) (sets d) (below-distinct (2 ^ d)) (λ s m. sets_of d (below_in (2 ^ d) m)))

-- the sets of fewer dimensions are those below 2 to that power, in the same order
pub sets-part : (d e : ℕ) → d ≤ e → sets d ≡ keep (λ s. ltb s (2 ^ d)) (sets e)
sets-part d e h = rising_unique before by_lattice (sets d) (keep (λ s. ltb s (2 ^ d)) (sets e))
    (sets-rising d)
    (pairwise_keep (λ s t. before s t ≡ true) (λ s. ltb s (2 ^ d)) (sets e) (sets-rising e))
    (λ s m. let p = sets-in d m in keep_of (λ s. ltb s (2 ^ d)) (sets_of e (omega (arith, pow_mono h))) (lt-ltb s (2 ^ d) p))
    (λ s m. sets_of d (ltb-true s (2 ^ d) (keep_in (λ s. ltb s (2 ^ d)) (sets e) m).1))
