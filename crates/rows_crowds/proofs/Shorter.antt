-- A set without its last dimension: it comes before the set in lattice order, which holds it.
use mathlib.Core.Path.{◌≡◌, refl, sym, ap, subst, ◌∙◌}
use mathlib.Core.Bool.{true, false≢true}
use mathlib.Core.List.Memᴰ
use mathlib.Core.List.{List, [], ◌∷◌, ◌++◌}
use Prim.Native.Nat.{ℕ, zero, suc, ◌+◌, ◌*◌, ◌/◌, ◌%◌, ◌^◌, ◌≤◌, ◌<◌}
use native.Mathlib.Nat.{pow-suc}
use native.Mathlib.Omega.{arith}
use lib.Count.{leading_top, ones, ones_step, ones-ones, ones_cat}
use lib.Dec.{ltb}
use lib.Pow.{pow_mono, pow_pos}
use borrow.Author.Tests.{le-leb, ltb-true, ltb-false}
use Rattle.lists.specs.Lists.{◌∈◌}
use Rattle.lists.specs.Order.{Rising}
use Rattle.lists.proofs.Tests.{cases, truth, both_of}
use Rattle.lists.proofs.Order.{earlier-lt, strict_turned}
use Rattle.lattice.specs.Sets.{size, before, holds}
use Rattle.lattice.proofs.Sets.{by_lattice, holds-suc, holds_refl}
use Rattle.rows_crowds.specs.Crowds.{place, shorter}

last-holds : (k d s t : ℕ) → t < 2 ^ d → s ≡ t + 2 ^ d → holds k s t ≡ true
last-holds zero d s t l e = refl
last-holds (suc k) zero s t l e =
    let half : s / 2 ≡ t / 2 = omega (arith, l, e) in
    both_of (le-leb (t % 2) (s % 2) (omega (arith, l, e))) (subst (λ (z : ℕ). holds k (s / 2) z ≡ true) half (holds_refl k (s / 2)))
last-holds (suc k) (suc d) s t l e = both_of (le-leb (t % 2) (s % 2) (omega (arith, l, e))) (last-holds k d (s / 2) (t / 2) (omega (arith, l)) (omega (arith, e)))

size_none : (k s : ℕ) → s < 2 ^ k → size s ≡ 0 → s ≡ 0
size_none zero s l e = omega (arith, l)
size_none (suc k) s l e = omega (arith, ones_step s, e, size_none k (s / 2) (omega (arith, l)) (omega (arith, ones_step s, e)))

one_holds : (k i t : ℕ) → i < k → t < 2 ^ i → holds k (2 ^ i) t ≡ true → t ≡ 0
one_holds zero i t h l e = absurd (omega (arith, h))
one_holds (suc k) zero t h l e = omega (arith, l)
one_holds (suc k) (suc i) t h l e =
    let u = pow-suc 2 i in
    let half : 2 ^ suc i / 2 ≡ 2 ^ i = omega (arith, u) in
    let r = holds-suc k (2 ^ suc i) t e in
    omega (arith, u, r.0, one_holds k i (t / 2) (omega (arith, h)) (omega (arith, u, l)) (subst (λ (z : ℕ). holds k z (t / 2) ≡ true) half r.1))

module _ (s : ℕ) (h : 1 ≤ s) (small : s < 256) where
  wide : s < 2 ^ 32
  wide = omega (arith, small)

  top : (2 ^ place s ≤ s) × (s < 2 ^ suc (place s))
  top =
      let t = leading_top 32 s h wide in
      let e : t.0 ≡ place s = omega (arith, t.1) in
      subst (λ (j : ℕ). (2 ^ j ≤ s) × (s < 2 ^ suc j)) e (t.2, t.3)

  -- no other power of two is next below
  pub place_log : (k : ℕ) → 2 ^ k ≤ s → s < 2 * 2 ^ k → k ≡ place s
  place_log k low high = cases (truth (ltb k (place s)))
      (λ t. absurd (omega (arith, top.0, high, pow-suc 2 k, pow_mono {i = suc k} {j = place s} (ltb-true k (place s) t))))
      (λ t. cases (truth (ltb (place s) k))
      (λ u. absurd (omega (arith, top.1, low, pow_mono {i = suc (place s)} {j = k} (ltb-true (place s) k u))))
      (λ u. omega (arith, ltb-false k (place s) t, ltb-false (place s) k u)))

  pub shorter_power : 2 ^ place s ≤ s
  shorter_power = top.0

  -- the last dimension comes after all that are left
  pub shorter-last : shorter s < 2 ^ place s
  shorter-last = omega (arith, top.0, top.1)

  pub shorter_and : s ≡ shorter s + 2 ^ place s
  shorter_and = omega (arith, top.0)

  pub shorter_less : shorter s < s
  shorter_less = omega (arith, shorter_power, pow_pos (place s))

  pub shorter-place : (d : ℕ) → s < 2 ^ d → place s < d
  shorter-place d l = cases (truth (ltb (place s) d)) (λ t. ltb-true (place s) d t) (λ t. absurd (omega (arith, l, shorter_power, pow_mono {i = d} {j = place s} (ltb-false (place s) d t))))

  pub shorter-holds : (d : ℕ) → holds d s (shorter s) ≡ true
  shorter-holds d = last-holds d (place s) s (shorter s) shorter-last shorter_and

  shorter-size : size s ≡ size (shorter s) + 1
  shorter-size =
      let both : 1 * 2 ^ place s + shorter s ≡ s = omega (arith, shorter_and) in
      let count : ones s ≡ ones 1 + ones (shorter s) = sym (ap ones both) ∙ ones_cat (place s) 1 (shorter s) shorter-last in
      omega (arith, count, ones-ones 1)

  pub shorter-before : before (shorter s) s ≡ true
  shorter-before = earlier-lt (size (shorter s)) (size s) (shorter s ∷ []) (s ∷ []) (omega (arith, shorter-size))

  -- of a set of one dimension nothing is left, and it holds no other one
  pub shorter-none : size s ≡ 1 → shorter s ≡ 0
  shorter-none e = size_none (place s) (shorter s) shorter-last (omega (arith, e, shorter-size))

  pub shorter_alone : size s ≡ 1 → (t : ℕ) → t < s → holds 8 s t ≡ true → t ≡ 0
  shorter_alone e t l h =
      let f : s ≡ 2 ^ place s = omega (arith, shorter-none e, shorter_and) in
      one_holds 8 (place s) t (shorter-place 8 (omega (arith, small))) (omega (arith, f, l)) (subst (λ (z : ℕ). holds 8 z t ≡ true) f h)

-- what comes before a member of a rising list stands before it
pub rising-front : (done rest : List ℕ) (s t : ℕ) → Rising before (done ++ s ∷ rest) → t ∈ done ++ s ∷ rest → before t s ≡ true → t ∈ done
rising-front [] rest s t r (Memᴰ.head e) b = absurd (by_lattice.irrefl s (subst (λ (z : ℕ). before z s ≡ true) e b))
rising-front [] rest s t r (Memᴰ.tail m) b = absurd (false≢true (sym (strict_turned by_lattice s t (r.0 t m)) ∙ b))
rising-front (x ∷ done) rest s t r (Memᴰ.head e) b = Memᴰ.head e
rising-front (x ∷ done) rest s t r (Memᴰ.tail m) b = Memᴰ.tail (rising-front done rest s t r.1 m b)
