-- A set without one of its dimensions: the set holds it, and it comes before; whatever else the set holds lies within one of these.
use mathlib.Core.Path.{◌≡◌, refl, sym, ap, subst}
use mathlib.Core.Logic.{◌≢◌}
use mathlib.Core.Bool.{true}
use mathlib.Core.List.{[], ◌∷◌}
use Prim.Native.Nat.{ℕ, zero, suc, ◌+◌, ◌-◌, ◌*◌, ◌/◌, ◌%◌, ◌^◌, ◌≤◌, ◌<◌}
use native.Mathlib.Nat.{pow-suc, pow-zero}
use native.Mathlib.Omega.{arith}
use lib.Count.{ones, ones_step}
use lib.Dec.{ltb}
use borrow.Author.Tests.{le-leb, ltb-true, ltb-false}
use Rattle.lists.proofs.Tests.{cases, truth, both_of}
use Rattle.lists.proofs.Order.{earlier-lt}
use Rattle.lattice.specs.Sets.{before, holds}
use Rattle.lattice.proofs.Sets.{holds-suc, holds_refl, holds-enough}

-- s without the dimension at place i, where the set of that one has the number u
record Less (s u : ℕ) : Type 0 where
  within : u ≤ s
  held : (e : ℕ) → holds e s (s - u) ≡ true
  fewer : ones s ≡ ones (s - u) + 1

first : (s : ℕ) → 1 ≤ s % 2 → Less s 1
first s h =
    let half : (s - 1) / 2 ≡ s / 2 = omega (arith, h) in
    record {
      within = omega (arith, h);
      held = λ e. go e half;
      fewer = omega (arith, h, ones_step s, ones_step (s - 1), ap ones half);
    }
  where
    go : (e : ℕ) → (s - 1) / 2 ≡ s / 2 → holds e s (s - 1) ≡ true
    go zero f = refl
    go (suc e) f = both_of (le-leb ((s - 1) % 2) (s % 2) (omega (arith, h))) (subst (λ (z : ℕ). holds e (s / 2) z ≡ true) (sym f) (holds_refl e (s / 2)))

later : (s u : ℕ) → Less (s / 2) u → Less s (u * 2)
later s u l =
    let half : (s - u * 2) / 2 ≡ s / 2 - u = omega (arith, l.within) in
    record {
      within = omega (arith, l.within);
      held = λ e. go e half;
      fewer = omega (arith, l.within, ones_step s, ones_step (s - u * 2), ap ones half, l.fewer);
    }
  where
    go : (e : ℕ) → (s - u * 2) / 2 ≡ s / 2 - u → holds e s (s - u * 2) ≡ true
    go zero f = refl
    go (suc e) f = both_of (le-leb ((s - u * 2) % 2) (s % 2) (omega (arith, l.within))) (subst (λ (z : ℕ). holds e (s / 2) z ≡ true) (sym f) (l.held e))

less : (k i s : ℕ) → i < k → holds k s (2 ^ i) ≡ true → Less s (2 ^ i)
less zero i s h t = absurd (omega (arith, h))
less (suc k) zero s h t = subst (Less s) (sym (pow-zero 2)) (first s (omega (arith, (holds-suc k s (2 ^ 0) t).0, pow-zero 2)))
less (suc k) (suc i) s h t =
    let e = pow-suc 2 i in
    let half : 2 ^ suc i / 2 ≡ 2 ^ i = omega (arith, e) in
    subst (Less s) (sym e) (later s (2 ^ i) (less k i (s / 2) (omega (arith, h)) (subst (λ (z : ℕ). holds k (s / 2) z ≡ true) half (holds-suc k s (2 ^ suc i) t).1)))

module _ (k i s : ℕ) (h : i < k) (t : holds k s (2 ^ i) ≡ true) where
  pub less_within : 2 ^ i ≤ s
  less_within = (less k i s h t).within

  pub less_held : (e : ℕ) → holds e s (s - 2 ^ i) ≡ true
  less_held = (less k i s h t).held

  pub less_before : before (s - 2 ^ i) s ≡ true
  less_before = earlier-lt (ones (s - 2 ^ i)) (ones s) ((s - 2 ^ i) ∷ []) (s ∷ []) (omega (arith, (less k i s h t).fewer))

-- a set within another one, and not the same, lies within it without one of its dimensions
pub less_between : (k s t : ℕ) → s < 2 ^ k → t < 2 ^ k → holds k s t ≡ true → t ≢ s → (i : ℕ) × (i < k) × (holds k s (2 ^ i) ≡ true) × (holds k (s - 2 ^ i) t ≡ true)
less_between zero s t h l e n = absurd (n (omega (arith, h, l)))
less_between (suc k) s t h l e n =
    let p = holds-suc k s t e in
    cases (truth (ltb (t % 2) (s % 2)))
    (λ q. let f = ltb-true (t % 2) (s % 2) q in
    let half : s / 2 ≡ (s - 2 ^ 0) / 2 = omega (arith, f) in (
      0,
      omega arith,
      both_of (le-leb (2 ^ 0 % 2) (s % 2) (omega (arith, f))) (holds-enough 0 k (s / 2) 0 (omega arith) (omega arith)),
      both_of (le-leb (t % 2) ((s - 2 ^ 0) % 2) (omega (arith, f))) (subst (λ (z : ℕ). holds k z (t / 2) ≡ true) half p.1),
    ))
    (λ q. let f = ltb-false (t % 2) (s % 2) q in
    let r = less_between k (s / 2) (t / 2) (omega (arith, h)) (omega (arith, l)) p.1 (λ g. n (omega (arith, g, f, p.0))) in
    let i = r.0 in
    let u = pow-suc 2 i in
    let w = less_within k i (s / 2) r.1 r.2 in
    let one : 2 ^ i ≡ 2 ^ suc i / 2 = omega (arith, u) in
    let half : s / 2 - 2 ^ i ≡ (s - 2 ^ suc i) / 2 = omega (arith, u, w) in (
      suc i,
      omega (arith, r.1),
      both_of (le-leb (2 ^ suc i % 2) (s % 2) (omega (arith, u))) (subst (λ (z : ℕ). holds k (s / 2) z ≡ true) one r.2),
      both_of (le-leb (t % 2) ((s - 2 ^ suc i) % 2) (omega (arith, u, w, p.0))) (subst (λ (z : ℕ). holds k z (t / 2) ≡ true) half r.3),
    ))
