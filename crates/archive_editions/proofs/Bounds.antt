-- 64 bits hold the sums that are compared for stop 19: of so many readings, of which one is another.
use mathlib.Core.Path.{◌≡◌, refl, sym}
use mathlib.Core.Bool.{true, false, not}
use Prim.Native.Nat.{ℕ, zero, suc, ◌*◌, ◌^◌, ◌≤◌, ◌<◌}
use native.Mathlib.Nat.{mul-le-mul_left}
use native.Mathlib.Omega.{arith}
use lib.IntN.{ℤ, pos, negsuc, nat_abs, neg_ℤ, ◌+ℤ◌, ◌*ℤ◌}
use lib.Dec.{leb, ltb}
use lib.Signed.{mag, le_z, lt_z}
use borrow.Author.Tests.{le-leb, lt-leb, ltb-true, ltb-false}
use mir.Syntax.{w64}
use mir.Val.{SFits}
use Rattle.std.proofs.Common.{Ordering, Less, Equal, Greater}
use Rattle.std.specs.Prelude.{◌≤ℤ◌, ◌<ℤ◌}
use Rattle.std.specs.Ordering.{MatchOrdering, is_le, int_cmp}
use Rattle.std.specs.Int.Signed.{le_z_yes}
use Rattle.std.specs.Cmp.{int_ranks}
use Rattle.std.proofs.lemmas.Int.{ints}
use Rattle.lists.proofs.Tests.{cases, truth}
use Rattle.cube.specs.Measure.{plus}
use Rattle.cube.specs.Bounds.{Bounded}
use Rattle.cube.proofs.Sums.{bounded_fits, bounded_plus}

abs_neg : (k : ℕ) → nat_abs (neg_ℤ (pos k)) ≤ k
abs_neg zero = omega arith
abs_neg (suc k) = omega arith

abs_times : (n : ℕ) (z : ℤ) → mag z < 2 ^ 31 → nat_abs (pos n *ℤ z) ≤ 2147483648 * n
abs_times n (pos m) h = let k : n * m ≤ n * 2147483648 = mul-le-mul_left n (omega (arith, h)) in omega (arith, k)
abs_times n (negsuc m) h = let k : n * suc m ≤ n * 2147483648 = mul-le-mul_left n (omega (arith, h)) in omega (arith, k, abs_neg (n * suc m))

abs_reading : (z : ℤ) → mag z < 2 ^ 31 → nat_abs z ≤ 2147483648
abs_reading (pos m) h = omega (arith, h)
abs_reading (negsuc m) h = omega (arith, h)

module _ (n : ℕ) (y z : ℤ) (h : n ≤ 1048575) (p : mag y < 2 ^ 31) (q : mag z < 2 ^ 31) where
  one : Bounded (record { sum = y; count = 1 })
  one = record { sum = omega (arith, abs_reading y p); count = omega arith }

  times : Bounded (record { sum = pos n *ℤ z; count = n })
  times = record { sum = abs_times n z q; count = omega (arith, h) }

  pub times_fits : SFits w64 (pos n *ℤ z)
  times_fits = bounded_fits (record { sum = pos n *ℤ z; count = n }) times

  pub bound_fits : SFits w64 (y +ℤ pos n *ℤ z)
  bound_fits = bounded_fits (plus (record { sum = y; count = 1 }) (record { sum = pos n *ℤ z; count = n }))
      (bounded_plus (record { sum = y; count = 1 }) (record { sum = pos n *ℤ z; count = n }) one times (omega (arith, h)))

-- one is at most another just if the other is not below it
leb_not : (a b : ℕ) → leb b a ≡ not (ltb a b)
leb_not a b = cases (truth (ltb a b)) (λ e. rw e (lt-leb b a (ltb-true a b e))) (λ e. rw e (le-leb b a (ltb-false a b e)))

pub below_is : (a b : ℤ) → le_z b a ≡ not (lt_z a b)
below_is (pos a) (pos b) = leb_not a b
below_is (pos a) (negsuc b) = refl
below_is (negsuc a) (pos b) = refl
below_is (negsuc a) (negsuc b) = leb_not b a

-- what the code's comparisons say of integers
le_yes : (x y : ℤ) → x ≤ℤ y → le_z x y ≡ true
le_yes x y h = cases (truth (le_z x y)) (λ t. t) (λ f. absurd (rw f at h.le))

le_no : (x y : ℤ) → y <ℤ x → le_z x y ≡ false
le_no x y h = cases (truth (le_z x y)) (λ t. let l : x ≤ℤ y = le_z_yes (rw t tt) in absurd (omega (arith, ints))) (λ f. f)

le_ranked : (x y : ℤ) (o : Ordering) → MatchOrdering o (x <ℤ y) (x ≡ y) (y <ℤ x) → is_le o ≡ le_z x y
le_ranked x y Less h = sym (le_yes x y (omega (arith, ints)))
le_ranked x y Equal h = sym (le_yes x y (omega (arith, ints)))
le_ranked x y Greater h = sym (le_no x y h)

pub le_int : (x y : ℤ) → is_le (int_cmp x y) ≡ le_z x y
le_int x y = le_ranked x y (int_cmp x y) (int_ranks x y)
