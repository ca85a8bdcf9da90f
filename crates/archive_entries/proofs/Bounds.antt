-- 64 bits hold the least and the greatest sum of 1,048,576 readings.
use Prim.Native.Nat.{ℕ, zero, suc, ◌*◌, ◌≤◌}
use native.Mathlib.Omega.{arith}
use lib.IntN.{ℤ, pos, negsuc, nat_abs, neg_ℤ, ◌*ℤ◌}
use mir.Syntax.{w64}
use mir.Val.{SFits}
use Rattle.cube.specs.Bounds.{most}
use Rattle.cube.proofs.Sums.{bounded_fits}

abs_neg : (k : ℕ) → nat_abs (neg_ℤ (pos k)) ≤ k
abs_neg zero = omega arith
abs_neg (suc k) = omega arith

fits : (n : ℕ) (z : ℤ) → nat_abs z ≤ 2147483648 * n → n ≤ most → SFits w64 z
fits n z h l = bounded_fits (record { sum = z; count = n }) (record { sum = h; count = l })

module _ (n : ℕ) (h : n ≤ most) where
  pub least_fits : SFits w64 (negsuc 2147483647 *ℤ pos n)
  least_fits = fits n (negsuc 2147483647 *ℤ pos n) (abs_neg (2147483648 * n)) h

  pub greatest-fits : SFits w64 (pos 2147483647 *ℤ pos n)
  greatest-fits = fits n (pos 2147483647 *ℤ pos n) (omega arith) h
