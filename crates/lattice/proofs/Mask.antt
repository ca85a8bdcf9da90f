-- A mask of one set by another changes nothing of the other just where the first holds it.
use mathlib.Core.Path.{◌≡◌, refl}
use mathlib.Core.Bool.{Bool, true, false, ◌&&◌}
use Prim.Native.Nat.{ℕ, zero, suc, ◌+◌, ◌*◌, ◌/◌, ◌%◌, ◌^◌, ◌<◌, min}
use native.Mathlib.Omega.{arith}
use lib.Dec.{eqb, leb}
use lib.Bits.{bit_and, and_step, and_zero_r}
use borrow.Author.Tests.{eq-eqb, ne_eqb, leb-true, leb-false, eqb-true, eqb-false}
use Rattle.lattice.specs.Sets.{holds}

-- the first dimension, and the rest
mask_step : (s t rest : ℕ) → eqb (rest * 2 + min (s % 2) (t % 2)) t ≡ leb (t % 2) (s % 2) && eqb rest (t / 2)
mask_step s t rest = go (leb (t % 2) (s % 2)) refl (eqb rest (t / 2)) refl
  where
    go : (a : Bool) → leb (t % 2) (s % 2) ≡ a → (b : Bool) → eqb rest (t / 2) ≡ b → eqb (rest * 2 + min (s % 2) (t % 2)) t ≡ a && b
    go true e true f = eq-eqb (rest * 2 + min (s % 2) (t % 2)) t (omega (arith, leb-true (t % 2) (s % 2) e, eqb-true rest (t / 2) f))
    go true e false f = ne_eqb (rest * 2 + min (s % 2) (t % 2)) t (λ q. eqb-false rest (t / 2) f (omega (arith, leb-true (t % 2) (s % 2) e)))
    go false e b f = ne_eqb (rest * 2 + min (s % 2) (t % 2)) t (λ q. omega (arith, leb-false (t % 2) (s % 2) e))

pub mask_holds : (d s t : ℕ) → t < 2 ^ d → eqb (bit_and s t) t ≡ holds d s t
mask_holds zero s t h = let e : t ≡ 0 = omega arith in rw (e, and_zero_r s)
mask_holds (suc d) s t h = rw (and_step s t, mask_step s t (bit_and (s / 2) (t / 2)), mask_holds d (s / 2) (t / 2) (omega arith))
