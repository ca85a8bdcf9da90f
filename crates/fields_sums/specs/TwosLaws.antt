-- Laws of two's complement, over the width.
use Rattle.std.specs.Prelude.{◌≡◌, refl, Bool, true, false, cond, ℕ, suc, ◌+◌, ◌-◌, ◌*◌, ◌^◌, ◌≤◌, ◌<◌, ltb, ℤ, pos, negsuc}
use Rattle.std.proofs.Common.{ap, ◌∙◌, arith, pow_pos, lt-ltb, le-ltb, ltb-true, ltb-false}
use Rattle.std.specs.Int.Signed.{mag}
use Rattle.fields_sums.specs.Twos.{signed_of, bits_of, sum_of, low_of, high_of}

-- bits of the lower half stand for themselves
pub signed_low : (k n : ℕ) → n < 2 ^ k → signed_of (suc k) n ≡ pos n
signed_low k n h = let e : suc k - 1 ≡ k = omega arith in rw (e, lt-ltb n (2 ^ k) h)

-- bits of the upper half stand for integers below zero
pub signed_high : (k n : ℕ) → 2 ^ k ≤ n → signed_of (suc k) n ≡ negsuc (2 ^ suc k - suc n)
signed_high k n h = let e : suc k - 1 ≡ k = omega arith in rw (e, le-ltb n (2 ^ k) h)

-- the bits of an integer that fits are of that width
pub bits_lt : (k : ℕ) (z : ℤ) → mag z < 2 ^ k → bits_of (suc k) z < 2 ^ suc k
bits_lt k (pos n) h = omega arith
bits_lt k (negsuc n) h = omega arith

-- and stand for it
pub signed_bits : (k : ℕ) (z : ℤ) → mag z < 2 ^ k → signed_of (suc k) (bits_of (suc k) z) ≡ z
signed_bits k (pos n) h = signed_low k n h
signed_bits k (negsuc n) h = signed_high k (2 ^ suc k - suc n) (omega arith) ∙ ap negsuc (omega arith)

-- so do the two words of a sum
pub sum-words : (z : ℤ) → mag z < 2 ^ 63 → sum_of (low_of z) (high_of z) ≡ z
sum-words z h =
    let all : low_of z + 2 ^ 32 * high_of z ≡ bits_of 64 z = omega arith in
    ap (signed_of 64) all ∙ signed_bits 63 z h

-- bits are those of the integer that they stand for
pub bits_signed : (k n : ℕ) → n < 2 ^ k → bits_of k (signed_of k n) ≡ n
bits_signed k n h = go (ltb n (2 ^ (k - 1)))
  where
    go : (b : Bool) → bits_of k (cond b (pos n) (negsuc (2 ^ k - suc n))) ≡ n
    go true = refl
    go false = omega arith

-- what bits stand for fits
pub signed-fits : (k n : ℕ) → mag (signed_of (suc k) n) < 2 ^ k
signed-fits k n = go (ltb n (2 ^ k)) refl
  where
    go : (b : Bool) → ltb n (2 ^ k) ≡ b → mag (signed_of (suc k) n) < 2 ^ k
    go true e = rw (signed_low k n (ltb-true n (2 ^ k) e)) (ltb-true n (2 ^ k) e)
    go false e = rw (signed_high k n (ltb-false n (2 ^ k) e)) (omega (arith, ltb-false n (2 ^ k) e, pow_pos k))
