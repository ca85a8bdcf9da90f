-- Codes under a mask, which has ALL in the place of each dimension that a set lacks.
--
--   missing_of s d   ALL where set s lacks dimension d, 0 where it has it
--   Mask s m        m is the mask of set s
--   masked m x      codes x under mask m: ALL where it has ALL, and the code where it has 0
use Rattle.std.specs.Prelude.{◌≡◌, List, [], ◌∷◌, ℕ, ◌/◌, ◌%◌, ◌^◌, ◌<◌, get_or, drop}
use Rattle.std.specs.Int.Bits.{bit_or}
use Rattle.cube.specs.Codes.{shown}

unfoldable pub missing_of : ℕ → ℕ → ℕ
missing_of s d = shown (s / 2 ^ d % 2) 0

abbrev pub Mask : ℕ → List ℕ → Type 0
Mask s m = (d : ℕ) → d < 8 → get_or m d 0 ≡ missing_of s d

abbrev pub masked : List ℕ → List ℕ → List ℕ
masked m [] = []
masked m (a ∷ x) = bit_or a (get_or m 0 0) ∷ masked (drop 1 m) x
