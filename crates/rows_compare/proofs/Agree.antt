-- Agreement of two rows, one dimension after the other.
use mathlib.Core.Path.{◌≡◌}
use mathlib.Core.Bool.{true, false, ◌&&◌}
use mathlib.Core.List.{List}
use Prim.Native.Nat.{ℕ, ◌+◌, ◌/◌, ◌%◌, ◌≤◌, ◌<◌}
use native.Mathlib.Numerals.{add-one}
use native.Mathlib.Omega.{arith}
use lib.ListN.{length, get_or, drop, drop_of_length-le}
use lib.Seq.{drop-cons}
use Rattle.cube.specs.Codes.{alike, agree}

-- codes of a dimension that the set has not are alike
pub alike-out : (n a b : ℕ) → (n % 2 ≡ 1 → ⊥) → alike (n % 2) a b ≡ true
alike-out n a b h = let e : n % 2 ≡ 0 = omega arith in rw e

pub agree-done : (set : ℕ) (xs ys : List ℕ) (i : ℕ) → length xs ≤ i → length ys ≤ i → agree set (drop i xs) (drop i ys) ≡ true
agree-done set xs ys i h k = rw (drop_of_length-le xs h, drop_of_length-le ys k)

-- one dimension more, where the codes are alike, and where they are not
module _ (set : ℕ) (xs ys : List ℕ) (i : ℕ) (h : i < length xs) (k : i < length ys) where
  agree-more : agree set (drop i xs) (drop i ys) ≡ alike (set % 2) (get_or xs i 0) (get_or ys i 0) && agree (set / 2) (drop (i + 1) xs) (drop (i + 1) ys)
  agree-more = rw (add-one, drop-cons xs i 0, drop-cons ys i 0)

  pub agree_skip : alike (set % 2) (get_or xs i 0) (get_or ys i 0) ≡ true → agree (set / 2) (drop (i + 1) xs) (drop (i + 1) ys) ≡ agree set (drop i xs) (drop i ys)
  agree_skip e = rw (agree-more, e)

  pub agree-stop : alike (set % 2) (get_or xs i 0) (get_or ys i 0) ≡ false → agree set (drop i xs) (drop i ys) ≡ false
  agree-stop e = rw (agree-more, e)
