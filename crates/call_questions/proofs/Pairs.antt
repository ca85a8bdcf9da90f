-- Tests of two lists, one dimension after the other: whether a row falls in a cell, and whether a code of a question fits its size.
use mathlib.Core.Path.{◌≡◌, refl, ap}
use mathlib.Core.Logic.{◌≢◌}
use mathlib.Core.Bool.{Bool, true, false, ◌&&◌, ◌||◌, or-true, and-false}
use mathlib.Core.List.{List, [], ◌∷◌}
use Prim.Native.Nat.{ℕ, suc, ◌≤◌, ◌<◌}
use native.Mathlib.Omega.{arith}
use lib.Dec.{eqb, ltb}
use lib.ListN.{length}
use borrow.Author.Tests.{lt-ltb, le-ltb}
use Rattle.std.specs.List.{list_all, zip}
use Rattle.cube.specs.Codes.{ALL, falls}
use Rattle.call_questions.specs.Questions.{asks}

-- ---- a cell's code and a row's

abbrev pub meets : ℕ → ℕ → Bool
meets a b = eqb a ALL || eqb a b

pub falls-zip : (c x : List ℕ) → length c ≡ length x → list_all (λ p. meets p.0 p.1) (zip c x) ≡ falls c x
falls-zip [] [] e = refl
falls-zip [] (b ∷ x) e = absurd (omega (arith, e))
falls-zip (a ∷ c) [] e = absurd (omega (arith, e))
falls-zip (a ∷ c) (b ∷ x) e = ap (λ (t : Bool). meets a b && t) (falls-zip c x (omega (arith, e)))

-- ---- a size and a question's code

abbrev pub allows : ℕ → ℕ → Bool
allows z c = ltb c z || eqb c ALL

-- a question has as many codes as there are sizes
pub asks-length : (zs q : List ℕ) → length q ≢ length zs → asks zs q ≡ false
asks-length [] [] n = absurd (n refl)
asks-length [] (c ∷ q) n = refl
asks-length (z ∷ zs) [] n = refl
asks-length (z ∷ zs) (c ∷ q) n = rw (asks-length zs q (λ e. n (ap suc e)), and-false)

pub allows_below : (z c : ℕ) → c < z → allows z c ≡ true
allows_below z c h = rw (lt-ltb c z h)

pub allows_all : (z c : ℕ) → eqb c ALL ≡ true → allows z c ≡ true
allows_all z c e = rw (e, or-true)

pub allows_not : (z c : ℕ) → z ≤ c → eqb c ALL ≡ false → allows z c ≡ false
allows_not z c h e = rw (le-ltb c z h, e)
