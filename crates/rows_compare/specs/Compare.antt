-- Where two rows part under a set: at the first dimension of the set at which they differ, before or after by the codes there. Dimensions are counted from 1.
--
--   Order                     Before or After at a dimension, or Equal: the enum of src/lib.rt
--   compared s x y            codes x compared with codes y under set s
--   is_equal o                 o says equal
--   is_before o                o says before
--   named o                   the dimension that o names; 0 where it names none
--   code x i                  the code of dimension i
--   has s i                   set s has dimension i
--   FirstDifference s x y o   o names the first dimension of set s at which codes x and y differ, with before or after by the codes there
--   added t s                 the dimensions that set t has and s has not, where t holds s
--   Longer d s t              set t of d dimensions holds set s, and each dimension that it adds comes after all of s
use Rattle.std.specs.Prelude.{◌≡◌, Bool, true, false, cond, List, [], ◌∷◌, ℕ, zero, suc, ◌-◌, ◌/◌, ◌%◌, ◌^◌, ◌<◌, eqb, ltb, get_or}
use Rattle.lattice.specs.Sets.{holds}
use Rattle.rows_compare.specs.declared.Order.{Order}
use Rattle.rows_compare.specs.declared.Order.TheVariants.{Before, Equal, After}

-- the first dimension with codes a and b, by whether the set has it (1) or not (0), or what the later ones say
abbrev pub parts : ℕ → ℕ → ℕ → Order → Order
parts zero a b later = later
parts (suc k) a b later = cond (ltb a b) (Before 1) (cond (ltb b a) (After 1) later)

-- a dimension counted from the second one, counted from the first
abbrev pub next : Order → Order
next (Before i) = Before (suc i)
next Equal = Equal
next (After i) = After (suc i)

unfoldable pub compared : ℕ → List ℕ → List ℕ → Order
compared s [] [] = Equal
compared s [] (b ∷ y) = Before 1
compared s (a ∷ x) [] = After 1
compared s (a ∷ x) (b ∷ y) = parts (s % 2) a b (next (compared (s / 2) x y))

abbrev pub is_equal : Order → Bool
is_equal (Before i) = false
is_equal Equal = true
is_equal (After i) = false

abbrev pub is_before : Order → Bool
is_before (Before i) = true
is_before Equal = false
is_before (After i) = false

abbrev pub named : Order → ℕ
named (Before i) = i
named Equal = 0
named (After i) = i

abbrev pub code : List ℕ → ℕ → ℕ
code x zero = 0
code x (suc k) = get_or x k 0

abbrev pub has : ℕ → ℕ → Bool
has s zero = false
has s (suc zero) = eqb (s % 2) 1
has s (suc (suc i)) = has (s / 2) (suc i)

-- what o says of the codes a and b of the dimension that it names
abbrev pub Told : Order → ℕ → ℕ → Type 0
Told (Before i) a b = a < b
Told Equal a b = ⊥
Told (After i) a b = b < a

pub record FirstDifference (s : ℕ) (x y : List ℕ) (o : Order) : Type 0 where
  pub member : has s (named o) ≡ true
  pub equal : (j : ℕ) → j < named o → has s j ≡ true → code x j ≡ code y j
  pub told : Told o (code x (named o)) (code y (named o))

abbrev pub added : ℕ → ℕ → ℕ
added t s = t - s

pub record Longer (d s t : ℕ) : Type 0 where
  pub below : s < 2 ^ d
  pub held : holds d t s ≡ true
  pub later : (i j : ℕ) → has s i ≡ true → has (added t s) j ≡ true → i < j
