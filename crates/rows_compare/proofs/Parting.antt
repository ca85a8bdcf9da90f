-- Where two rows part: equal just if they agree, otherwise at the first dimension at which they differ; before as their cells are.
use mathlib.Core.Path.{◌≡◌, refl, sym, ◌∙◌, ap}
use mathlib.Core.Logic.{◌↔◌}
use mathlib.Core.Bool.{true, false, ◌&&◌, false≢true}
use mathlib.Core.List.{List, [], ◌∷◌}
use Prim.Native.Nat.{ℕ, zero, suc, ◌/◌, ◌%◌, ◌≤◌, ◌<◌}
use native.Mathlib.Omega.{arith}
use lib.Dec.{ltb}
use lib.ListN.{length}
use borrow.Author.Tests.{ltb-true, ltb-false, eq-eqb, ne_eqb, eqb-true, eqb-false, lt-ltb, le-ltb}
use Rattle.lists.specs.Order.{earlier}
use Rattle.lists.proofs.Tests.{cases, truth}
use Rattle.cube.specs.Codes.{shown, cell, alike, agree}
use Rattle.rows_compare.specs.declared.Order.{Order}
use Rattle.rows_compare.specs.declared.Order.TheVariants.{Before, Equal, After}
use Rattle.rows_compare.specs.Compare.{parts, next, compared, is_equal, is_before, code, has, FirstDifference}

-- ---- one dimension

-- alike codes decide nothing
pub parts-alike : (k a b : ℕ) (p : Order) → alike k a b ≡ true → parts k a b p ≡ p
parts-alike zero a b p e = refl
parts-alike (suc k) a b p e = let q = eqb-true a b e in rw (le-ltb a b (omega arith), le-ltb b a (omega arith))

-- codes that are not alike are of a dimension of the set
pub alike-has : (k a b : ℕ) → alike k a b ≡ false → 1 ≤ k
alike-has zero a b e = absurd (false≢true (sym e))
alike-has (suc k) a b e = omega arith

parts-equal : (k a b : ℕ) (p : Order) → is_equal (parts k a b p) ≡ alike k a b && is_equal p
parts-equal zero a b p = refl
parts-equal (suc k) a b p = cases (truth (ltb a b))
    (λ h. rw (h, ne_eqb a b (omega (arith, ltb-true a b h))))
    (λ h. cases (truth (ltb b a))
    (λ g. rw (h, g, ne_eqb a b (omega (arith, ltb-true b a g))))
    (λ g. rw (h, g, eq-eqb a b (omega (arith, ltb-false a b h, ltb-false b a g)))))

parts-before : (k a b : ℕ) (p : Order) (x y : List ℕ) → is_before p ≡ earlier x y → is_before (parts k a b p) ≡ earlier (shown k a ∷ x) (shown k b ∷ y)
parts-before zero a b p x y e = e
parts-before (suc k) a b p x y e = cases (truth (ltb a b))
    (λ h. rw h)
    (λ h. cases (truth (ltb b a))
    (λ g. rw (h, g, ne_eqb a b (omega (arith, ltb-true b a g))))
    (λ g. rw (h, g, eq-eqb a b (omega (arith, ltb-false a b h, ltb-false b a g))) e))

-- ---- the dimensions after the first

next-equal : (p : Order) → is_equal (next p) ≡ is_equal p
next-equal (Before i) = refl
next-equal Equal = refl
next-equal (After i) = refl

next-before : (p : Order) → is_before (next p) ≡ is_before p
next-before (Before i) = refl
next-before Equal = refl
next-before (After i) = refl

-- ---- equal just if the rows agree on the set

pub compared-agree : (s : ℕ) (x y : List ℕ) → is_equal (compared s x y) ≡ agree s x y
unfolding compared
compared-agree s [] [] = refl
compared-agree s [] (b ∷ y) = refl
compared-agree s (a ∷ x) [] = refl
compared-agree s (a ∷ x) (b ∷ y) =
    parts-equal (s % 2) a b (next (compared (s / 2) x y)) ∙ ap (λ e. alike (s % 2) a b && e) (next-equal (compared (s / 2) x y) ∙ compared-agree (s / 2) x y)

equal_is : (p : Order) → is_equal p ≡ true → p ≡ Equal
equal_is (Before i) e = absurd (false≢true e)
equal_is Equal e = refl
equal_is (After i) e = absurd (false≢true e)

pub compared-equal : (s : ℕ) (x y : List ℕ) → (compared s x y ≡ Equal) ↔ (agree s x y ≡ true)
compared-equal s x y = (λ e. sym (compared-agree s x y) ∙ ap is_equal e, λ e. equal_is (compared s x y) (compared-agree s x y ∙ e))

-- ---- before just if the cell of the one row comes before that of the other

pub compared-before : (s : ℕ) (x y : List ℕ) → is_before (compared s x y) ≡ earlier (cell s x) (cell s y)
unfolding compared
compared-before s [] [] = refl
compared-before s [] (b ∷ y) = refl
compared-before s (a ∷ x) [] = refl
compared-before s (a ∷ x) (b ∷ y) =
    parts-before (s % 2) a b (next (compared (s / 2) x y)) (cell (s / 2) x) (cell (s / 2) y) (next-before (compared (s / 2) x y) ∙ compared-before (s / 2) x y)

-- ---- otherwise the first dimension of the set at which they differ is named

-- it is the first dimension, where its codes are not alike,
first-here : (s a b : ℕ) (x y : List ℕ) (p : Order) → alike (s % 2) a b ≡ false → FirstDifference s (a ∷ x) (b ∷ y) (parts (s % 2) a b p)
first-here s a b x y p e =
    let m : s % 2 ≡ 1 = omega (arith, alike-has (s % 2) a b e) in
    let n = eqb-false a b (rw m at e) in
    rw m (cases (truth (ltb a b))
    (λ h. rw h (record { member = eq-eqb (s % 2) 1 m; equal = none; told = ltb-true a b h }))
    (λ h. let g : b < a = omega (arith, n, ltb-false a b h) in
    rw (h, lt-ltb b a g) (record { member = eq-eqb (s % 2) 1 m; equal = none; told = g })))
  where
    none : (j : ℕ) → j < 1 → has s j ≡ true → code (a ∷ x) j ≡ code (b ∷ y) j
    none zero h e = refl
    none (suc j) h e = absurd (omega arith)

-- or else that of the others
equal_next : (s a b i : ℕ) (x y : List ℕ) → alike (s % 2) a b ≡ true → ((j : ℕ) → j < i → has (s / 2) j ≡ true → code x j ≡ code y j)
    → (j : ℕ) → j < suc i → has s j ≡ true → code (a ∷ x) j ≡ code (b ∷ y) j
equal_next s a b i x y e f zero h m = refl
equal_next s a b i x y e f (suc zero) h m = eqb-true a b (rw (eqb-true (s % 2) 1 m) at e)
equal_next s a b i x y e f (suc (suc j)) h m = f (suc j) (omega arith) m

first_next : (s a b : ℕ) (x y : List ℕ) (p : Order) → alike (s % 2) a b ≡ true → FirstDifference (s / 2) x y p → FirstDifference s (a ∷ x) (b ∷ y) (next p)
first_next s a b x y (Before zero) e f = absurd (false≢true f.member)
first_next s a b x y (Before (suc i)) e f = record { member = f.member; equal = equal_next s a b (suc i) x y e f.equal; told = f.told }
first_next s a b x y Equal e f = absurd f.told
first_next s a b x y (After zero) e f = absurd (false≢true f.member)
first_next s a b x y (After (suc i)) e f = record { member = f.member; equal = equal_next s a b (suc i) x y e f.equal; told = f.told }

pub compared-first : (s : ℕ) (x y : List ℕ) → length x ≡ length y → agree s x y ≡ false → FirstDifference s x y (compared s x y)
unfolding compared
compared-first s [] [] l e = absurd (false≢true (sym e))
compared-first s [] (b ∷ y) l e = absurd (omega arith)
compared-first s (a ∷ x) [] l e = absurd (omega arith)
compared-first s (a ∷ x) (b ∷ y) l e =
    let p = compared (s / 2) x y in
    cases (truth (alike (s % 2) a b))
    (λ h. rw (parts-alike (s % 2) a b (next p) h) (first_next s a b x y p h (compared-first (s / 2) x y (omega arith) (rw h at e))))
    (first-here s a b x y (next p))
