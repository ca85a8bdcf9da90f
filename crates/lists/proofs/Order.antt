-- Laws of the order of lists of numbers.
use mathlib.Core.Path.{◌≡◌, refl, sym, ◌∙◌, ap₂}
use mathlib.Core.Logic.{◌≢◌, ◌⊎◌, inl, inr}
use mathlib.Core.Bool.{Bool, true, false, ◌&&◌, false≢true, or-false}
use mathlib.Core.List.{List, [], ◌∷◌}
use Prim.Native.Nat.{ℕ, ◌≤◌, ◌<◌}
use native.Mathlib.Omega.{arith}
use lib.Dec.{eqb, ltb}
use lib.ListN.{length}
use borrow.Author.Tests.{ltb-true, ltb-false, eqb-true, lt-ltb, le-ltb, eq-eqb, ne_eqb}
use Rattle.lists.specs.Order.{earlier, same, Strict}
use Rattle.lists.proofs.Tests.{cases, both, both_of, either, neither, truth, refuted}

pub same-eq : (x y : List ℕ) → same x y ≡ true → x ≡ y
same-eq [] [] e = refl
same-eq [] (b ∷ y) e = absurd (false≢true e)
same-eq (a ∷ x) [] e = absurd (false≢true e)
same-eq (a ∷ x) (b ∷ y) e = let r = both (eqb a b) (same x y) e in ap₂ ◌∷◌ (eqb-true a b r.0) (same-eq x y r.1)

pub same_refl : (x : List ℕ) → same x x ≡ true
same_refl [] = refl
same_refl (a ∷ x) = both_of (eq-eqb a a refl) (same_refl x)

pub earlier_cons : (a b : ℕ) (x y : List ℕ) → earlier (a ∷ x) (b ∷ y) ≡ true → (a < b) ⊎ ((a ≡ b) × (earlier x y ≡ true))
earlier_cons a b x y e = cases (either (ltb a b) (eqb a b && earlier x y) e)
    (λ h. inl (ltb-true a b h))
    (λ h. let r = both (eqb a b) (earlier x y) h in inr (eqb-true a b r.0, r.1))

pub earlier-lt : (a b : ℕ) (x y : List ℕ) → a < b → earlier (a ∷ x) (b ∷ y) ≡ true
earlier-lt a b x y h = rw (lt-ltb a b h)

-- the same first number decides nothing, a lower one at once
pub earlier_skip : (a b : ℕ) (x y : List ℕ) → a ≡ b → earlier (a ∷ x) (b ∷ y) ≡ earlier x y
earlier_skip a b x y e = rw (le-ltb a b (omega arith), eq-eqb a b e)

pub earlier-eq : (a b : ℕ) (x y : List ℕ) → a ≡ b → earlier x y ≡ true → earlier (a ∷ x) (b ∷ y) ≡ true
earlier-eq a b x y h e = earlier_skip a b x y h ∙ e

pub earlier_gt : (a b : ℕ) (x y : List ℕ) → b < a → earlier (a ∷ x) (b ∷ y) ≡ false
earlier_gt a b x y h = rw (le-ltb a b (omega arith), ne_eqb a b (omega arith))

-- first numbers that differ decide
pub earlier_differs : (a b : ℕ) (x y : List ℕ) → a ≢ b → earlier (a ∷ x) (b ∷ y) ≡ ltb a b
earlier_differs a b x y n = rw (ne_eqb a b n, or-false)

-- no codes come before any
pub earlier-none : (x y : List ℕ) → length x ≡ 0 → 1 ≤ length y → earlier x y ≡ true
earlier-none [] [] e h = absurd (omega arith)
earlier-none [] (b ∷ y) e h = refl
earlier-none (a ∷ x) y e h = absurd (omega arith)

earlier-trans : (x y z : List ℕ) → earlier x y ≡ true → earlier y z ≡ true → earlier x z ≡ true
earlier-trans [] [] z e f = f
earlier-trans [] (b ∷ y) [] e f = f
earlier-trans [] (b ∷ y) (c ∷ z) e f = refl
earlier-trans (a ∷ x) [] z e f = absurd (false≢true e)
earlier-trans (a ∷ x) (b ∷ y) [] e f = f
earlier-trans (a ∷ x) (b ∷ y) (c ∷ z) e f = cases (earlier_cons a b x y e)
    (λ h. cases (earlier_cons b c y z f) (λ k. earlier-lt a c x z (omega arith)) (λ k. earlier-lt a c x z (omega arith)))
    (λ h. cases (earlier_cons b c y z f) (λ k. earlier-lt a c x z (omega arith)) (λ k. earlier-eq a c x z (h.0 ∙ k.0) (earlier-trans x y z h.1 k.1)))

earlier-irrefl : (x : List ℕ) → earlier x x ≢ true
earlier-irrefl [] e = false≢true e
earlier-irrefl (a ∷ x) e = cases (earlier_cons a a x x e) (λ h. omega arith) (λ h. earlier-irrefl x h.1)

earlier-total : (x y : List ℕ) → earlier x y ≡ false → earlier y x ≡ false → x ≡ y
earlier-total [] [] e f = refl
earlier-total [] (b ∷ y) e f = absurd (false≢true (sym e))
earlier-total (a ∷ x) [] e f = absurd (false≢true (sym f))
earlier-total (a ∷ x) (b ∷ y) e f =
    let h = neither (ltb a b) (eqb a b && earlier x y) e in
    let k = neither (ltb b a) (eqb b a && earlier y x) f in
    let q : a ≡ b = omega (arith, ltb-false a b h.0, ltb-false b a k.0) in
    ap₂ ◌∷◌ q (earlier-total x y (sym (earlier_skip a b x y q) ∙ e) (sym (earlier_skip b a y x (sym q)) ∙ f))

pub by_codes : Strict earlier
by_codes = record { trans = earlier-trans; total = earlier-total; irrefl = earlier-irrefl }

pub strict_turned : {A : Type 0} {less : A → A → Bool} (o : Strict less) (x y : A) → less x y ≡ true → less y x ≡ false
strict_turned o x y e = refuted (λ f. o.irrefl x (o.trans x y x e f))

-- x comes before y, and z does not: x comes before z
pub before-cut : (x y z : List ℕ) → earlier x y ≡ true → earlier z y ≡ false → earlier x z ≡ true
before-cut x y z e f = cases (truth (earlier y z)) (by_codes.trans x y z e) (λ g. rw (← by_codes.total y z g f) e)

pub not_same : (x y : List ℕ) → earlier x y ≡ true → same y x ≡ false
not_same x y e = refuted (λ f. by_codes.irrefl x (rw (same-eq y x f) at e))
