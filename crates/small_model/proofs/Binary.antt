-- Numbers in binary: they rise as the numbers do, and there is one for any digits.
use mathlib.Core.Path.{◌≡◌, refl, sym, ◌∙◌, ap, ap₂}
use mathlib.Core.Bool.{true}
use mathlib.Core.List.{List, [], ◌∷◌, ◌++◌}
use Prim.Native.Nat.{ℕ, zero, suc, ◌+◌, ◌*◌, ◌/◌, ◌%◌, ◌^◌, ◌<◌}
use native.Mathlib.Omega.{arith}
use lib.Dec.{ltb}
use lib.ListN.{length, length-append}
use borrow.Author.Tests.{ltb-true, ltb-false}
use Rattle.lists.specs.Order.{earlier}
use Rattle.lists.proofs.Tests.{cases, truth}
use Rattle.lists.proofs.Order.{earlier_cons, earlier-lt, earlier-eq, by_codes}
use Rattle.cube.specs.Codes.{Coded}
use Rattle.small_model.specs.Small.{binary, Digits}

-- ---- digits

digits_more : (d : ℕ) (x : List ℕ) (a : ℕ) → Digits d x → a < 2 → Digits (suc d) (x ++ (a ∷ []))
digits_more zero [] a k h = (h, tt)
digits_more zero (b ∷ x) a k h = absurd k
digits_more (suc d) [] a k h = absurd k
digits_more (suc d) (b ∷ x) a k h = (k.0, digits_more d x a k.1 h)

pub binary_digits : (d j : ℕ) → Digits d (binary d j)
binary_digits zero j = tt
binary_digits (suc d) j = digits_more d (binary d (j / 2)) (j % 2) (binary_digits d (j / 2)) (omega arith)

pub digits_coded : (d : ℕ) (x : List ℕ) → Digits d x → Coded d x
digits_coded zero [] k = tt
digits_coded zero (a ∷ x) k = absurd k
digits_coded (suc d) [] k = absurd k
digits_coded (suc d) (a ∷ x) k = (omega (arith, k.0), digits_coded d x k.1)

pub binary-length : (d j : ℕ) → length (binary d j) ≡ d
binary-length zero j = refl
binary-length (suc d) j = omega (arith, length-append (binary d (j / 2)) (j % 2 ∷ []), binary-length d (j / 2))

-- ---- order

-- digits behind lists of one length that differ decide nothing
earlier-front : (x y : List ℕ) (a b : ℕ) → length x ≡ length y → earlier x y ≡ true → earlier (x ++ (a ∷ [])) (y ++ (b ∷ [])) ≡ true
earlier-front [] [] a b n e = absurd (by_codes.irrefl [] e)
earlier-front [] (d ∷ y) a b n e = absurd (omega arith)
earlier-front (c ∷ x) [] a b n e = absurd (omega arith)
earlier-front (c ∷ x) (d ∷ y) a b n e = cases (earlier_cons c d x y e)
    (λ h. earlier-lt c d (x ++ (a ∷ [])) (y ++ (b ∷ [])) h)
    (λ h. earlier-eq c d (x ++ (a ∷ [])) (y ++ (b ∷ [])) h.0 (earlier-front x y a b (omega arith) h.1))

earlier-last : (x : List ℕ) (a b : ℕ) → a < b → earlier (x ++ (a ∷ [])) (x ++ (b ∷ [])) ≡ true
earlier-last [] a b h = earlier-lt a b [] [] h
earlier-last (c ∷ x) a b h = earlier-eq c c (x ++ (a ∷ [])) (x ++ (b ∷ [])) refl (earlier-last x a b h)

pub binary-earlier : (d j k : ℕ) → j < k → k < 2 ^ d → earlier (binary d j) (binary d k) ≡ true
binary-earlier zero j k h l = absurd (omega arith)
binary-earlier (suc d) j k h l = cases (truth (ltb (j / 2) (k / 2)))
    (λ e. earlier-front (binary d (j / 2)) (binary d (k / 2)) (j % 2) (k % 2) (binary-length d (j / 2) ∙ sym (binary-length d (k / 2)))
    (binary-earlier d (j / 2) (k / 2) (ltb-true (j / 2) (k / 2) e) (omega (arith, l))))
    (λ e. let q : k / 2 ≡ j / 2 = omega (arith, ltb-false (j / 2) (k / 2) e, h) in
    rw q (earlier-last (binary d (j / 2)) (j % 2) (k % 2) (omega (arith, q, h))))

pub binary-same : (d j k : ℕ) → j < 2 ^ d → k < 2 ^ d → binary d j ≡ binary d k → j ≡ k
binary-same d j k h l e = cases (truth (ltb j k))
    (λ p. absurd (by_codes.irrefl (binary d k) (rw e at (binary-earlier d j k (ltb-true j k p) l))))
    (λ p. cases (truth (ltb k j))
    (λ q. absurd (by_codes.irrefl (binary d k) (rw e at (binary-earlier d k j (ltb-true k j q) h))))
    (λ q. omega (arith, ltb-false j k p, ltb-false k j q)))

-- ---- the number of digits

binary_cons : (d a n : ℕ) → a < 2 → n < 2 ^ d → binary (suc d) (a * 2 ^ d + n) ≡ a ∷ binary d n
binary_cons zero a n h l =
    let e : (a * 2 ^ 0 + n) % 2 ≡ a = omega (arith, h, l) in
    rw e
binary_cons (suc d) a n h l =
    let t : 2 ^ suc d ≡ 2 * 2 ^ d = omega arith in
    let w : a * 2 ^ suc d ≡ 2 * (a * 2 ^ d) = ap (λ (k : ℕ). a * k) t ∙ omega arith in
    let p : (a * 2 ^ suc d + n) / 2 ≡ a * 2 ^ d + n / 2 = omega (arith, w) in
    let q : (a * 2 ^ suc d + n) % 2 ≡ n % 2 = omega (arith, w) in
    ap₂ (λ (m k : ℕ). binary (suc d) m ++ (k ∷ [])) p q
    ∙ ap (λ (x : List ℕ). x ++ (n % 2 ∷ [])) (binary_cons d a (n / 2) h (omega (arith, l)))

pub binary_of : (d : ℕ) (x : List ℕ) → Digits d x → (j : ℕ) × (j < 2 ^ d) × (binary d j ≡ x)
binary_of zero [] k = (0, omega arith, refl)
binary_of zero (a ∷ x) k = absurd k
binary_of (suc d) [] k = absurd k
binary_of (suc d) (a ∷ x) k =
    let r = binary_of d x k.1 in
    (a * 2 ^ d + r.0, below d a k.0 r.1, binary_cons d a r.0 k.0 r.1 ∙ ap (λ (y : List ℕ). a ∷ y) r.2)
  where
    below : (d : ℕ) {n : ℕ} (a : ℕ) → a < 2 → n < 2 ^ d → a * 2 ^ d + n < 2 ^ suc d
    below d zero h l = omega (arith, l)
    below d (suc zero) h l = omega (arith, l)
    below d (suc (suc a)) h l = absurd (omega (arith, h))
