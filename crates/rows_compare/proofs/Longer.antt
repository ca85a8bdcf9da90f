-- Two rows compared under a longer set that holds the set: the result is the same, or that of the added dimensions alone.
use mathlib.Core.Path.{◌≡◌, refl, sym, ◌∙◌, ap, subst}
use mathlib.Core.Logic.{◌≢◌}
use mathlib.Core.Bool.{true, false, not, ◌&&◌, false≢true}
use mathlib.Core.List.{List, [], ◌∷◌}
use Prim.Native.Nat.{ℕ, zero, suc, ◌-◌, ◌/◌, ◌%◌, ◌^◌, ◌≤◌, ◌<◌}
use native.Mathlib.Nat.{sub-zero}
use native.Mathlib.Omega.{arith}
use lib.Dec.{eqb, ltb}
use lib.ListN.{length}
use borrow.Author.Tests.{ltb-false, eq-eqb, eqb-false, lt-ltb}
use Rattle.lists.proofs.Tests.{cases, truth, both}
use Rattle.lattice.specs.Sets.{holds}
use Rattle.lattice.proofs.Sets.{holds-suc, holds-le}
use Rattle.cube.specs.Codes.{alike, agree}
use Rattle.rows_compare.specs.declared.Order.{Order}
use Rattle.rows_compare.specs.declared.Order.TheVariants.{Before, Equal, After}
use Rattle.rows_compare.specs.Compare.{parts, next, compared, is_equal, named, has, added, Longer}
use Rattle.rows_compare.proofs.Parting.{parts-alike, alike-has, compared-agree, compared-first}

-- the first dimension of the added ones, and the others
added_half : (d s t : ℕ) → s < 2 ^ suc d → holds (suc d) t s ≡ true → (added t s / 2 ≡ added (t / 2) (s / 2)) × (added t s % 2 ≡ t % 2 - s % 2)
added_half d s t h e =
    let p = holds-suc d t s e in
    let q = holds-le d (t / 2) (s / 2) (omega arith) p.1 in
    omega (arith, p.0, q.0)

-- The added dimensions are those of the longer set that are not in the shorter one.
pub added-has : (d s t i : ℕ) → i ≤ d → s < 2 ^ d → holds d t s ≡ true → has (added t s) i ≡ has t i && not (has s i)
added-has d s t zero l b h = refl
added-has zero s t (suc i) l b h = absurd (omega arith)
added-has (suc d) s t (suc zero) l b h = rw (added_half d s t b h).1 (go (s % 2) (t % 2) (holds-suc d t s h).0 (omega arith))
  where
    go : (m n : ℕ) → m ≤ n → n < 2 → eqb (n - m) 1 ≡ eqb n 1 && not (eqb m 1)
    go zero zero h k = refl
    go zero (suc zero) h k = refl
    go (suc zero) (suc zero) h k = refl
    go zero (suc (suc n)) h k = absurd (omega arith)
    go (suc m) zero h k = absurd (omega arith)
    go (suc (suc m)) (suc n) h k = absurd (omega arith)
    go (suc zero) (suc (suc n)) h k = absurd (omega arith)
added-has (suc d) s t (suc (suc i)) l b h = rw (added_half d s t b h).0 (added-has d (s / 2) (t / 2) (suc i) (omega arith) (omega arith) (holds-suc d t s h).1)

named-next : (p : Order) → is_equal p ≡ false → named (next p) ≡ suc (named p)
named-next (Before i) e = refl
named-next Equal e = absurd (false≢true (sym e))
named-next (After i) e = refl

parts_same : (k a b : ℕ) (p q : Order) → alike k a b ≡ false → parts k a b p ≡ parts k a b q
parts_same zero a b p q e = absurd (false≢true (sym e))
parts_same (suc k) a b p q e = cases (truth (ltb a b))
    (λ h. rw h)
    (λ h. rw (h, lt-ltb b a (omega (arith, ltb-false a b h, eqb-false a b e))))

-- dimensions after the first n + 1, counted from the second one
later_half : (u v n : ℕ) → u / 2 ≡ v → ((j : ℕ) → has u j ≡ true → suc n < j) → (j : ℕ) → has v j ≡ true → n < j
later_half u v n e f zero h = absurd (false≢true h)
later_half u v n e f (suc j) h = omega (arith, f (suc (suc j)) (subst (λ (w : ℕ). has w (suc j) ≡ true) (sym e) h))

-- If every added dimension comes after the one named, the result is the same,
pub compared_same : (d s t : ℕ) (x y : List ℕ) → length x ≤ d → s < 2 ^ d → holds d t s ≡ true → agree s x y ≡ false
    → ((j : ℕ) → has (added t s) j ≡ true → named (compared s x y) < j) → compared t x y ≡ compared s x y
unfolding compared
compared_same d s t [] [] l b h e f = absurd (false≢true (sym e))
compared_same d s t [] (c ∷ y) l b h e f = refl
compared_same d s t (a ∷ x) [] l b h e f = refl
compared_same zero s t (a ∷ x) (c ∷ y) l b h e f = absurd (omega arith)
compared_same (suc d) s t (a ∷ x) (c ∷ y) l b h e f =
    let g = added_half d s t b h in
    let r = holds-suc d t s h in
    let p = compared (s / 2) x y in
    cases (truth (alike (s % 2) a c))
    (λ q. let k : agree (s / 2) x y ≡ false = rw q at e in
    let n = ap named (parts-alike (s % 2) a c (next p) q) ∙ named-next p (compared-agree (s / 2) x y ∙ k) in
    let z : (j : ℕ) → has (added t s) j ≡ true → suc (named p) < j = λ j i. omega (arith, n, f j i) in
    let o : added t s % 2 ≢ 1 = λ i. omega (arith, z 1 (eq-eqb (added t s % 2) 1 i)) in
    let m : t % 2 ≡ s % 2 = omega (arith, g.1, r.0, o) in
    rw (m, compared_same d (s / 2) (t / 2) x y (omega arith) (omega arith) r.1 k (later_half (added t s) (added (t / 2) (s / 2)) (named p) g.0 z)))
    (λ q. let m : t % 2 ≡ s % 2 = omega (arith, r.0, alike-has (s % 2) a c q) in
    rw m (parts_same (s % 2) a c (next (compared (t / 2) x y)) (next p) q))

-- and for rows that agree on the shorter set it is that of the added dimensions alone.
pub agree-added : (d s t : ℕ) (x y : List ℕ) → length x ≤ d → s < 2 ^ d → holds d t s ≡ true → agree s x y ≡ true → compared t x y ≡ compared (added t s) x y
unfolding compared
agree-added d s t [] [] l b h e = refl
agree-added d s t [] (c ∷ y) l b h e = refl
agree-added d s t (a ∷ x) [] l b h e = refl
agree-added zero s t (a ∷ x) (c ∷ y) l b h e = absurd (omega arith)
agree-added (suc d) s t (a ∷ x) (c ∷ y) l b h e =
    let g = added_half d s t b h in
    let p = holds-suc d t s h in
    let r = both (alike (s % 2) a c) (agree (s / 2) x y) e in
    rw (g.0, g.1, agree-added d (s / 2) (t / 2) x y (omega arith) (omega arith) p.1 r.1) (go (s % 2) (t % 2) (next (compared (added (t / 2) (s / 2)) x y)) p.0 (omega arith) r.0)
  where
    go : (m n : ℕ) (q : Order) → m ≤ n → n < 2 → alike m a c ≡ true → parts n a c q ≡ parts (n - m) a c q
    go zero n q h k e = rw sub-zero
    go (suc m) zero q h k e = absurd (omega arith)
    go (suc m) (suc n) q h k e = let z : suc n - suc m ≡ 0 = omega arith in rw z (parts-alike (suc n) a c q e)

-- Rows that differ on the shorter set, where each added dimension comes after all of it, are compared as under it.
pub compared-later : {d s t : ℕ} (x y : List ℕ) → length x ≡ d → length y ≡ d → Longer d s t → agree s x y ≡ false → compared t x y ≡ compared s x y
compared-later {d} {s} {t} x y l m g e =
    compared_same d s t x y (omega arith) g.below g.held e (λ j. g.later (named (compared s x y)) j (compared-first s x y (l ∙ sym m) e).member)
