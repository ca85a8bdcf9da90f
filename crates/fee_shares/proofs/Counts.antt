-- How many numbers of a list pass a test.
use mathlib.Core.Path.{◌≡◌, refl}
use mathlib.Core.Logic.{◌≢◌}
use mathlib.Core.Bool.{Bool, true, false}
use mathlib.Core.List.{List, [], ◌∷◌}
use Prim.Native.Nat.{ℕ, ◌+◌, ◌≤◌}
use native.Mathlib.Omega.{arith}
use lib.Dec.{eqb, ltb, leb}
use lib.ListN.{length}
use borrow.Author.Tests.{ltb-true, ltb-false, eqb-true, eqb-false, le-leb, lt-leb, ne_eqb}
use Rattle.std.specs.List.{count_by}
use Rattle.std.proofs.lemmas.List.Recursion.{is_count_by}
use Rattle.lists.proofs.Tests.{cases, truth}
use Rattle.fee_shares.specs.Shares.{count, cent}

pub count-cons : (p : ℕ → Bool) (x : ℕ) (l : List ℕ) → count p (x ∷ l) ≡ cent (p x) + count p l
count-cons p x l = cases (truth (p x)) (λ e. rw e (omega arith)) (λ e. rw e (omega arith))

-- the library's count
pub count-is : (p : ℕ → Bool) (l : List ℕ) → count p l ≡ count_by p l
count-is p = is_count_by (count p) p refl (λ x l. cases (truth (p x)) (λ e. rw e (omega arith)) (λ e. rw e))

-- a weaker test passes at least as many
cent-le : (a b : Bool) → (a ≡ true → b ≡ true) → cent a ≤ cent b
cent-le true b h = rw (h refl) (omega arith)
cent-le false b h = omega arith

pub count-le : (p q : ℕ → Bool) (l : List ℕ) → ((x : ℕ) → p x ≡ true → q x ≡ true) → count p l ≤ count q l
count-le p q [] h = omega arith
count-le p q (x ∷ l) h = omega (arith, count-cons p x l, count-cons q x l, cent-le (p x) (q x) (h x), count-le p q l h)

-- at least v is above v, or v
cent_split : (v x : ℕ) → cent (leb v x) ≡ cent (ltb v x) + cent (eqb v x)
cent_split v x = cases (truth (ltb v x))
    (λ e. let h = ltb-true v x e in rw (e, le-leb v x (omega (arith, h)), ne_eqb v x (λ q. omega (arith, h, q))))
    (λ e. let h = ltb-false v x e in cases (truth (eqb v x))
    (λ f. let q = eqb-true v x f in rw (e, f, le-leb v x (omega (arith, q))))
    (λ f. let q : v ≢ x = eqb-false v x f in rw (e, f, lt-leb v x (omega (arith, h, q)))))

pub count_split : (v : ℕ) (l : List ℕ) → count (leb v) l ≡ count (ltb v) l + count (eqb v) l
count_split v [] = refl
count_split v (x ∷ l) = omega (arith, count-cons (leb v) x l, count-cons (ltb v) x l, count-cons (eqb v) x l, cent_split v x, count_split v l)

pub count-all : (l : List ℕ) → count (leb 0) l ≡ length l
count-all [] = refl
count-all (x ∷ l) = omega (arith, count-cons (leb 0) x l, count-all l, cent-le true (leb 0 x) (λ e. le-leb 0 x (omega arith)), cent-le (leb 0 x) true (λ e. refl))
