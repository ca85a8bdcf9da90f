-- The cells of a set are ordered as those of the set without its last dimension, and then by that dimension.
use mathlib.Core.Path.{◌≡◌, refl, sym, ap, subst, ◌∙◌}
use mathlib.Core.Bool.{Bool, true, false, ◌&&◌, ◌||◌}
use mathlib.Core.List.{List, [], ◌∷◌}
use Prim.Native.Nat.{ℕ, zero, suc, ◌+◌, ◌/◌, ◌%◌, ◌^◌, ◌<◌}
use native.Mathlib.Nat.{not-suc-le-zero, le_of_suc-le-suc}
use native.Mathlib.Omega.{arith}
use lib.Dec.{eqb, ltb}
use lib.ListN.{length, get_or}
use Rattle.lists.specs.Order.{earlier, same}
use Rattle.lists.proofs.Tests.{cases, truth, refuted}
use Rattle.lists.proofs.Order.{by_codes, same_refl}
use Rattle.lists.proofs.Members.{at_in}
use Rattle.cube.specs.Codes.{shown, cell}
use Rattle.cube.proofs.Codes.{coded-length}
use Rattle.rows.specs.Rows.{cut, row_at}
use Rattle.rows.proofs.Rows.{cut-length}
use Rattle.rows_order.specs.Index.{key, column_of, Valid}
use Rattle.rows_order.proofs.Columns.{column-at}
use Rattle.rows_runs.proofs.Refined.{Refined}
use Rattle.rows_slots.specs.Slots.{code_in}

cell-none : (x y : List ℕ) → length x ≡ length y → cell 0 x ≡ cell 0 y
cell-none [] [] e = refl
cell-none [] (b ∷ y) e = absurd (omega (arith, e))
cell-none (a ∷ x) [] e = absurd (omega (arith, e))
cell-none (a ∷ x) (b ∷ y) e = ap (λ (l : List ℕ). 65535 ∷ l) (cell-none x y (omega (arith, e)))

pub not_self : (x y : List ℕ) → x ≡ y → earlier x y ≡ false
not_self x y e = refuted (λ t. by_codes.irrefl y (subst (λ (z : List ℕ). earlier z y ≡ true) e t))

-- what lists decide, and what they leave to the rest where they are the same
abbrev decided : List ℕ → List ℕ → Bool → Bool
decided x y rest = earlier x y || (same x y && rest)

decided_same : (x y : List ℕ) (b : Bool) → x ≡ y → decided x y b ≡ b
decided_same x y b e = rw (not_self x y e, ← e, same_refl x) refl

decided_cons : (a b : ℕ) (x y : List ℕ) (r : Bool) → decided (a ∷ x) (b ∷ y) r ≡ ltb a b || (eqb a b && decided x y r)
decided_cons a b x y r = cases (truth (ltb a b)) (λ t. rw t refl) (λ t. cases (truth (eqb a b)) (λ u. rw (t, u) refl) (λ u. rw (t, u) refl))

last-cell : (d s t : ℕ) (x y : List ℕ) → t < 2 ^ d → s ≡ t + 2 ^ d → d < length x → length x ≡ length y
    → earlier (cell s x) (cell s y) ≡ decided (cell t x) (cell t y) (earlier (get_or x d 0 ∷ []) (get_or y d 0 ∷ []))
last-cell d s t [] y l f h e = absurd (not-suc-le-zero h)
last-cell d s t (a ∷ x) [] l f h e = absurd (omega (arith, e))
last-cell zero s t (a ∷ x) (b ∷ y) l f h e =
    let none : t ≡ 0 = omega (arith, l) in
    let one : s ≡ 1 = omega (arith, f, none) in
    let c = cell-none x y (omega (arith, e)) in
    rw (none, one) (ap (λ (r : Bool). ltb a b || (eqb a b && r)) (not_self (cell 0 x) (cell 0 y) c)
    ∙ sym (decided_same (65535 ∷ cell 0 x) (65535 ∷ cell 0 y) (earlier (a ∷ []) (b ∷ [])) (ap (λ (l : List ℕ). 65535 ∷ l) c)))
last-cell (suc d) s t (a ∷ x) (b ∷ y) l f h e =
    let digit : s % 2 ≡ t % 2 = omega (arith, f) in
    let ih = last-cell d (s / 2) (t / 2) x y (omega (arith, l)) (omega (arith, f)) (le_of_suc-le-suc h) (omega (arith, e)) in
    let m = shown (t % 2) a in
    let n = shown (t % 2) b in
    rw digit (ap (λ (r : Bool). ltb m n || (eqb m n && r)) ih ∙ sym (decided_cons m n (cell (t / 2) x) (cell (t / 2) y) (earlier (get_or x d 0 ∷ []) (get_or y d 0 ∷ []))))

module _ (dims n : ℕ) (ws : List ℕ) (v : Valid dims (cut dims n ws)) where
  abbrev rows : List (List ℕ)
  rows = cut dims n ws

  size : (i : ℕ) → i < n → length (row_at rows i) ≡ dims
  size i k = coded-length dims (row_at rows i) (v (row_at rows i) (at_in [] rows i (rw cut-length k)))

  -- the empty set tells no rows apart
  pub key-none : (i j : ℕ) → i < n → j < n → key 0 rows i ≡ key 0 rows j
  unfolding key
  key-none i j p q = cell-none (row_at rows i) (row_at rows j) (size i p ∙ sym (size j q))

module _ (dims n d s t : ℕ) (ws : List ℕ) (v : Valid dims (cut dims n ws)) (h : d < dims) (l : t < 2 ^ d) (f : s ≡ t + 2 ^ d) where
  abbrev xs : List (List ℕ)
  xs = cut dims n ws

  long : (i : ℕ) → i < n → length (row_at xs i) ≡ dims
  long = size dims n ws v

  by_last : (i j : ℕ) → i < n → j < n → earlier (key s xs i) (key s xs j) ≡ decided (key t xs i) (key t xs j) (earlier (code_in (column_of d xs) i) (code_in (column_of d xs) j))
  unfolding key
  by_last i j p q =
      rw (column-at d xs i (rw cut-length p), column-at d xs j (rw cut-length q))
      (last-cell d s t (row_at xs i) (row_at xs j) l f (rw (long i p) h) (long i p ∙ sym (long j q)))

  pub last_refined : Refined n (key t xs) (code_in (column_of d xs)) (key s xs)
  last_refined = record {
    parted = λ i j p q e. by_last i j p q ∙ rw e refl;
    equal = λ i j p q e. by_last i j p q ∙ decided_same (key t xs i) (key t xs j) (earlier (code_in (column_of d xs) i) (code_in (column_of d xs) j)) e;
  }
