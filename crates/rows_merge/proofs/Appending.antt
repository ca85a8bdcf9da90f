-- Rows one behind the other: their totals are added; and base rows are known by their codes and totals.
use mathlib.Core.Path.{◌≡◌, refl, sym, ◌∙◌, ap, ap₂}
use mathlib.Core.Logic.{◌⊎◌, ◌↔◌}
use mathlib.Core.Bool.{Bool, true}
use mathlib.Core.List.Memᴰ
use mathlib.Core.List.{List, [], ◌∷◌, ◌++◌, map}
use Prim.Native.Nat.{ℕ}
use Rattle.lists.specs.Lists.{◌∈◌, keep}
use Rattle.lists.specs.Order.{Rising, earlier, same}
use Rattle.lists.proofs.Tests.{cases}
use Rattle.lists.proofs.Members.{keep_append, keep-none}
use Rattle.lists.proofs.Order.{by_codes}
use Rattle.lists.proofs.Sorted.{rising_unique}
use Rattle.cube.specs.Measure.{Measure, Adds, Row, total_of, total_at, codes_of}
use Rattle.cube.specs.Lattice.{Lattice}
use Rattle.cube.specs.Cube.{total}
use Rattle.cube.specs.Table.{Table, folded}
use Rattle.cube.proofs.Regroup.{fill, sum-cons}
use Rattle.cube.proofs.Folding.{folded-rising, folded_in, folded-total}

-- ---- rows one behind the other

module _ {A : Type 0} where
  codes-append : (a b : List (Row A)) → codes_of (a ++ b) ≡ codes_of a ++ codes_of b
  codes-append [] b = refl
  codes-append (r ∷ a) b = ap (λ (l : List (List ℕ)). r.codes ∷ l) (codes-append a b)

  -- a table of both
  pub table-append : (d : ℕ) (a b : List (Row A)) → Table d a → Table d b → Table d (a ++ b)
  table-append d a b t u r m = cases (Memᴰ.append_cases a m) (t r) (u r)

  -- codes of both
  pub codes_in : (a b : List (Row A)) {x : List ℕ} → x ∈ codes_of (a ++ b) → (x ∈ codes_of a) ⊎ (x ∈ codes_of b)
  codes_in a b m = Memᴰ.append_cases (codes_of a) (rw (codes-append a b) at m)

  pub codes-left : (a b : List (Row A)) {x : List ℕ} → x ∈ codes_of a → x ∈ codes_of (a ++ b)
  codes-left a b m = rw (codes-append a b) (Memᴰ.append_left (codes_of b) m)

  pub codes_right : (a b : List (Row A)) {x : List ℕ} → x ∈ codes_of b → x ∈ codes_of (a ++ b)
  codes_right a b m = rw (codes-append a b) (Memᴰ.append_right (codes_of a) m)

module _ {A : Type 0} (M : Measure A) (E : Adds M) where
  pub more-none : (a : A) → M.more a M.none ≡ a
  more-none a = E.more_comm a M.none ∙ E.none_more a

  pub sum-append : (a b : List (Row A)) → total_of M (a ++ b) ≡ M.more (total_of M a) (total_of M b)
  sum-append [] b = sym (E.none_more (total_of M b))
  sum-append (r ∷ a) b =
      sum-cons M E r (a ++ b) ∙ ap (M.more r.total) (sum-append a b) ∙ sym (E.more_assoc r.total (total_of M a) (total_of M b))
      ∙ ap (λ (t : A). M.more t (total_of M b)) (sym (sum-cons M E r a))

  -- the total of the rows that pass a test
  passed_append : (p : Row A → Bool) (a b : List (Row A)) → total_of M (keep p (a ++ b)) ≡ M.more (total_of M (keep p a)) (total_of M (keep p b))
  passed_append p a b = ap (total_of M) (keep_append p a b) ∙ sum-append (keep p a) (keep p b)

  pub total-append : (L : Lattice) (a b : List (Row A)) (c : List ℕ) → total L M (a ++ b) c ≡ M.more (total L M a c) (total L M b c)
  unfolding total
  total-append L a b c = passed_append (λ r. L.falls c r.codes) a b

  pub at-append : (a b : List (Row A)) (x : List ℕ) → total_at M (a ++ b) x ≡ M.more (total_at M a x) (total_at M b x)
  at-append a b x = passed_append (λ r. same x r.codes) a b

-- a cell in which no row falls counts as none
pub total_lacks : (L : Lattice) {A : Type 0} (M : Measure A) (rows : List (Row A)) (c : List ℕ) → ((x : List ℕ) → x ∈ codes_of rows → L.falls c x ≡ true → ⊥) → total L M rows c ≡ M.none
unfolding total
total_lacks L M rows c h = ap (total_of M) (keep-none (λ r. L.falls c r.codes) rows (λ r m. h r.codes (Memᴰ.map (λ q. q.codes) m)))

-- ---- base rows are known by their codes and their totals

module _ {A : Type 0} where
  pub rows_fill : (f : List ℕ → A) (rows : List (Row A)) → ((r : Row A) → r ∈ rows → r.total ≡ f r.codes) → rows ≡ map (fill f) (codes_of rows)
  rows_fill f [] h = refl
  rows_fill f (r ∷ rows) h = ap₂ ◌∷◌ (ap (λ (a : A). record { codes = r.codes; total = a }) (h r (Memᴰ.head refl))) (rows_fill f rows (λ q m. h q (Memᴰ.tail m)))

  module _ (M : Measure A) (d : ℕ) where
    -- the base rows of a table: its codes with their totals
    pub folded_fill : (rows : List (Row A)) → Table d rows → folded M d rows ≡ map (fill (total_at M rows)) (codes_of (folded M d rows))
    folded_fill rows t = rows_fill (total_at M rows) (folded M d rows) (folded-total M d rows t)

    -- rising rows with just the codes of a table, each with the total of the table's rows with its codes, are its base rows
    pub folded_unique : (rows base : List (Row A)) → Table d rows → Rising earlier (codes_of base) → ((x : List ℕ) → (x ∈ codes_of base) ↔ (x ∈ codes_of rows))
        → ((r : Row A) → r ∈ base → r.total ≡ total_at M rows r.codes) → base ≡ folded M d rows
    folded_unique rows base t o h e =
        let cs : codes_of base ≡ codes_of (folded M d rows) = rising_unique earlier by_codes (codes_of base) (codes_of (folded M d rows)) o (folded-rising M d rows t)
        (λ x m. (folded_in M d rows t x).1 ((h x).0 m)) (λ x m. (h x).1 ((folded_in M d rows t x).0 m)) in
        rows_fill (total_at M rows) base e ∙ ap (map (fill (total_at M rows))) cs ∙ sym (folded_fill rows t)

    -- tables with the same codes, and the same totals of rows with equal codes, have the same base rows
    pub folded-same : (rows others : List (Row A)) → Table d rows → Table d others → ((x : List ℕ) → x ∈ codes_of rows → x ∈ codes_of others)
        → ((x : List ℕ) → x ∈ codes_of others → x ∈ codes_of rows) → ((x : List ℕ) → total_at M rows x ≡ total_at M others x) → folded M d rows ≡ folded M d others
    folded-same rows others t u f g e = folded_unique others (folded M d rows) u (folded-rising M d rows t)
        (λ x. (λ m. f x ((folded_in M d rows t x).0 m), λ m. (folded_in M d rows t x).1 (g x m)))
        (λ r m. folded-total M d rows t r m ∙ e r.codes)
