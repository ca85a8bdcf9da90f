-- Rows that rise strictly by codes are base rows as they are.
use mathlib.Core.Path.{◌≡◌, refl, sym, ◌∙◌, ap, ap₂, subst}
use mathlib.Core.Logic.{◌≢◌}
use mathlib.Core.Bool.{true}
use mathlib.Core.List.Memᴰ
use mathlib.Core.List.{List, [], ◌∷◌, map}
use Prim.Native.Nat.{ℕ}
use Rattle.lists.specs.Lists.{◌∈◌, keep}
use Rattle.lists.specs.Order.{Rising, earlier, same}
use Rattle.lists.proofs.Pairwise.{pairwise_imp, pairwise_of_map, keep_one}
use Rattle.lists.proofs.Order.{by_codes, same-eq, same_refl}
use Rattle.lists.proofs.Sorted.{rising_unique}
use Rattle.cube.specs.Measure.{Measure, Adds, Row, total_of, total_at, codes_of}
use Rattle.cube.specs.Table.{Table, folded}
use Rattle.cube.proofs.Regroup.{fill}
use Rattle.cube.proofs.Folding.{folded-rising, folded_in, folded-total}

rows_fill : {A : Type 0} (g : List ℕ → A) (rows : List (Row A)) → ((r : Row A) → r ∈ rows → r.total ≡ g r.codes) → rows ≡ map (fill g) (codes_of rows)
rows_fill g [] h = refl
rows_fill {A} g (r ∷ rows) h =
    ap₂ (λ (t : A) (l : List (Row A)). record { codes = r.codes; total = t } ∷ l) (h r (Memᴰ.head refl)) (rows_fill g rows (λ q m. h q (Memᴰ.tail m)))

module _ {A : Type 0} (M : Measure A) (E : Adds M) (d : ℕ) (rows : List (Row A)) (t : Table d rows) (o : Rising earlier (codes_of rows)) where
  -- a row is alone with its codes
  alone : (r : Row A) → r ∈ rows → r.total ≡ total_at M rows r.codes
  alone r m =
      let x = r.codes in
      let one : keep (λ q. same x q.codes) rows ≡ r ∷ [] = keep_one (λ q. same x q.codes) rows
      (pairwise_imp (λ p q. earlier p.codes q.codes ≡ true) (λ p q. same x p.codes ≡ true → same x q.codes ≢ true) rows
      (λ p q i j e f g. by_codes.irrefl x (subst (λ (y : List ℕ). earlier x y ≡ true) (sym (same-eq x q.codes g)) (subst (λ (y : List ℕ). earlier y q.codes ≡ true) (sym (same-eq x p.codes f)) e)))
      (pairwise_of_map (λ u v. earlier u v ≡ true) (λ q. q.codes) rows o))
      m (same_refl x) in
      sym (ap (total_of M) one ∙ E.none_more r.total)

  pub folded-same : folded M d rows ≡ rows
  folded-same =
      rows_fill (total_at M rows) (folded M d rows) (folded-total M d rows t)
      ∙ ap (map (fill (total_at M rows)))
      (rising_unique earlier by_codes (codes_of (folded M d rows)) (codes_of rows) (folded-rising M d rows t) o (λ x. (folded_in M d rows t x).0) (λ x. (folded_in M d rows t x).1))
      ∙ sym (rows_fill (total_at M rows) rows alone)
