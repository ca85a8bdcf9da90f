-- Lists of rows one behind the other, folded: each list's base rows are among them, and neither what lists they come in nor the order of these matters.
use mathlib.Core.Path.{◌≡◌, sym, ap, subst, ◌∙◌}
use mathlib.Core.List.Memᴰ
use mathlib.Core.List.Permᴰ
use mathlib.Core.List.{List, [], ◌∷◌, ◌++◌, flat_map, append_assoc, Permᴰ}
use Prim.Native.Nat.{ℕ, ◌+◌, ◌≤◌}
use native.Mathlib.Omega.{arith}
use lib.ListN.{length}
use Rattle.lists.specs.Lists.{◌∈◌}
use Rattle.lists.proofs.Tests.{cases}
use Rattle.cube.specs.declared.Total.{Total}
use Rattle.cube.specs.Measure.{Measure, Adds, Row, sums}
use Rattle.cube.specs.Bounds.{count_of}
use Rattle.cube.specs.Table.{Table, folded}
use Rattle.cube.proofs.Sums.{sums-add}
use Rattle.cube.proofs.Folding.{folded-none, folded-rising}
use Rattle.cube.proofs.Folded.{folded-same}
use Rattle.cube.proofs.Reordering.{folded_reordered}
use Rattle.rows_merge.specs.United.{as_one, merged}
use Rattle.rows_merge.proofs.Merging.{merging_start, merging_longer, merged-each, united-merged, count-merged}
use Rattle.rows_merge.proofs.United.{folded-table, united-folded}

module _ {A : Type 0} (M : Measure A) (E : Adds M) (d : ℕ) where
  module _ (a b : List (Row A)) (t : Table d a) (u : Table d b) where
    -- both lists, folded, are the base rows of both in one pass;
    pub folded-append : folded M d (a ++ b) ≡ merged M (folded M d a) (folded M d b)
    folded-append = sym (united-folded M d E a b t u)
        ∙ united-merged M E d (folded M d a) (folded M d b) (folded-table M d a t) (folded-table M d b u) (folded-rising M d a t) (folded-rising M d b u)

    -- so they are no fewer than those of either.
    pub folded-front : length (folded M d a) ≤ length (folded M d (a ++ b))
    folded-front = omega (arith, ap length folded-append, (merging_longer M (folded M d a) (folded M d b) [] (folded M d a) (folded M d b) (merging_start M (folded M d a) (folded M d b))).0)

    pub folded_behind : length (folded M d b) ≤ length (folded M d (a ++ b))
    folded_behind = omega (arith, ap length folded-append, (merging_longer M (folded M d a) (folded M d b) [] (folded M d a) (folded M d b) (merging_start M (folded M d a) (folded M d b))).1)

  -- What rows have in common, and two rows as one keep, their base rows have.
  pub folded-each : (P : Row A → Type 0) → ((r q : Row A) → r.codes ≡ q.codes → P r → P q → P (as_one M r q)) → (rows : List (Row A)) → Table d rows
      → ((r : Row A) → r ∈ rows → P r) → (r : Row A) → r ∈ folded M d rows → P r
  folded-each P k [] t f r m = absurd (Memᴰ.not-nil (rw (folded-none M d) at m))
  folded-each P k (q ∷ rows) t f r m =
      let first : Table d (q ∷ []) = λ p i. t p (cases (Memᴰ.cases_cons i) Memᴰ.head (λ j. absurd (Memᴰ.not-nil j))) in
      let rest : Table d rows = λ p i. t p (Memᴰ.tail i) in
      let alone : folded M d (q ∷ []) ≡ q ∷ [] = folded-same M E d (q ∷ []) first (λ y i. absurd (Memᴰ.not-nil i), tt) in
      let e : folded M d (q ∷ rows) ≡ merged M (q ∷ []) (folded M d rows) = folded-append (q ∷ []) rows first rest ∙ ap (λ (l : List (Row A)). merged M l (folded M d rows)) alone in
      merged-each M P k (q ∷ []) (folded M d rows)
      (λ p i. f p (cases (Memᴰ.cases_cons i) Memᴰ.head (λ j. absurd (Memᴰ.not-nil j))))
      (folded-each P k rows rest (λ p i. f p (Memᴰ.tail i))) r (rw e at m)

-- The readings of both lists are added.
pub folded-count : (d : ℕ) (a b : List (Row Total)) → Table d a → Table d b → count_of (folded sums d (a ++ b)) ≡ count_of (folded sums d a) + count_of (folded sums d b)
folded-count d a b t u = ap count_of (folded-append sums sums-add d a b t u) ∙ count-merged (folded sums d a) (folded sums d b)

-- lists in another order, one behind the other
perm_flat : {A B : Type 0} (f : A → List B) {l m : List A} → Permᴰ l m → Permᴰ (flat_map f l) (flat_map f m)
unfolding flat_map
perm_flat f Permᴰ.nil = Permᴰ.nil
perm_flat f (Permᴰ.cons {a = a} {l₁ = l} {l₂ = m} e p) = subst (λ z. Permᴰ (f a ++ flat_map f l) (f z ++ flat_map f m)) e (Permᴰ.append_left (f a) (perm_flat f p))
perm_flat f (Permᴰ.swap {a = a} {b = b} {a' = a'} {l = l} e g) =
    subst (λ z. Permᴰ (f a ++ (f b ++ flat_map f l)) (f a' ++ (f z ++ flat_map f l))) e
    (subst (λ z. Permᴰ (f a ++ (f b ++ flat_map f l)) (f z ++ (f a ++ flat_map f l))) g
    (rw (← append_assoc (f a) (f b) (flat_map f l), ← append_assoc (f b) (f a) (flat_map f l)) (Permᴰ.append_right (flat_map f l) (Permᴰ.append_comm (f a) (f b)))))
perm_flat f (Permᴰ.trans p q) = Permᴰ.trans (perm_flat f p) (perm_flat f q)

-- Lists in another order have the same base rows.
pub folded-parts : {A B : Type 0} (M : Measure A) → Adds M → (d : ℕ) (f : B → List (Row A)) {l m : List B} → Permᴰ l m → folded M d (flat_map f l) ≡ folded M d (flat_map f m)
folded-parts M E d f p = folded_reordered (perm_flat f p) M E d
