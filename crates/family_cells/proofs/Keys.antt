-- The codes of rows at the levels of a node, from columns that have those of each level.
use mathlib.Core.Path.{◌≡◌, refl, sym, ap, ap₂, subst, ◌∙◌}
use mathlib.Core.Bool.{Bool, true, cond}
use mathlib.Core.List.{List, [], ◌∷◌}
use Prim.Native.Nat.{ℕ, suc, ◌+◌, ◌*◌, ◌/◌, ◌%◌, ◌<◌}
use native.Mathlib.Nat.{mod-lt}
use native.Mathlib.Omega.{arith}
use lib.Dec.{ltb}
use lib.ListN.{length, get_or}
use borrow.Author.Tests.{ltb-true, ltb-false}
use Rattle.lists.specs.Lists.{◌∈◌}
use Rattle.lists.specs.Order.{same}
use Rattle.lists.proofs.Tests.{cases, truth}
use Rattle.lists.proofs.Members.{at_in}
use Rattle.lists.proofs.Order.{same-eq, same_refl}
use Rattle.lists.proofs.Places.{map_at}
use Rattle.cube.specs.Codes.{ALL, Coded}
use Rattle.cube.proofs.Codes.{coded-length}
use Rattle.rows.specs.Rows.{row_at}
use Rattle.rows_order.specs.Index.{code_at}
use Rattle.rows_columns.specs.Columns.{part}
use Rattle.family_nodes.specs.Nodes.{levels_of}
use Rattle.family_nodes.specs.Families.{Levels, height, heights, lift, lifted, coarse}
use Rattle.family_nodes.proofs.Laws.{families-laws}
use Rattle.family_slots.specs.Slots.{level_code, codes_at, node_key}
use Rattle.family_condense.specs.Ends.{Coarsens}
use Rattle.family_cells.specs.Levelled.{level_codes, Levelled}

lift-top : (t : Levels) (a : ℕ) → lift t (suc (length t)) a ≡ ALL
lift-top [] a = refl
lift-top (v ∷ t) a = lift-top t (get_or v.table a ALL)

module _ {ts : List Levels} {xs : List (List ℕ)} {columns : List ℕ} (w : Levelled ts xs columns) (v : (x : List ℕ) → x ∈ xs → Coded (length ts) x) where
  abbrev n : ℕ
  n = length xs

  module _ (k : ℕ) (h : k < n) where
    -- one dimension
    level-is : (i l : ℕ) → i < length ts → l < height (get_or ts i []) → level_code columns n (i * 4) (height (get_or ts i [])) l k ≡ lift (get_or ts i []) l (code_at i (row_at xs k))
    unfolding level_codes
    level-is i l g f = cases (truth (ltb (suc l) (height (get_or ts i []))))
        (λ t. ap (λ (b : Bool). cond b (get_or (part (i * 4 + l) n columns) k 0) ALL) t
        ∙ ap (λ (c : List ℕ). get_or c k 0) (w.column i l g (omega (arith, ltb-true (suc l) (height (get_or ts i [])) t)))
        ∙ map_at (λ x. lift (get_or ts i []) l (code_at i x)) [] 0 xs k h)
        (λ t. let top : l ≡ suc (length (get_or ts i [])) = omega (arith, ltb-false (suc l) (height (get_or ts i [])) t, f) in
        ap (λ (b : Bool). cond b (get_or (part (i * 4 + l) n columns) k 0) ALL) t
        ∙ sym (ap (λ (j : ℕ). lift (get_or ts i []) j (code_at i (row_at xs k))) top ∙ lift-top (get_or ts i []) (code_at i (row_at xs k))))

    -- the dimensions us from dimension i on, with the codes y there
    codes-lifted : (us : List Levels) (y : List ℕ) (i : ℕ) → i + length us ≡ length ts → length y ≡ length us → ((j : ℕ) → get_or us j [] ≡ get_or ts (i + j) []) → ((j : ℕ) → j < length us → get_or y j 0 ≡ code_at (i + j) (row_at xs k))
        → (q : ℕ) → codes_at columns n (i * 4) (heights us) q k ≡ lifted us (levels_of (heights us) q) y
    codes-lifted [] y i e f g r q = refl
    codes-lifted (t ∷ us) [] i e f g r q = absurd (omega (arith, f))
    codes-lifted (t ∷ us) (a ∷ y) i e f g r q =
        let z : i + 0 ≡ i = omega arith in
        let is-t : t ≡ get_or ts i [] = g 0 ∙ ap (λ (j : ℕ). get_or ts j []) z in
        let is-a : a ≡ code_at i (row_at xs k) = r 0 (omega arith) ∙ ap (λ (j : ℕ). code_at j (row_at xs k)) z in
        let l = q % height t in
        let c : i * 4 + 4 ≡ suc i * 4 = omega arith in
        let s : (j : ℕ) → i + suc j ≡ suc i + j = λ j. omega arith in
        ap₂ ◌∷◌
        (ap (λ (u : Levels). level_code columns n (i * 4) (height u) l k) is-t ∙ level-is i l (omega (arith, e)) (subst (λ (u : Levels). l < height u) is-t (mod-lt q (omega arith)))
        ∙ sym (ap₂ (λ (u : Levels) (b : ℕ). lift u l b) is-t is-a))
        (ap (λ (d : ℕ). codes_at columns n d (heights us) (q / height t) k) c
        ∙ codes-lifted us y (suc i) (omega (arith, e)) (omega (arith, f)) (λ j. g (suc j) ∙ ap (λ (p : ℕ). get_or ts p []) (s j)) (λ j d. r (suc j) (omega (arith, d)) ∙ ap (λ (p : ℕ). code_at p (row_at xs k)) (s j)) (q / height t))

    pub key-coarse : (m : ℕ) → node_key columns n (heights ts) m k ≡ coarse ts m (row_at xs k)
    unfolding node_key
    key-coarse m =
        let z : (j : ℕ) → 0 + j ≡ j = λ j. omega arith in
        codes-lifted ts (row_at xs k) 0 (omega arith) (coded-length (length ts) (row_at xs k) (v (row_at xs k) (at_in [] xs k h)))
        (λ j. ap (λ (p : ℕ). get_or ts p []) (sym (z j))) (λ j d. ap (λ (p : ℕ). code_at p (row_at xs k)) (sym (z j))) m

  -- rows that are alike at a node are so at each coarser one
  pub key-coarsens : Coarsens columns n (heights ts)
  key-coarsens = record {
    coarser = λ m q i j f x y h g e.
        let same-m : same (coarse ts m (row_at xs x)) (coarse ts m (row_at xs y)) ≡ true = subst (λ (c : List ℕ). same (coarse ts m (row_at xs x)) c ≡ true) (sym (key-coarse x h m) ∙ e ∙ key-coarse y g m) (same_refl (coarse ts m (row_at xs x))) in
        key-coarse x h q ∙ same-eq (coarse ts q (row_at xs x)) (coarse ts q (row_at xs y)) ((families-laws ts).agree_down m q (row_at xs x) (row_at xs y) (v (row_at xs x) (at_in [] xs x h)) f same-m) ∙ sym (key-coarse y g q);
  }
