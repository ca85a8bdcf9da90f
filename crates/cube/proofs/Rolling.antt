-- Totals by any road: the cells of a node that lie in a cell of a coarser one add up to that cell's total.
use mathlib.Core.Path.{◌≡◌, refl, sym, ◌∙◌, ap, ap₂}
use mathlib.Core.Bool.{Bool, true, ◌&&◌, false≢true}
use mathlib.Core.List.Memᴰ
use mathlib.Core.List.{List, [], ◌∷◌, map, foldl}
use Prim.Native.Nat.{ℕ, zero, suc, ◌/◌, ◌%◌, ◌≤◌}
use native.Mathlib.Omega.{arith}
use lib.Dec.{eqb}
use Rattle.lists.specs.Lists.{◌∈◌, keep}
use Rattle.lists.specs.Order.{earlier, same}
use Rattle.lists.proofs.Tests.{cases, truth, refuted}
use Rattle.lists.proofs.Members.{keep-map, keep_same, map_same}
use Rattle.lists.proofs.Order.{by_codes, same-eq, same_refl}
use Rattle.lists.proofs.Sorted.{rising-distinct}
use Rattle.lattice.specs.Sets.{sets, holds}
use Rattle.lattice.proofs.Sets.{holds-suc}
use Rattle.cube.specs.Measure.{Measure, Adds, Row, total_of, total_at, codes_of}
use Rattle.cube.specs.Lattice.{Lattice, Laws}
use Rattle.cube.specs.Codes.{Coded, shown, cell, alike, agree, falls, plain}
use Rattle.cube.specs.Cube.{cuboid, existing, total, filled, grouped, cells, road}
use Rattle.cube.specs.Table.{Table}
use Rattle.cube.proofs.Codes.{falls_cell, plain_laws}
use Rattle.cube.proofs.Cells.{cuboid_in, cuboid-of, cuboid-rising, falls_node}
use Rattle.cube.proofs.Existing.{blank-row, existing_in, existing-none, cells-rows}
use Rattle.cube.proofs.Regroup.{fill, regroup}
use Rattle.cube.proofs.Folding.{coded}
use Rattle.cube.proofs.Complete.{cells_in}

-- ---- any lattice, any measure

module _ (L : Lattice) (W : Laws L) {A : Type 0} (M : Measure A) (E : Adds M) where
  -- a row moved to its cell of a node keeps its total
  abbrev moved : ℕ → Row A → Row A
  moved t r = record { codes = L.cell t r.codes; total = r.total }

  moved-from : (t : ℕ) (a : A) (rows : List (Row A)) → foldl (λ u r. M.more u r.total) a (map (moved t) rows) ≡ foldl (λ u r. M.more u r.total) a rows
  moved-from t a [] = refl
  moved-from t a (r ∷ rows) = moved-from t (M.more a r.total) rows

  -- so the moved rows that pass a test total what the rows do whose cells pass
  moved-total : (t : ℕ) (p : List ℕ → Bool) (rows : List (Row A)) → total_of M (keep (λ r. p r.codes) (map (moved t) rows)) ≡ total_of M (keep (λ r. p (L.cell t r.codes)) rows)
  moved-total t p rows = ap (total_of M) (keep-map (λ r. p r.codes) (moved t) rows) ∙ moved-from t M.none (keep (λ r. p (L.cell t r.codes)) rows)

  -- a row falls in a cell of a node just if it is the row's
  same-falls : {t : ℕ} (x y : List ℕ) → t ∈ L.nodes → L.valid x → L.valid y → same (L.cell t x) (L.cell t y) ≡ L.falls (L.cell t x) y
  same-falls {t} x y h k l = cases (truth (L.falls (L.cell t x) y))
      (λ e. let q : L.cell t x ≡ L.cell t y = falls_node L W l (W.node_cell t x k h) e in rw (q, same_refl (L.cell t y)) (sym e ∙ rw q))
      (λ e. rw e (refuted (λ f. let q = same-eq (L.cell t x) (L.cell t y) f in
      false≢true (sym e ∙ ap (λ (c : List ℕ). L.falls c y) q ∙ W.falls_cell t y y l h ∙ W.agree_refl t y))))

  module _ (rows : List (Row A)) (v : (x : List ℕ) → x ∈ codes_of rows → L.valid x) {t : ℕ} (h : t ∈ L.nodes) where
    -- the total of a cell is that of the rows moved to it
    filled-moved : (c : List ℕ) → c ∈ cuboid L (codes_of rows) t → filled L M rows c ≡ fill (total_at M (map (moved t) rows)) c
    unfolding total
    filled-moved c m =
        let x = cuboid_in L (codes_of rows) t m in
        let q : total_of M (keep (λ r. L.falls c r.codes) rows) ≡ total_of M (keep (λ r. same c (L.cell t r.codes)) rows) =
        ap (total_of M) (keep_same (λ r. L.falls c r.codes) (λ r. same c (L.cell t r.codes)) rows (λ r i.
        rw x.2 (sym (same-falls x.0 r.codes h (v x.0 x.1) (v r.codes (Memᴰ.map (λ q. q.codes) i)))))) in
        ap (λ (a : A). record { codes = c; total = a }) (q ∙ sym (moved-total t (same c) rows))

    -- the groups whose cells pass a test total what the rows do that fall in c, where the test tells whether they do
    grouped_up : (p : List ℕ → Bool) (c : List ℕ) → ((x : List ℕ) → x ∈ codes_of rows → p (L.cell t x) ≡ L.falls c x)
        → total_of M (keep (λ r. p r.codes) (grouped L M rows t)) ≡ total L M rows c
    unfolding grouped total
    grouped_up p c f =
        let ks = cuboid L (codes_of rows) t in
        ap (λ (l : List (Row A)). total_of M (keep (λ r. p r.codes) l)) (map_same (filled L M rows) (fill (total_at M (map (moved t) rows))) ks filled-moved)
        ∙ regroup M E p (map (moved t) rows) ks (rising-distinct earlier by_codes ks (cuboid-rising L (codes_of rows) t))
        (λ r m. let q = Memᴰ.of_map (moved t) rows m in rw (← q.2) (cuboid-of L t (Memᴰ.map (λ q. q.codes) q.1)))
        ∙ moved-total t p rows
        ∙ ap (total_of M) (keep_same (λ r. p (L.cell t r.codes)) (λ r. L.falls c r.codes) rows (λ r i. f r.codes (Memᴰ.map (λ q. q.codes) i)))

  -- no rows add up to nothing, listed or not
  cells_up_none : (p : List ℕ → Bool) (t : ℕ) (c : List ℕ) → total_of M (keep (λ r. p r.codes) (cells L M [] t)) ≡ total L M [] c
  unfolding cells total
  cells_up_none p t c = rw (existing-none L t) (cases (truth (eqb (L.node_of L.whole) t))
      (λ e. rw e (cases (truth (p L.whole)) (λ f. rw f (E.none_more M.none)) (λ f. rw f)))
      (λ e. rw e))

  pub cells_up : (rows : List (Row A)) → ((x : List ℕ) → x ∈ codes_of rows → L.valid x) → {t : ℕ} → t ∈ L.nodes → (p : List ℕ → Bool) (c : List ℕ)
      → ((x : List ℕ) → x ∈ codes_of rows → p (L.cell t x) ≡ L.falls c x) → total_of M (keep (λ r. p r.codes) (cells L M rows t)) ≡ total L M rows c
  cells_up [] v {t} h p c f = cells_up_none p t c
  cells_up (r ∷ rows) v {t} h p c f = rw (cells-rows L M (r ∷ rows) t (omega arith)) (grouped_up (r ∷ rows) v h p c f)

-- ---- sets of dimensions: a cell of a set lies in one of a smaller set where it has its codes

-- on a set, a row's cell of a set that holds it is the row
alike-shown : (m n a b : ℕ) → m ≤ n → alike m a (shown n b) ≡ alike m a b
alike-shown zero n a b h = refl
alike-shown (suc m) zero a b h = absurd (omega arith)
alike-shown (suc m) (suc n) a b h = refl

agree-cells : (d s t : ℕ) (x y : List ℕ) → Coded d y → holds d t s ≡ true → agree s x (cell t y) ≡ agree s x y
agree-cells d s t [] [] k h = refl
agree-cells d s t [] (b ∷ y) k h = refl
agree-cells d s t (a ∷ x) [] k h = refl
agree-cells zero s t (a ∷ x) (b ∷ y) k h = absurd k
agree-cells (suc d) s t (a ∷ x) (b ∷ y) k h =
    let p = holds-suc d t s h in
    ap₂ ◌&&◌ (alike-shown (s % 2) (t % 2) a b p.0) (agree-cells d (s / 2) (t / 2) x y k.1 p.1)

module _ {A : Type 0} (M : Measure A) (E : Adds M) (d : ℕ) (rows : List (Row A)) (u : Table d rows) where
  -- a row falls in a cell of set s just if its cell of a larger set does
  falls_up : {s : ℕ} {c : List ℕ} (t : ℕ) → s ∈ sets d → holds d t s ≡ true → c ∈ existing (plain d) (codes_of rows) s → (y : List ℕ) → y ∈ codes_of rows → falls c (cell t y) ≡ falls c y
  falls_up {s} {c} t i h m y n =
      let k = coded d rows u y n in
      cases (existing_in (plain d) (plain_laws d) (codes_of rows) (coded d rows u) i m).0
      (λ r. let j = coded d rows u r.0 r.1 in
      let q : c ≡ cell s r.0 = falls_node (plain d) (plain_laws d) j (existing_in (plain d) (plain_laws d) (codes_of rows) (coded d rows u) i m).1 r.2 in
      rw (q, falls_cell d s r.0 (cell t y) j, falls_cell d s r.0 y j) (agree-cells d s t r.0 y k h))
      (λ b. absurd (blank-row (plain d) (codes_of rows) b n))

  -- For two sets, one inside the other, the listed cells of the larger that agree with a listed cell of the smaller add up to it.
  pub rolled_up : {s t : ℕ} → s ∈ sets d → t ∈ sets d → holds d t s ≡ true → (r : Row A) → r ∈ cells (plain d) M rows s
      → road (plain d) M rows t r.codes ≡ r.total
  unfolding total
  rolled_up {s} {t} i j h r m =
      let g = cells_in (plain d) M rows s m in
      cells_up (plain d) (plain_laws d) M E rows (coded d rows u) j (falls r.codes) r.codes (falls_up t i h g.0) ∙ sym g.1
