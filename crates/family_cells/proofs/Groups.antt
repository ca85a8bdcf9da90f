-- Rows grouped by their cells of a node, over any lattice: the cells of the groups are the cuboid, those of the groups of two rows or more the shared cells.
use mathlib.Core.Path.{◌≡◌, sym, ap, subst, ◌∙◌}
use mathlib.Core.Bool.{Bool, true, not, false≢true}
use mathlib.Core.List.Memᴰ
use mathlib.Core.List.{List, [], map, map-map}
use Prim.Native.Nat.{ℕ, suc, ◌<◌}
use native.Mathlib.Omega.{arith}
use lib.Dec.{leb}
use lib.ListN.{length, length-map}
use borrow.Author.Tests.{le-leb}
use Rattle.lists.specs.Lists.{◌∈◌, keep}
use Rattle.lists.specs.Order.{earlier, same, sort}
use Rattle.lists.proofs.Tests.{cases, truth, refuted}
use Rattle.lists.proofs.Members.{at_in, in_at, keep_same, keep-map, keep_all, map_same}
use Rattle.lists.proofs.Order.{same-eq, same_refl}
use Rattle.cube.specs.Lattice.{Lattice, Laws}
use Rattle.cube.specs.Cube.{within, cuboid}
use Rattle.cube.specs.Condensed.{single, shared, Base}
use Rattle.cube.proofs.Cells.{cuboid-same}
use Rattle.cube.proofs.Normals.{shared-single}
use Rattle.rows.specs.Rows.{row_at}
use Rattle.rows_order.specs.Index.{arranged}
use Rattle.rows_order.proofs.Numbers.{numbers, numbers_in, numbers_all}
use Rattle.rows_order.proofs.Arranged.{alike, arranged_ordered, arranged_in, arranged_of, arranged-keep}
use Rattle.rows_runs.specs.Runs.{Run, runs}
use Rattle.rows_runs.proofs.Runs.{cell_of, runs_in, runs-sort, runs-whole}
use Rattle.rows_slots.specs.Slots.{large, crowds, shares}

module _ (L : Lattice) (W : Laws L) (xs : List (List ℕ)) (b : Base L xs) (m : ℕ) (node : m ∈ L.nodes) (keys : ℕ → List ℕ) (k : (i : ℕ) → i < length xs → keys i ≡ L.cell m (row_at xs i)) where
  abbrev n : ℕ
  n = length xs

  row : (i : ℕ) → i < n → row_at xs i ∈ xs
  row i h = at_in [] xs i h

  -- rows of one key fall in one cell
  falls-same : (x y : List ℕ) → x ∈ xs → y ∈ xs → L.falls (L.cell m x) y ≡ same (L.cell m x) (L.cell m y)
  falls-same x y i j = cases (truth (same (L.cell m x) (L.cell m y)))
      (λ t. let e = same-eq (L.cell m x) (L.cell m y) t in
      ap (λ (c : List ℕ). L.falls c y) e ∙ W.falls_cell m y y (b.valid y j) node ∙ W.agree_refl m y ∙ sym t)
      (λ t. refuted (λ u. let r = W.cell-of (L.cell m x) y (b.valid y j) u in
      let e : L.cell m x ≡ L.cell m y = r.1 ∙ ap (λ (s : ℕ). L.cell s y) (W.node_cell m x (b.valid x i) node) in
      false≢true (sym t ∙ subst (λ (c : List ℕ). same (L.cell m x) c ≡ true) e (same_refl (L.cell m x)))) ∙ sym t)

  falls-alike : (i j : ℕ) → i < n → j < n → alike keys (keys i) j ≡ L.falls (keys i) (row_at xs j)
  falls-alike i j h g = rw (k i h, k j g) (sym (falls-same (row_at xs i) (row_at xs j) (row i h) (row j g)))

  -- as many rows have a key as fall in its cell
  alike-length : (i : ℕ) → i < n → length (keep (alike keys (keys i)) (arranged keys n)) ≡ length (within L xs (keys i))
  alike-length i h =
      ap length (arranged-keep keys (keys i) n ∙ keep_same (alike keys (keys i)) (λ j. L.falls (keys i) (row_at xs j)) (numbers n) (λ j e. falls-alike i j h (numbers_in n e)))
      ∙ sym (length-map (keep (λ j. L.falls (keys i) (row_at xs j)) (numbers n)) (row_at xs))
      ∙ ap length (sym (keep-map (L.falls (keys i)) (row_at xs) (numbers n)) ∙ ap (keep (L.falls (keys i))) (numbers_all [] xs))

  -- a row shares its key unless it is single
  pub shares-single : (i : ℕ) → i < n → shares 2 keys n i ≡ not (single L xs m (row_at xs i))
  unfolding shares
  shares-single i h = ap (leb 2) (alike-length i h) ∙ ap (λ (c : List ℕ). leb 2 (length (within L xs c))) (k i h) ∙ shared-single L W xs b node (row i h)

  -- ---- the cells of the groups

  cells_are : map (cell_of keys) (runs keys (arranged keys n)) ≡ cuboid L xs m
  unfolding cuboid
  cells_are =
      let ordered = arranged keys n in
      runs-sort keys ordered (arranged_ordered keys n)
      ∙ ap (sort earlier) (map_same keys (λ i. L.cell m (row_at xs i)) ordered (λ i e. k i (arranged_in keys n e)) ∙ sym (map-map (L.cell m) (row_at xs) ordered))
      ∙ cuboid-same L (map (row_at xs) ordered) xs m
      (λ x e. let r = Memᴰ.of_map (row_at xs) ordered e in Memᴰ.cast (sym r.2) (row r.0 (arranged_in keys n r.1)))
      (λ x e. let r = in_at [] e in Memᴰ.cast (sym r.2) (Memᴰ.map (row_at xs) (arranged_of keys n r.1)))

  run_length : {r : Run} → r ∈ runs keys (arranged keys n) → suc (length r.more) ≡ length (within L xs (cell_of keys r))
  run_length {r} e =
      ap length (runs-whole keys (arranged keys n) (arranged_ordered keys n) e)
      ∙ alike-length r.first (arranged_in keys n (runs_in keys (arranged keys n) e))

  pub crowds-cuboid : map (cell_of keys) (crowds 1 keys n) ≡ cuboid L xs m
  unfolding crowds
  crowds-cuboid = ap (map (cell_of keys)) (keep_all (large 1) (runs keys (arranged keys n)) (λ r e. le-leb 1 (suc (length r.more)) (omega arith))) ∙ cells_are

  pub crowds-shared : map (cell_of keys) (crowds 2 keys n) ≡ shared L xs m
  unfolding crowds shared
  crowds-shared =
      let many : List ℕ → Bool = λ c. leb 2 (length (within L xs c)) in
      ap (map (cell_of keys)) (keep_same (large 2) (λ r. many (cell_of keys r)) (runs keys (arranged keys n)) (λ r e. ap (leb 2) (run_length e)))
      ∙ sym (keep-map many (cell_of keys) (runs keys (arranged keys n))) ∙ ap (keep many) cells_are
