-- The runs of the rows in order are the cells of the set: their keys are the cuboid, and the rows of a run are those that fall in its cell, in the order of the table.
use mathlib.Core.Path.{◌≡◌, sym, ap, ◌∙◌}
use mathlib.Core.List.Memᴰ
use mathlib.Core.List.{List, [], ◌∷◌, map, map-map}
use Prim.Native.Nat.{ℕ, ◌<◌}
use lib.ListN.{length, get_or}
use Rattle.lists.specs.Lists.{◌∈◌, keep}
use Rattle.lists.specs.Order.{earlier, sort}
use Rattle.lists.proofs.Members.{at_in, in_at, keep_same, keep-map}
use Rattle.cube.specs.Codes.{Coded, cell, falls, plain}
use Rattle.cube.specs.Cube.{cuboid}
use Rattle.cube.proofs.Codes.{falls_cell}
use Rattle.cube.proofs.Cells.{cuboid-same}
use Rattle.rows.specs.Rows.{row_at}
use Rattle.rows_order.specs.Index.{key, arranged}
use Rattle.rows_runs.specs.Runs.{Run, runs}
use Rattle.cube.proofs.Codes.{agree_same}
use Rattle.rows_order.proofs.Numbers.{numbers, numbers_in, numbers_all}
use Rattle.rows_order.proofs.Arranged.{alike, arranged_ordered, arranged_in, arranged_of, arranged-keep}
use Rattle.rows_runs.proofs.Runs.{cell_of, runs_in, runs-sort, runs-whole}

-- ---- the keys of the runs are the cuboid

module _ (d set : ℕ) (xs : List (List ℕ)) where
  abbrev keys : ℕ → List ℕ
  keys = key set xs

  abbrev ordered : List ℕ
  ordered = arranged keys (length xs)

  pub cells_are : map (cell_of keys) (runs keys ordered) ≡ cuboid (plain d) xs set
  unfolding cuboid key
  cells_are =
      runs-sort keys ordered (arranged_ordered keys (length xs))
      ∙ ap (sort earlier) (sym (map-map (cell set) (row_at xs) ordered))
      ∙ cuboid-same (plain d) (map (row_at xs) ordered) xs set
      (λ x m. let r = Memᴰ.of_map (row_at xs) ordered m in
      Memᴰ.cast (sym r.2) (at_in [] xs r.0 (arranged_in keys (length xs) r.1)))
      (λ x m. let r = in_at [] m in
      Memᴰ.cast (sym r.2) (Memᴰ.map (row_at xs) (arranged_of keys (length xs) r.1)))

-- ---- the rows of a run are those that fall in its cell; the rows are any list whose members have codes

module _ {A : Type 0} (code : A → List ℕ) (none : A) (rows : List A) (d set : ℕ) (v : (q : A) → q ∈ rows → Coded d (code q))
    (keys : ℕ → List ℕ) (k : (i : ℕ) → i < length rows → keys i ≡ cell set (code (get_or rows i none))) where
  abbrev pick : ℕ → A
  pick i = get_or rows i none

  falls-alike : (i j : ℕ) → i < length rows → j < length rows → alike keys (keys i) j ≡ falls (keys i) (code (pick j))
  falls-alike i j h g =
      rw (k i h, k j g) (sym (falls_cell d set (code (pick i)) (code (pick j)) (v (pick i) (at_in none rows i h)) ∙ agree_same set (code (pick i)) (code (pick j))))

  pub run-rows : {r : Run} → r ∈ runs keys (arranged keys (length rows)) → map pick (r.first ∷ r.more) ≡ keep (λ q. falls (cell_of keys r) (code q)) rows
  run-rows {r} m =
      let n = length rows in
      let c = cell_of keys r in
      ap (map pick) (runs-whole keys (arranged keys n) (arranged_ordered keys n) m ∙ arranged-keep keys c n
      ∙ keep_same (alike keys c) (λ i. falls c (code (pick i))) (numbers n)
      (λ i e. falls-alike r.first i (arranged_in keys n (runs_in keys (arranged keys n) m)) (numbers_in n e)))
      ∙ sym (keep-map (λ q. falls c (code q)) pick (numbers n))
      ∙ ap (keep (λ q. falls c (code q))) (numbers_all none rows)
