-- The groups of a slot with their totals are the shared cells of the set, or all its cells.
use mathlib.Core.Path.{◌≡◌, refl, sym, ap, ◌∙◌}
use mathlib.Core.List.{List, map, map-map}
use Prim.Native.Nat.{ℕ, suc, ◌*◌, ◌≤◌}
use native.Mathlib.Omega.{arith}
use lib.ListN.{length}
use borrow.Author.Tests.{le-leb}
use Rattle.lists.specs.Lists.{keep}
use Rattle.lists.proofs.Members.{map_same, keep_in, keep_all}
use Rattle.cube.specs.declared.Total.{Total}
use Rattle.cube.specs.Measure.{Row, nothing, sums as measure}
use Rattle.cube.specs.Codes.{plain}
use Rattle.cube.specs.Cube.{filled, cuboid}
use Rattle.cube.specs.Condensed.{shared}
use Rattle.cube.specs.Table.{Table}
use Rattle.rows.specs.Rows.{width, cut, rows_of, row_total}
use Rattle.rows_order.specs.Index.{key, arranged, Indexed}
use Rattle.rows_runs.specs.Runs.{Run, members, runs}
use Rattle.rows_runs.specs.Totals.{run_total}
use Rattle.rows_order.proofs.Arranged.{arranged_ordered, arranged-length}
use Rattle.rows_runs.proofs.Runs.{cell_of}
use Rattle.rows_runs.proofs.Indexed.{indexed_cells, indexed_shared, indexed_total}
use Rattle.rows_order.proofs.Columns.{table-valid}
use Rattle.rows_slots.specs.Slots.{large, crowds, packed}
use Rattle.rows_slots.specs.Summed.{summed}
use Rattle.rows_slots.proofs.Rising.{split_runs}
use Rattle.rows_slots.proofs.Entries.{crowds-below}
use Rattle.rows_slots.proofs.Summing.{summed-runs}

module _ (dims n set : ℕ) (ws : List ℕ) (size : n * width dims ≡ length ws) (few : n ≤ 1024) (t : Table dims (rows_of dims n ws)) where
  abbrev keys : ℕ → List ℕ
  keys = key set (cut dims n ws)

  abbrev table : List (Row Total)
  table = rows_of dims n ws

  abbrev totals : ℕ → Total
  totals = row_total dims n ws

  abbrev group : List ℕ → Row Total
  group = filled (plain dims) measure table

  index : Indexed n dims set ws (arranged keys n)
  index = record { size = size; places = arranged-length keys n; order = refl }

  -- the cells of the large groups, with their totals
  summed-crowds : (least : ℕ) → summed totals keys nothing (packed (crowds least keys n)) ≡ map group (map (cell_of keys) (keep (large least) (runs keys (arranged keys n))))
  unfolding crowds
  summed-crowds least =
      let rs = keep (large least) (runs keys (arranged keys n)) in
      summed-runs totals keys rs (split_runs keys (large least) (arranged keys n) (arranged_ordered keys n)) (λ y m. omega (arith, crowds-below keys n least few y m))
      ∙ map_same (λ r. record { codes = cell_of keys r; total = run_total totals (members r) }) (λ r. group (cell_of keys r)) rs
      (λ r m. ap (λ (a : Total). record { codes = cell_of keys r; total = a }) (indexed_total index t (keep_in (large least) (runs keys (arranged keys n)) m).0))
      ∙ sym (map-map group (cell_of keys) rs)

  pub summed-shared : summed totals keys nothing (packed (crowds 2 keys n)) ≡ map group (shared (plain dims) (cut dims n ws) set)
  summed-shared = summed-crowds 2 ∙ ap (map group) (indexed_shared index (table-valid dims n ws t))

  pub summed-cuboid : summed totals keys nothing (packed (crowds 1 keys n)) ≡ map group (cuboid (plain dims) (cut dims n ws) set)
  summed-cuboid =
      summed-crowds 1
      ∙ ap (λ (rs : List Run). map group (map (cell_of keys) rs)) (keep_all (large 1) (runs keys (arranged keys n)) (λ r m. le-leb 1 (suc (length r.more)) (omega arith)))
      ∙ ap (map group) (indexed_cells index)
