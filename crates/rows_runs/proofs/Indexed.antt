-- What an index in order gives to those who read it.
use mathlib.Core.Path.{◌≡◌, refl, sym, ap, ◌∙◌}
use mathlib.Core.Bool.{Bool}
use mathlib.Core.List.{List, [], ◌∷◌, map, foldl}
use Prim.Native.Nat.{ℕ, suc, ◌≤◌, ◌<◌}
use native.Mathlib.Omega.{arith}
use lib.Dec.{leb}
use lib.ListN.{length, get_or, drop, drop_of_length-le, length-map, get_or-map}
use Rattle.lists.specs.Lists.{◌∈◌, keep}
use Rattle.lists.proofs.Members.{keep_same, keep-map}
use Rattle.cube.specs.declared.Total.{Total}
use Rattle.cube.specs.Measure.{Row, plus, nothing, sums as measure, total_of}
use Rattle.cube.specs.Codes.{Coded, cell, plain}
use Rattle.cube.specs.Cube.{within, total, cuboid}
use Rattle.cube.specs.Condensed.{shared}
use Rattle.cube.specs.Bounds.{Summable}
use Rattle.cube.specs.Table.{Table}
use Rattle.rows.specs.Rows.{cut, rows_of, row_total}
use Rattle.rows.proofs.Rows.{cut-length, rows-codes}
use Rattle.rows_order.specs.Index.{key, arranged, Indexed}
use Rattle.rows_runs.specs.Runs.{Run, runs}
use Rattle.rows_runs.specs.Totals.{amount_at, amounts_at, run_total, Summed}
use Rattle.rows_order.specs.Few.{Ordered}
use Rattle.rows_order.proofs.Arranged.{arranged_ordered, arranged_of, arranged-below}
use Rattle.rows_runs.proofs.Runs.{cell_of}
use Rattle.rows.proofs.Flat.{blank, rows-length}
use Rattle.rows_runs.proofs.Counts.{arranged-summable}
use Rattle.rows_runs.proofs.Groups.{cells_are, run-rows}

-- the total of rows at places, by the rows themselves
total_picked : (d n : ℕ) (ws l : List ℕ) (t : Total)
    → foldl (λ t r. plus t r.total) t (map (amount_at (row_total d n ws)) l) ≡ foldl (λ t r. plus t r.total) t (map (λ i. get_or (rows_of d n ws) i blank) l)
unfolding row_total
total_picked d n ws [] t = refl
total_picked d n ws (i ∷ l) t = total_picked d n ws l (plus t (row_total d n ws i))

-- two or more rows
abbrev pub crowded : Run → Bool
crowded r = leb 2 (suc (length r.more))

module _ {n dims set : ℕ} {ws index : List ℕ} (x : Indexed n dims set ws index) where
  abbrev keys : ℕ → List ℕ
  keys = key set (cut dims n ws)

  pub indexed_ordered : Ordered keys index
  indexed_ordered = rw x.order (arranged_ordered keys n)

  pub indexed_below : (i : ℕ) → i < n → get_or index i 0 < n
  indexed_below i h = rw x.order (arranged-below keys n i h)

  -- the index names each row
  pub indexed_of : {i : ℕ} → i < n → i ∈ index
  indexed_of h = rw x.order (arranged_of keys n h)

  -- no run is left
  pub runs_done : (i : ℕ) → n ≤ i → runs keys (drop i index) ≡ []
  unfolding runs
  runs_done i h = rw (drop_of_length-le index {i = i} (omega (arith, x.places)))

  -- the keys of the runs are the cells of the set
  pub indexed_cells : map (cell_of keys) (runs keys index) ≡ cuboid (plain dims) (cut dims n ws) set
  indexed_cells =
      ap (λ (l : List ℕ). map (cell_of keys) (runs keys l)) (x.order ∙ ap (arranged keys) (sym (cut-length dims n ws)))
      ∙ cells_are dims set (cut dims n ws)

  module _ {r : Run} (m : r ∈ runs keys index) where
    -- a run has as many rows as fall in its cell
    pub indexed_length : ((y : List ℕ) → y ∈ cut dims n ws → Coded dims y) → suc (length r.more) ≡ length (within (plain dims) (cut dims n ws) (cell_of keys r))
    unfolding key
    indexed_length v =
        let xs = cut dims n ws in
        sym (length-map (r.first ∷ r.more) (λ i. get_or xs i []))
        ∙ ap length (run-rows (λ y. y) [] xs dims set v keys (λ i h. refl) (rw (x.order ∙ ap (arranged keys) (sym (cut-length dims n ws))) at m))

  -- the keys of the runs of two or more rows are the shared cells
  pub indexed_shared : ((y : List ℕ) → y ∈ cut dims n ws → Coded dims y) → map (cell_of keys) (keep crowded (runs keys index)) ≡ shared (plain dims) (cut dims n ws) set
  unfolding shared
  indexed_shared v =
      let many : List ℕ → Bool = λ c. leb 2 (length (within (plain dims) (cut dims n ws) c)) in
      ap (map (cell_of keys)) (keep_same crowded (λ r. many (cell_of keys r)) (runs keys index) (λ r m. ap (leb 2) (indexed_length m v)))
      ∙ sym (keep-map many (cell_of keys) (runs keys index)) ∙ ap (keep many) indexed_cells

  abbrev table : List (Row Total)
  table = rows_of dims n ws

  abbrev totals : ℕ → Total
  totals = row_total dims n ws

  -- any part of the index names rows that can be totalled
  pub indexed_summed : Summable table → (from end : ℕ) → end ≤ n → Summed totals n index from end
  indexed_summed s from end h = record {
    within = omega (arith, h, x.places);
    below = λ j k. indexed_below j (omega (arith, k, h));
    room = rw x.order (arranged-summable dims n ws s keys from end);
  }

  key-codes : (i : ℕ) → keys i ≡ cell set (get_or table i blank).codes
  unfolding key
  key-codes i = ap (cell set) (ap (λ (l : List (List ℕ)). get_or l i []) (sym (rows-codes dims n ws)) ∙ get_or-map (λ q. q.codes) table i blank)

  -- the total of a run is its cell's
  pub indexed_total : Table dims table → {r : Run} → r ∈ runs keys index → run_total totals (r.first ∷ r.more) ≡ total (plain dims) measure table (cell_of keys r)
  unfolding run_total amounts_at total
  indexed_total t {r} m =
      total_picked dims n ws (r.first ∷ r.more) nothing
      ∙ ap (total_of measure) (run-rows (λ q. q.codes) blank table dims set t keys (λ i h. key-codes i) (rw (x.order ∙ ap (arranged keys) (sym (rows-length dims n ws))) at m))
