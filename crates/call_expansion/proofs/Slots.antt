-- The cells of a set from its slot.
use mathlib.Core.Path.{◌≡◌, refl, sym, ap, ◌∙◌}
use mathlib.Core.List.{List, [], ◌∷◌, flat_map, map}
use Prim.Native.Nat.{ℕ, zero, suc, ◌^◌, ◌≤◌, ◌<◌, ◌+◌, ◌*◌}
use native.Mathlib.Omega.{arith}
use lib.ListN.{length, get_or, length-map, replicate, length-replicate}
use borrow.Author.Tests.{le-leb}
use Rattle.lists.proofs.Members.{keep_all}
use Rattle.cube.specs.declared.Total.{Total}
use Rattle.cube.specs.Measure.{codes_of, Row, nothing, sums as measure}
use Rattle.cube.specs.Codes.{plain}
use Rattle.cube.specs.Cube.{filled, grouped, cells, existing, blank, cuboid as cuboid_of}
use Rattle.cube.proofs.Existing.{cells-rows, existing-few}
use Rattle.rows.specs.Rows.{cut, rows_of, row_total}
use Rattle.rows.proofs.Rows.{rows-codes}
use Rattle.rows.proofs.Flat.{rows-length}
use Rattle.rows_order.specs.Index.{key, arranged, Indexed}
use Rattle.rows_runs.specs.Runs.{runs}
use Rattle.rows_order.proofs.Arranged.{arranged-length}
use Rattle.rows_runs.proofs.Runs.{cell_of}
use Rattle.rows_runs.proofs.Indexed.{indexed_cells}
use Rattle.rows_slots.specs.Slots.{large, crowds, packed}
use Rattle.rows_slots.specs.Summed.{summed}
use Rattle.rows_slots.proofs.Entries.{crowds-below}
use Rattle.rows_slots.proofs.Totalled.{summed-cuboid}
use Rattle.rows_columns.specs.Columns.{part}
use Rattle.rows_crowds.specs.Crowds.{Holds, ends}
use Rattle.rows_crowds.proofs.Left.{ends-packed}
use Rattle.archive_entries.specs.Layout.{cell_bytes}
use Rattle.rows_ready.specs.Ready.{Ready}
use Rattle.archive_groups.specs.Groups.{group_bytes}
use Rattle.call_cuboids.specs.Cuboids.{cuboid_bytes}
use Rattle.call_expansion.specs.Slotted.{Slotted, cell_count}
use Rattle.call_cuboids.proofs.Lengths.{cuboid-length, no_rows, blank-here, blank_elsewhere}

module _ {d n : ℕ} {ws : List ℕ} (ready : Ready d n ws) (s : ℕ) {slot : List ℕ}
    (e : slot ≡ packed (crowds 1 (key s (cut d n ws)) n)) where
  abbrev table : List (Row Total)
  table = rows_of d n ws

  abbrev keys : ℕ → List ℕ
  keys = key s (cut d n ws)

  -- where there are rows
  module _ (some : n ≡ 0 → ⊥) where
    cells-grouped : cells (plain d) measure table s ≡ map (filled (plain d) measure table) (cuboid_of (plain d) (cut d n ws) s)
    unfolding grouped
    cells-grouped =
        cells-rows (plain d) measure table s (omega (arith, some, rows-length d n ws))
        ∙ ap (λ (xs : List (List ℕ)). map (filled (plain d) measure table) (cuboid_of (plain d) xs s)) (rows-codes d n ws)

    pub slot-bytes : group_bytes (row_total d n ws) keys slot ≡ flat_map cell_bytes (cells (plain d) measure table s)
    unfolding group_bytes
    slot-bytes = ap (flat_map cell_bytes) (ap (summed (row_total d n ws) keys nothing) e ∙ summed-cuboid d n s ws ready.size ready.few ready.table ∙ sym cells-grouped)

    index : Indexed n d s ws (arranged keys n)
    index = record { size = ready.size; places = arranged-length keys n; order = refl }

    slot-ends : ends slot ≡ length (cells (plain d) measure table s)
    unfolding crowds
    slot-ends =
        ap ends e
        ∙ ends-packed (crowds 1 keys n) (λ y m. omega (arith, crowds-below keys n 1 ready.few y m, ready.few))
        ∙ ap length (keep_all (large 1) (runs keys (arranged keys n)) (λ r m. le-leb 1 (suc (length r.more)) (omega arith)))
        ∙ sym (length-map (runs keys (arranged keys n)) (cell_of keys))
        ∙ ap length (indexed_cells index)
        ∙ sym (ap length cells-grouped ∙ length-map (cuboid_of (plain d) (cut d n ws) s) (filled (plain d) measure table))

  -- where there are none
  module _ (none : n ≡ 0) where
    pub blank-cells : cells (plain d) measure [] s ≡ cells (plain d) measure table s
    blank-cells = ap (λ (l : List (Row Total)). cells (plain d) measure l s) (sym (no_rows d n ws none))

-- how many cells there are
pub slot-count : (d n : ℕ) {ws : List ℕ} → Ready d n ws → (s : ℕ) {slot : List ℕ} → slot ≡ packed (crowds 1 (key s (cut d n ws)) n)
    → cell_count n s slot ≡ length (cells (plain d) measure (rows_of d n ws) s)
slot-count d zero r zero e = ap length (blank-here d (replicate d 0) (length-replicate d 0)) ∙ ap length (blank-cells r zero e refl)
slot-count d zero r (suc s) e = ap length (blank_elsewhere d (suc s) (λ z. omega (arith, z))) ∙ ap length (blank-cells r (suc s) e refl)
slot-count d (suc n) r s e = slot-ends r s e (λ z. omega (arith, z))

existing_small : (d : ℕ) (rows : List (Row Total)) (s : ℕ) → length rows ≤ 1024 → length (cells (plain d) measure rows s) ≤ 1024
unfolding cells
existing_small d rows s h =
    omega (arith, length-map (existing (plain d) (codes_of rows) s) (filled (plain d) measure rows), existing-few (plain d) (codes_of rows) s, small (codes_of rows) (omega (arith, h, length-map rows (λ r. r.codes))))
  where
    small : (xs : List (List ℕ)) → length xs ≤ 1024 → length (blank (plain d) xs) + length xs ≤ 1024
    small [] k = omega arith
    small (x ∷ xs) k = omega (arith, k)

-- ---- the slot of a set

module _ {d n : ℕ} {ws store used : List ℕ} (rows : Slotted d n ws store used) {s : ℕ} (h : s < 2 ^ d) where
  held : Holds 1 d n ws store used s
  held = rows.slots.all s h

  module _ {slot : List ℕ} (e : slot ≡ part s (get_or used s 0) store) where
    pub slot_is : slot ≡ packed (crowds 1 (key s (cut d n ws)) n)
    slot_is = e ∙ held.slot

    pub cells-few : cell_count n s slot ≤ 1024
    cells-few = omega (arith, slot-count d n rows.ready s slot_is, existing_small d (rows_of d n ws) s (omega (arith, rows-length d n ws, rows.ready.few)))

    -- how long the cuboid is
    pub slot_long : length (cuboid_bytes d (rows_of d n ws) s) ≡ 4 + cell_count n s slot * (4 * d + 12)
    slot_long = cuboid-length d (rows_of d n ws) s rows.ready.table ∙ ap (λ (k : ℕ). 4 + k * (4 * d + 12)) (sym (slot-count d n rows.ready s slot_is))
