-- The groups that are left to write or to compare at place i of a slot, where the group there has a total so far.
use mathlib.Core.Path.{◌≡◌, ap}
use mathlib.Core.List.{List, [], ◌++◌, flat_map}
use Prim.Native.Nat.{ℕ, ◌+◌, ◌≤◌, ◌<◌}
use lib.ListN.{length, get_or, drop}
use Rattle.cube.specs.declared.Total.{Total}
use Rattle.cube.specs.Measure.{nothing}
use Rattle.archive_entries.specs.Layout.{cell_bytes}
use Rattle.rows_slots.specs.Slots.{row_in, end_in}
use Rattle.rows_slots.specs.Summed.{plus_row, summed}
use Rattle.rows_slots.proofs.Summing.{summed_on, summed_end, summed-none}

module _ (totals : ℕ → Total) (keys : ℕ → List ℕ) (slot : List ℕ) where
  unfoldable pub left : Total → ℕ → List ℕ
  left total i = flat_map cell_bytes (summed totals keys total (drop i slot))

  module _ (total : Total) (i : ℕ) where
    abbrev row : ℕ
    row = row_in (get_or slot i 0)

    -- the group goes on
    pub left_on : i < length slot → end_in (get_or slot i 0) ≡ 0 → left total i ≡ left (plus_row totals total row) (i + 1)
    unfolding left
    left_on h z = ap (flat_map cell_bytes) (summed_on totals keys slot total i h z)

    -- the group ends
    pub left_end : i < length slot → (end_in (get_or slot i 0) ≡ 0 → ⊥) → left total i ≡ cell_bytes (record { codes = keys row; total = plus_row totals total row }) ++ left nothing (i + 1)
    unfolding left flat_map
    left_end h n = ap (flat_map cell_bytes) (summed_end totals keys slot total i h n)

    pub left-none : length slot ≤ i → left total i ≡ []
    unfolding left flat_map
    left-none h = ap (flat_map cell_bytes) (summed-none totals keys slot total i h)
