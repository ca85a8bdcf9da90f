-- The groups of a slot as cells in bytes.
--
--   Groupable d n .. slot   the slot names rows among n rows of d codes, whose totals cannot overflow
--   group_bytes .. slot      the cells of the groups, each with its total
use Rattle.std.specs.Prelude.{◌≡◌, ℕ, ◌*◌, ◌≤◌, length}
use mathlib.Core.List.{List, map, flat_map}
use Rattle.cube.specs.declared.Total.{Total}
use Rattle.cube.specs.Measure.{nothing}
use Rattle.cube.specs.Bounds.{Summable}
use Rattle.rows_deals.specs.Deals.{Names}
use Rattle.rows.specs.Rows.{width, cut, row_total}
use Rattle.rows_order.specs.Index.{Valid}
use Rattle.rows_runs.specs.Totals.{amounts_at}
use Rattle.rows_slots.specs.Slots.{row_in}
use Rattle.rows_slots.specs.Summed.{summed}
use Rattle.archive_entries.specs.Layout.{cell_bytes}

pub record Groupable (d n : ℕ) (ws slot : List ℕ) : Type 0 where
  pub dims : d ≤ 8
  pub size : n * width d ≡ length ws
  pub valid : Valid d (cut d n ws)
  pub few : length slot ≤ 1024
  pub names : Names (map row_in slot) n
  pub summable : Summable (amounts_at (row_total d n ws) (map row_in slot))

unfoldable pub group_bytes : (ℕ → Total) → (ℕ → List ℕ) → List ℕ → List ℕ
group_bytes totals keys slot = flat_map cell_bytes (summed totals keys nothing slot)
