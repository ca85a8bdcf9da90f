-- The groups of a set's slot with their totals are the cells that rows share.
use mathlib.Core.Path.{◌≡◌, sym, ap, ◌∙◌}
use mathlib.Core.List.{List, map}
use Prim.Native.Nat.{ℕ}
use Rattle.cube.specs.Measure.{nothing, sums as measure}
use Rattle.cube.specs.Codes.{plain}
use Rattle.cube.specs.Cube.{filled}
use Rattle.cube.specs.Condensed.{shared}
use Rattle.rows.specs.Rows.{cut, rows_of, row_total}
use Rattle.rows.proofs.Rows.{rows-codes}
use Rattle.rows_order.specs.Index.{key}
use Rattle.rows_slots.specs.Slots.{crowds, packed}
use Rattle.rows_slots.specs.Summed.{summed}
use Rattle.rows_slots.proofs.Totalled.{summed-shared}
use Rattle.rows_ready.specs.Ready.{Ready}
use Rattle.rows_condense.specs.Shared.{shared_rows}

module _ {d n : ℕ} {ws : List ℕ} (ready : Ready d n ws) (s : ℕ) (slot : List ℕ)
    (e : slot ≡ packed (crowds 2 (key s (cut d n ws)) n)) where
  pub slot-shared : summed (row_total d n ws) (key s (cut d n ws)) nothing slot ≡ shared_rows d (rows_of d n ws) s
  unfolding shared_rows
  slot-shared =
      let rows = rows_of d n ws in
      ap (summed (row_total d n ws) (key s (cut d n ws)) nothing) e
      ∙ summed-shared d n s ws ready.size ready.few ready.table
      ∙ ap (λ (l : List (List ℕ)). map (filled (plain d) measure rows) (shared (plain d) l s)) (sym (rows-codes d n ws))
