-- `call_fee::cell_counts` meets its contract: the rows are grouped, and the counts of the groups are the weights.
use mathlib.Core.Path.{◌≡◌}
use mathlib.Core.List.{List, map}
use Prim.Native.Nat.{ℕ, ◌<◌}
use native.Mathlib.Omega.{arith}
use lib.ListN.{length, take}
use Rattle.rows.specs.Rows.{rows_of}
use Rattle.rows.specs.Slices.{held}
use Rattle.rows.proofs.Flat.{rows-length}
use Rattle.rows.proofs.Fronts.{of_front}
use Rattle.call_fee.specs.Fees.{count_in}
use Rattle.call_fee.proofs.Counts.{weights-grouped}
use Rattle.call_fee.proofs.cell_counts.Goals as goal

pub returns : goal.returns
returns c =
    let r = c.args.rows.now in
    let g = c.group_rows-count in
    let some : 0 < length (held r) = omega (arith, rows-length r.dims r.n r.words.now, c.requires.1) in
    let counts = of_front g.new.cells (λ (d n : ℕ) (ws : List ℕ). take n c.copy_counts.new.counts ≡ map count_in (rows_of d n ws)) c.front.ensures c.copy_counts.ensures in
    (weights-grouped r.dims g.result _ _ (held r) c.args.set some counts g.ensures.cells_after, g.ensures.upper_bound)
