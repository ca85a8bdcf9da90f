-- `call_cuboids::find_cells` meets its contract: with a row, the cells that exist are the groups.
use mathlib.Core.Path.{sym, ap, ◌∙◌}
use mathlib.Core.List.{List}
use Prim.Native.Nat.{◌≤◌}
use native.Mathlib.Omega.{arith}
use lib.ListN.{length}
use Rattle.cube.specs.declared.Total.{Total}
use Rattle.cube.specs.Measure.{Row, sums as measure}
use Rattle.cube.specs.Codes.{plain}
use Rattle.cube.specs.Cube.{cells}
use Rattle.cube.proofs.Existing.{cells-rows}
use Rattle.rows.specs.Slices.{held}
use Rattle.rows.proofs.Flat.{rows-length}
use Rattle.call_cuboids.proofs.Lengths.{no_rows}
use Rattle.call_cuboids.proofs.find_cells.Goals as goal

pub returns-then-rows-eq0-clause-cells_after : goal.returns-then-rows-eq0-clause-cells_after
returns-then-rows-eq0-clause-cells_after c =
    let r = c.args.rows.now in
    c.blank_cells.ensures.1 ∙ ap (λ (l : List (Row Total)). cells (plain r.dims) measure l c.args.set) (sym (no_rows r.dims r.n r.words.now c.if-rows-eq0.true))

pub returns-clause-cells_after : goal.returns-clause-cells_after
returns-clause-cells_after c =
    let r = c.args.rows.now in
    let some : 1 ≤ length (held r) = omega (arith, c.if-rows-eq0.false, rows-length r.dims r.n r.words.now) in
    c.group_rows.ensures.cells_after ∙ sym (cells-rows (plain r.dims) measure (held r) c.args.set some)
