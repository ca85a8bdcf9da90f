-- `table_rows::fold_rows` meets its contract: the stored rows are the table's, and they are grouped by the full set.
use mathlib.Core.Path.{ap, ap₂, ◌∙◌}
use mathlib.Core.List.{List}
use Prim.Native.Nat.{ℕ, ◌-◌}
use Rattle.cube.specs.declared.Total.{Total}
use Rattle.cube.specs.Measure.{Row, sums}
use Rattle.cube.specs.Codes.{plain}
use Rattle.cube.specs.Cube.{grouped}
use Rattle.cube.specs.Table.{folded}
use Rattle.table_rows.proofs.fold_rows.Goals as goal

pub returns-clause-rows_after : goal.returns-clause-rows_after
unfolding folded
returns-clause-rows_after c =
    let full = ap (λ (n : ℕ). n - 1) c.sets_of-full.ensures in
    c.group_rows.ensures.cells_after ∙ ap₂ (λ (rows : List (Row Total)) (set : ℕ). grouped (plain c.args.dims) sums rows set) c.store_rows.ensures full
