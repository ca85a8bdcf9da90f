-- `rows_runs::put_row` meets its contract: the rows before it are as they were, and it stands behind them.
use mathlib.Core.Path.{◌∙◌, ap}
use mathlib.Core.List.{[], ◌∷◌, ◌++◌}
use borrow.Author.Rules.{rules}
use lib.ListN.{length}
use Rattle.cube.specs.declared.Total.{Total}
use Rattle.cube.specs.Measure.{Row}
use Rattle.rows.specs.Rows.{rows_of}
use Rattle.rows.proofs.Flat.{row-stored}
use Rattle.rows_runs.proofs.put_row.Goals as goal

pub returns : goal.returns
returns c =
    let a = c.args in
    let d = length a.mine.now in
    rw (c.places.ensures.0, c.places.ensures.1)
    (row-stored d a.k a.cells.now c.fill_row.new.row (search rules) c.requires ∙ ap (λ (r : Row Total). rows_of d a.k a.cells.now ++ r ∷ []) c.fill_row.ensures)
