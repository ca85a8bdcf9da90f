-- `table_rows::store_row` meets its contract: the rows before it are as they were, and it stands behind them.
use mathlib.Core.Path.{◌∙◌, ap}
use mathlib.Core.List.{[], ◌∷◌, ◌++◌}
use borrow.Author.Rules.{rules}
use Rattle.cube.specs.declared.Total.{Total}
use Rattle.cube.specs.Measure.{Row}
use Rattle.rows.specs.Rows.{rows_of}
use Rattle.rows.proofs.Flat.{row-stored}
use Rattle.table_rows.proofs.store_row.Goals as goal

pub returns : goal.returns
returns c =
    let a = c.args in
    rw (c.places.ensures.0, c.places.ensures.1)
    (row-stored a.dims a.i a.rows.now c.fill_row.new.row (search rules) c.requires.1 ∙ ap (λ (r : Row Total). rows_of a.dims a.i a.rows.now ++ r ∷ []) c.fill_row.ensures)
