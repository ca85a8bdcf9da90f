-- `table_rows::store_rows` meets its contract: the rows that are stored and those left are the table's.
use mathlib.Core.Path.{refl, ◌∙◌}
use Rattle.table_rows.proofs.Storing.{turn-start, turn_on, turn-done}
use Rattle.table_rows.proofs.store_rows.Goals as goal

pub loop-i-init : goal.loop-i-init
loop-i-init c = (refl, turn-start _ _ _ _ _ c.requires.0)

pub loop-i-preserved : goal.loop-i-preserved
loop-i-preserved c =
    let r = c.store_row in
    let l = c.loop-i.invariant in
    (r.auto.rows ∙ l.0, turn_on _ _ _ _ _ l.1 _ c.loop-i-test.true r.ensures)

pub returns : goal.returns
returns c = turn-done _ _ _ _ _ c.loop-i.invariant.1 c.loop-i-test.false
