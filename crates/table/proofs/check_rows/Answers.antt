-- `table::check_rows` meets its contract: what is read from the present place on ends as what is read from the start.
use native.Mathlib.Omega.{arith}
use Rattle.stops.proofs.Handed.{handed}
use Rattle.fields_walk.proofs.Loops.{many_on, many-off, many-done}
use Rattle.table.specs.Reading.{row}
use Rattle.table.proofs.check_rows.Goals as goal

pub returns-in_err-at : goal.returns-in_err-at
returns-in_err-at c =
    let l = c.loop in
    let a = c.args in
    rw (handed c.from_residual.result c.from_residual.ensures.1) (record { says = many-off (row a.sizes.now) l.at l.counter a.count l.invariant.2 (omega arith) c.in_err-at.ensures.says })

pub loop-preserved : goal.loop-preserved
loop-preserved c =
    let l = c.loop in
    let a = c.args in
    let g = c.in_ok-at.ensures.says in
    (omega arith, g.2, many_on (row a.sizes.now) l.at l.counter a.count l.invariant.2 (omega arith) g.1)

pub returns : goal.returns
returns c =
    let l = c.loop in
    let a = c.args in
    record { says = many-done (row a.sizes.now) l.at l.counter a.count l.invariant.2 (omega arith) l.invariant.1 }
