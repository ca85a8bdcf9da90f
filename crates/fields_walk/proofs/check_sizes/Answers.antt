-- `fields_walk::check_sizes` meets its contract: what is read from the present place on ends as what is read from the start.
use native.Mathlib.Omega.{arith}
use native.Mathlib.Nat.{sub-zero}
use Rattle.fields_walk.specs.Fields.{field}
use Rattle.stops.proofs.Handed.{handed}
use Rattle.stops.specs.declared.Stop.TheVariants as Why
use Rattle.fields_walk.proofs.Steps.{tested_at, tested_off}
use Rattle.fields_walk.proofs.Loops.{follows_self, many_on, many-off, many-done}
use Rattle.fields_walk.proofs.check_sizes.Goals as goal

pub loop-init : goal.loop-init
loop-init c = (omega arith, omega arith, simp sub-zero (follows_self _ _))

pub returns-in_err-check_field : goal.returns-in_err-check_field
returns-in_err-check_field c =
    let l = c.loop in
    rw (handed c.from_residual.result c.from_residual.ensures.1) (record { says = many-off (field 1 65536 4) l.at l.counter c.args.dims l.invariant.2 (omega arith) (c.in_err-check_field.ensures 4).tells })

pub returns-in_err-at : goal.returns-in_err-at
returns-in_err-at c =
    let l = c.loop in
    rw (handed c.from_residual-in_err-at.result c.from_residual-in_err-at.ensures.1) (record { says = many-off (field 1 65536 4) l.at l.counter c.args.dims l.invariant.2 (omega arith) (tested_off c.in_ok-check_field.field-0 Why.Size _ c.in_err-at.ensures.value (c.in_ok-check_field.ensures 4)) })

pub loop-preserved : goal.loop-preserved
loop-preserved c =
    let l = c.loop in
    let g = tested_at c.in_ok-at.ensures.ok_part (c.in_ok-check_field.ensures 4) in
    (omega arith, g.2, many_on (field 1 65536 4) l.at l.counter c.args.dims l.invariant.2 (omega arith) g.1)

pub returns : goal.returns
returns c =
    let l = c.loop in
    record { says = many-done (field 1 65536 4) l.at l.counter c.args.dims l.invariant.2 (omega arith) l.invariant.1 }
