-- `fields_walk::check_codes` meets its contract: what is read from the present place on ends as what is read from the start.
use native.Mathlib.Omega.{arith}
use borrow.Author.Rules.{rules}
use Rattle.stops.proofs.Handed.{handed}
use Rattle.stops.specs.declared.Stop.TheVariants as Why
use Rattle.fields_walk.proofs.Steps.{tested_at, tested_off}
use Rattle.fields_walk.proofs.Loops.{follows_self, codes_on, codes-off, codes-done}
use Rattle.fields_walk.proofs.check_codes.Goals as goal

pub loop-size-init : goal.loop-size-init
loop-size-init c = (omega arith, omega arith, follows_self _ _)

pub returns-in_err-check_field : goal.returns-in_err-check_field
returns-in_err-check_field c =
    let l = c.loop-size in
    rw (handed c.from_residual.result c.from_residual.ensures.1) (record { says = codes-off c.args.sizes.now l.at l.size-index l.invariant.2 (search rules) (c.in_err-check_field.ensures 6).tells })

pub returns-in_err-at : goal.returns-in_err-at
returns-in_err-at c =
    let l = c.loop-size in
    rw (handed c.from_residual-in_err-at.result c.from_residual-in_err-at.ensures.1) (record { says = codes-off c.args.sizes.now l.at l.size-index l.invariant.2 (search rules) (tested_off c.in_ok-check_field.field-0 Why.Code _ c.in_err-at.ensures.value (c.in_ok-check_field.ensures 6)) })

pub loop-size-preserved : goal.loop-size-preserved
loop-size-preserved c =
    let l = c.loop-size in
    let g = tested_at c.in_ok-at.ensures.ok_part (c.in_ok-check_field.ensures 6) in
    (search rules, g.2, codes_on c.args.sizes.now l.at l.size-index l.invariant.2 (search rules) g.1)

pub returns : goal.returns
returns c =
    let l = c.loop-size in
    record { says = codes-done c.args.sizes.now l.at l.size-index l.invariant.2 (search rules) l.invariant.1 }
