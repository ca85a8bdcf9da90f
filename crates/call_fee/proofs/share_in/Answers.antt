-- `call_fee::share_in` meets its contract: the reader's stops, or the shares over an archive that it accepts.
use mathlib.Core.Path.{sym}
use Rattle.call_answers.proofs.Answers.{stopped_on}
use Rattle.call_fee.proofs.Outcomes.{fee_refused}
use Rattle.call_fee.proofs.share_in.Goals as goal

pub returns-in_err-shape : goal.returns-in_err-shape
returns-in_err-shape c =
    let a = c.args in
    stopped_on a.out.now _ c.from_residual.ensures.1 (fee_refused a.s.now (sym c.in_err-shape.ensures.value) a.fee a.set)
