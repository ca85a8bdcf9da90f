-- `call_ask::check` meets its contract: the reader's answer without D.
use mathlib.Core.Path.{sym}
use Rattle.stops.proofs.Handed.{handed}
use Rattle.call_ask.proofs.Outcomes.{check-refused, check_passed}
use Rattle.call_ask.proofs.check.Goals as goal

pub returns-in_err-shape : goal.returns-in_err-shape
returns-in_err-shape c = rw (handed c.from_residual.result c.from_residual.ensures.1) (check-refused c.args.archive.now (sym c.in_err-shape.ensures))

pub returns : goal.returns
returns c = check_passed c.args.archive.now (sym c.in_ok-shape.ensures)
