-- `call_look::look_in` meets its contract: the reader's stops, or the answer of an archive that it accepts.
use mathlib.Core.Path.{sym}
use Rattle.stops.proofs.Handed.{handed}
use Rattle.call_ask.proofs.Outcomes.{look_refused}
use Rattle.call_look.proofs.look_in.Goals as goal

pub returns-in_err-shape : goal.returns-in_err-shape
returns-in_err-shape c = rw (handed c.from_residual.result c.from_residual.ensures.1) (look_refused c.args.s.now (sym c.in_err-shape.ensures.value) c.args.question.now)
