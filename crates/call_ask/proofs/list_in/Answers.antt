-- `call_ask::list_in` meets its contract: the reader's stops, or the cuboid of an archive that it accepts.
use mathlib.Core.Path.{sym}
use Rattle.call_answers.proofs.Answers.{stopped_on}
use Rattle.call_ask.proofs.Outcomes.{list-refused}
use Rattle.call_ask.proofs.list_in.Goals as goal

pub returns-in_err-shape : goal.returns-in_err-shape
returns-in_err-shape c = stopped_on c.args.out.now _ c.from_residual.ensures.1 (list-refused c.args.s.now (sym c.in_err-shape.ensures.value) c.args.set)
