-- `call_build::build_in` meets its contract: a table that is refused has the stop's number for an outcome, and the base rows of one that is accepted are archived.
use mathlib.Core.Path.{sym}
use Rattle.call_answers.proofs.Answers.{stopped_on}
use Rattle.call_build.proofs.Building.{build-refused}
use Rattle.call_build.proofs.build_in.Goals as goal

pub returns-in_err-folded : goal.returns-in_err-folded
returns-in_err-folded c = stopped_on c.args.out.now _ c.from_residual.ensures.1 (build-refused c.args.table.now (sym c.in_err-folded.ensures.value))
