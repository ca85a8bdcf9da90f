-- `call_join::join_in` meets its contract: the first file's stops, the second's, or both archives joined.
use mathlib.Core.Path.{sym}
use Rattle.call_answers.proofs.Answers.{stopped_on}
use Rattle.call_join.proofs.Outcomes.{first-refused, second-refused}
use Rattle.call_join.proofs.join_in.Goals as goal

pub returns-in_err-shape1 : goal.returns-in_err-shape1
returns-in_err-shape1 c =
    let a = c.args in
    stopped_on a.out.now _ c.from_residual.ensures.1 (first-refused a.first.now a.second.now (sym c.in_err-shape1.ensures.value))

pub returns-in_err-shape2 : goal.returns-in_err-shape2
returns-in_err-shape2 c =
    let a = c.args in
    stopped_on a.out.now _ c.from_residual-in_err-shape2.ensures.1 (second-refused a.first.now a.second.now (sym c.in_ok-shape1.ensures.value) (sym c.in_err-shape2.ensures.value))
