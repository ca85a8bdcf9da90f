-- `call_ask::expand` meets its contract: the walk answers for its stops, and what has right fields is judged and expanded.
use mathlib.Core.Path.{sym}
use Rattle.archive_read.proofs.Reading.{stop-required}
use Rattle.call_answers.proofs.Answers.{stopped_on}
use Rattle.call_ask.proofs.Outcomes.{expand-refused}
use Rattle.call_ask.proofs.expand.Goals as goal

pub returns-in_err-shape : goal.returns-in_err-shape
returns-in_err-shape c =
    let s = c.args.archive.now in
    stopped_on c.args.out.now _ c.from_residual.ensures.1 (expand-refused s (sym (stop-required s (sym c.in_err-shape.ensures))))
