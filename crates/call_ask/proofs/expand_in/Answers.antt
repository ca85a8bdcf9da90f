-- `call_ask::expand_in` meets its contract: stop 12, or the expansion of an archive that is accepted.
use mathlib.Core.Path.{sym}
use Rattle.call_answers.proofs.Answers.{stopped_on}
use Rattle.call_ask.proofs.Opened.{grouped-read}
use Rattle.call_ask.proofs.Outcomes.{expand-refused}
use Rattle.call_ask.proofs.expand_in.Goals as goal

pub expand_read-requires : goal.expand_read-requires
expand_read-requires c =
    let r = c.in_ok-shape.ensures in
    grouped-read c.args.archive.now.bytes.now _ c.args.archive.now.walked (sym r.value) r.grouped

pub returns-in_err-shape : goal.returns-in_err-shape
returns-in_err-shape c = stopped_on c.args.out.now _ c.from_residual.ensures.1 (expand-refused c.args.archive.now.bytes.now (sym c.in_err-shape.ensures.value))
