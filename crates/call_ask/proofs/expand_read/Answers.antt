-- `call_ask::expand_read` meets its contract: the expansion is written where there is room.
use Rattle.call_answers.proofs.Answers.{answered_as}
use Rattle.call_ask.proofs.Opened.{opened_rows}
use Rattle.call_ask.proofs.Outcomes.{expand-bytes}
use Rattle.call_ask.proofs.expand_read.Goals as goal

pub returns : goal.returns
returns c = answered_as (expand-bytes (opened_rows c.args.archive.now c.rows.ensures)) c.fit_expansion.ensures
