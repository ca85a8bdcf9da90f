-- `call_ask::list_read` meets its contract: the set's number is tested, then the cuboid is written where there is room.
use native.Mathlib.Omega.{arith}
use Rattle.call_answers.proofs.Answers.{stopped, answered_as}
use Rattle.call_ask.proofs.Opened.{opened_of, opened_rows}
use Rattle.call_ask.proofs.Outcomes.{list_stopped, list-bytes}
use Rattle.call_ask.proofs.list_read.Goals as goal

pub sets_of-requires : goal.sets_of-requires
sets_of-requires c = (opened_of c.args.archive.now).ready.dims

pub returns-then-sets_of-set : goal.returns-then-sets_of-set
returns-then-sets_of-set c = stopped c.args.out.now (list_stopped (opened_of c.args.archive.now) (omega (arith, c.if-sets_of-set.true, c.sets_of.ensures)))

pub fit_cuboid-requires : goal.fit_cuboid-requires
fit_cuboid-requires c = (opened_rows c.args.archive.now c.rows.ensures).ready

pub returns : goal.returns
returns c = answered_as (list-bytes (opened_rows c.args.archive.now c.rows.ensures) (rw c.rows.ensures.2 (omega (arith, c.if-sets_of-set.false, c.sets_of.ensures)))) c.fit_cuboid.ensures
