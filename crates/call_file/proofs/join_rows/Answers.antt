-- `call_file::join_rows` meets its contract: both lists are merged where their readings are not too many, and the archive is written where the rows are not.
use mathlib.Core.Path.{sym, ap, ◌∙◌}
use native.Mathlib.Omega.{arith}
use lib.ListN.{length}
use Rattle.stops.specs.declared.Stop.{Stop}
use Rattle.stops.specs.Numbers.{number}
use Rattle.cube.specs.Measure.{sums as totals}
use Rattle.rows.specs.Slices.{held}
use Rattle.rows_merge.specs.United.{united}
use Rattle.call_answers.specs.Joins.{filed}
use Rattle.call_answers.specs.Answers.{stop}
use Rattle.call_answers.proofs.Answers.{stopped, stopped_on, answered_as}
use Rattle.call_file.proofs.Uniting.{stores_many, stored-over, stop_of, Written, stored}
use borrow.Author.Rules.{rules}
use Rattle.call_file.proofs.join_rows.Goals as goal
use Rattle.call_file.proofs.join_rows.Goals.{After-front-rows}

-- the merged rows as the slice that is lent on
lent : (c : goal.After-front-rows) → (let a = c.args in let zs = a.sizes.now in let r = c.front-rows.result in
    Written zs (filed zs (united totals (length zs) (held a.first.now) (held a.second.now))) r.dims r.n r.words.now)
lent c =
    let s = c.requires.stores in
    let d = c.requires.dims in
    stored s.0 s.1 d.0 d.1 c.merge_rows.new.rows (rw c.in_ok-k.ensures.ok_part at c.merge_rows.ensures) (search rules) (omega (arith, c.readings_in-2.ensures, c.readings_in.ensures)) c.front-rows.ensures

pub returns-then-many : goal.returns-then-many
returns-then-many c =
    let s = c.requires.stores in
    let d = c.requires.dims in
    stopped c.args.out.now (stores_many s.0 s.1 d.0 d.1 (omega (arith, c.readings_in-2.ensures, c.readings_in.ensures)))

pub returns-in_err-k : goal.returns-in_err-k
returns-in_err-k c =
    let s = c.requires.stores in
    let d = c.requires.dims in
    let x = c.in_err-k.ensures in
    stopped_on c.args.out.now _ c.from_residual.ensures.1
    (stored-over s.0 s.1 d.0 d.1 c.merge_rows.new.rows (rw x.ok_part at c.merge_rows.ensures) ∙ ap (λ (e : Stop). stop (number e)) (sym (stop_of x.ok_part x.value)))

pub fit_archive-requires-clause-ready : goal.fit_archive-requires-clause-ready
fit_archive-requires-clause-ready c = let t = lent (goal.at.fit_archive-requires-clause-ready c).After-front-rows in (t.0, t.1, t.2)

pub returns : goal.returns
returns c = answered_as (lent (goal.at.returns c).After-front-rows).3 c.fit_archive.ensures
