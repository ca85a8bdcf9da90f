-- `call_add::add_row` meets its contract: the codes are tested, and the record is united with the base rows as a slice of one row.
use mathlib.Core.Path.{sym, ◌∙◌}
use Prim.Native.Nat.{◌≤◌}
use native.Mathlib.Omega.{arith}
use lib.ListN.{length}
use Rattle.rows.specs.Slices.{held}
use Rattle.call_answers.proofs.Answers.{stopped, answered_as}
use Rattle.call_add.specs.Adds.{added}
use Rattle.call_add.proofs.Adding.{Joined, widened, added_stopped, record_small, record_stored}
use borrow.Author.Rules.{rules}
use Rattle.call_add.proofs.add_row.Goals as goal
use Rattle.call_add.proofs.add_row.Goals.{After-front-late, Else-not-codes_fit}

small : (c : goal.Else-not-codes_fit) → length c.args.codes.now ≤ 8
small c = record_small c.requires.0 c.args.codes.now c.args.reading c.ranges.reading.sfits (sym c.if-not-codes_fit.false ∙ c.codes_fit.ensures)

-- the record as a slice of one row
stored : (c : goal.After-front-late) → (let a = c.args in let r = c.front-late.result in
    Joined a.sizes.now (held a.rows.now) (added a.sizes.now (held a.rows.now) a.codes.now a.reading) r.dims r.n r.words.now)
stored c =
    let a = c.args in
    record_stored c.requires.0 a.codes.now a.reading c.ranges.reading.sfits (sym c.if-not-codes_fit.false ∙ c.codes_fit.ensures) _ c.put_row.new.cells (search rules)
    (widened c.ranges.reading c.from-sum.ensures) c.put_row.ensures (held a.rows.now) c.front-late.ensures

pub returns-then-not-codes_fit : goal.returns-then-not-codes_fit
returns-then-not-codes_fit c = let a = c.args in stopped a.out.now (added_stopped a.sizes.now (held a.rows.now) a.codes.now a.reading (sym c.if-not-codes_fit.true ∙ c.codes_fit.ensures))

pub put_row-requires : goal.put_row-requires
put_row-requires c = omega (arith, small (goal.at.put_row-requires c).Else-not-codes_fit)

pub front-late-requires : goal.front-late-requires
front-late-requires c =
    let few = small (goal.at.front-late-requires c).Else-not-codes_fit in
    let room : 11 ≤ length c.put_row.new.cells = search rules in
    (few, omega (arith, few, room))

pub join_rows-requires : goal.join_rows-requires
join_rows-requires c =
    let t = stored (goal.at.join_rows-requires c).After-front-late in
    record { stores = (c.requires.0, t.0); dims = (c.requires.1, t.1, search rules) }

pub returns : goal.returns
returns c = answered_as (stored (goal.at.returns c).After-front-late).2 c.join_rows.ensures
