-- `call_fee::share_read` meets its contract: the set's number is tested, the fee, and that there are base rows; then the shares are written where there is room.
use mathlib.Core.List.{List}
use Prim.Native.Nat.{ℕ, ◌^◌, ◌<◌}
use native.Mathlib.Omega.{arith}
use Rattle.rows.proofs.Fronts.{fronted}
use Rattle.call_answers.proofs.Answers.{stopped, answered_as}
use Rattle.call_answers.proofs.Opened.{Opened}
use Rattle.call_ask.proofs.Opened.{opened_of}
use Rattle.call_fee.proofs.Outcomes.{fee_no_set, fee_too_high, fee_no_rows, fee-bytes, fee_some}
use borrow.Author.Rules.{rules}
use Rattle.call_fee.proofs.share_read.Goals as goal
use Rattle.call_fee.proofs.share_read.Goals.{After-rows}

-- the base rows, as they are lent, and that the set is among theirs
held_by : (c : goal.After-rows) → (let r = c.rows.result in Opened c.args.archive.now.bytes.now r.dims r.n c.args.archive.now.shape.cells r.words.now)
held_by c = let a = c.args in fronted a.archive.now.words.now (λ (d n : ℕ) (ws : List ℕ). Opened a.archive.now.bytes.now d n a.archive.now.shape.cells ws) c.rows.ensures (opened_of c.args.archive.now)

among : (c : goal.After-rows) → c.args.set < 2 ^ c.rows.result.dims
among c = rw (c.rows.ensures.2) (omega (arith, c.if-sets_of-set.false, c.sets_of.ensures))

pub sets_of-requires : goal.sets_of-requires
sets_of-requires c = (opened_of c.args.archive.now).ready.dims

pub returns-then-sets_of-set : goal.returns-then-sets_of-set
returns-then-sets_of-set c = stopped c.args.out.now (fee_no_set (opened_of c.args.archive.now) c.args.fee (omega (arith, c.if-sets_of-set.true, c.sets_of.ensures)))

pub returns-then-fee-gt1000000000 : goal.returns-then-fee-gt1000000000
returns-then-fee-gt1000000000 c = stopped c.args.out.now (fee_too_high (opened_of c.args.archive.now) (omega (arith, c.if-sets_of-set.false, c.sets_of.ensures)) c.if-fee-gt1000000000.true)

pub returns-then-shape-eq0 : goal.returns-then-shape-eq0
returns-then-shape-eq0 c = stopped c.args.out.now (fee_no_rows (opened_of c.args.archive.now) (omega (arith, c.if-sets_of-set.false, c.sets_of.ensures)) c.if-fee-gt1000000000.false c.if-shape-eq0.true)

pub share_rows-requires : goal.share_rows-requires
share_rows-requires c =
    let p = (goal.at.share_rows-requires c).After-rows in
    let o = held_by p in
    (o.ready, among p, c.if-fee-gt1000000000.false, fee_some o (λ e. c.if-shape-eq0.false (omega (arith, e, c.rows.ensures.1))))

pub returns : goal.returns
returns c =
    let p = (goal.at.returns c).After-rows in
    answered_as (fee-bytes (held_by p) (among p) c.if-fee-gt1000000000.false (λ e. c.if-shape-eq0.false (omega (arith, e, c.rows.ensures.1)))) c.share_rows.ensures
