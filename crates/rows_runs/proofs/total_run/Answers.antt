-- `rows_runs::total_run` meets its contract: the running total, over the rows that are left, is the total of all.
use mathlib.Core.Path.{◌≡◌}
use mathlib.Core.List.{◌∷◌}
use Prim.Native.Nat.{◌+◌}
use lib.ListN.{get_or}
use lib.Seq.{slice}
use Rattle.rows.specs.Slices.{totals}
use Rattle.rows_runs.specs.Totals.{amount_at, amounts_at}
use Rattle.rows_runs.proofs.Totals.{total_from, room-nothing, room-one, room-plus, total-start, amounts_next, amounts_none}
use Rattle.rows_runs.proofs.total_run.Goals as goal
use Rattle.rows_runs.proofs.total_run.Goals.{In-loop-k}

-- this row, and those after it
next : (c : goal.In-loop-k)
    → (let a = c.args in
    let k = c.loop-k.k in
    let total = totals a.rows.now in
    amounts_at total (slice k a.end a.index.now)
    ≡ amount_at total (get_or a.index.now k 0) ∷ amounts_at total (slice (k + 1) a.end a.index.now))
next c =
    let a = c.args in
    amounts_next (totals a.rows.now) a.index.now c.loop-k.k a.end c.loop-k-test.true c.requires.within

pub loop-k-init : goal.loop-k-init
loop-k-init c =
    let a = c.args in
    (total-start (totals a.rows.now) a.index.now a.from a.end, room-nothing c.requires.room)

pub plus-total-requires : goal.plus-total-requires
plus-total-requires c =
    rw c.total_at.ensures (room-one (rw (next (goal.at.plus-total-requires c).In-loop-k) at c.loop-k.invariant.1))

pub loop-k-preserved : goal.loop-k-preserved
unfolding total_from
loop-k-preserved c =
    let room = rw (next (goal.at.loop-k-preserved c).In-loop-k) at c.loop-k.invariant.1 in
    let taken = rw c.total_at.ensures at c.plus-total.ensures in
    (rw taken (rw (next (goal.at.loop-k-preserved c).In-loop-k) at c.loop-k.invariant.0), rw taken (room-plus room))

pub returns : goal.returns
unfolding total_from
returns c =
    let a = c.args in
    rw (amounts_none (totals a.rows.now) a.index.now c.loop-k.k a.end c.loop-k-test.false) at c.loop-k.invariant.0
