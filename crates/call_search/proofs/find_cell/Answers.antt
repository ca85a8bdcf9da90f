-- `call_search::find_cell` meets its contract: the cell's place lies between `low` and `high`.
use mathlib.Core.Path.{sym, ◌∙◌}
use Prim.Native.Nat.{◌+◌, ◌-◌, ◌*◌, ◌/◌, ◌≤◌}
use native.Mathlib.Omega.{arith}
use lib.ListN.{length}
use Rattle.lists.proofs.Search.{between_all, between_left, between_right, between_done}
use Rattle.rows.proofs.Rows.{row_within}
use Rattle.call_search.proofs.find_cell.Goals as goal

-- the entry in the middle is within the bytes
room : (c : goal.In-loop-low)
    → (let a = c.args in
    let l = c.loop-low in
    a.at + (l.low + (l.high - l.low) / 2) * (4 * length a.cell.now + 12) + (4 * length a.cell.now + 12) ≤ length a.s.now)
room c =
    let l = c.loop-low in
    omega (arith, c.requires.1, row_within (4 * length c.args.cell.now + 12) c.args.n (l.low + (l.high - l.low) / 2) (omega arith))

pub loop-low-init : goal.loop-low-init
loop-low-init c = between_all _ _

pub overflow_mul-mid : goal.overflow_mul-mid
overflow_mul-mid c = omega (arith, room c)

pub overflow_add-at : goal.overflow_add-at
overflow_add-at c = omega (arith, room c)

pub entry_before-requires : goal.entry_before-requires
entry_before-requires c = (c.requires.0, omega (arith, room c))

pub loop-low-preserved-then-entry_before : goal.loop-low-preserved-then-entry_before
loop-low-preserved-then-entry_before c =
    let l = c.loop-low in
    between_right _ _ l.invariant (l.low + (l.high - l.low) / 2) (omega arith) (omega arith) (sym c.entry_before.ensures ∙ c.if-entry_before.true)

pub loop-low-preserved : goal.loop-low-preserved
loop-low-preserved c =
    let l = c.loop-low in
    between_left _ _ l.invariant (l.low + (l.high - l.low) / 2) (omega arith) (omega arith) (sym c.entry_before.ensures ∙ c.if-entry_before.false)

pub returns : goal.returns
returns c = between_done _ _ c.loop-low.invariant c.loop-low-test.false
