-- `archive_entries::store_rows` meets its contract: the rows that are stored and those of the entries left are the archive's.
use mathlib.Core.Path.{refl, ◌∙◌}
use Prim.Native.Nat.{◌≤◌}
use native.Mathlib.Omega.{arith}
use native.Mathlib.Nat.{mul-le-mul}
use Rattle.rows.specs.Rows.{width}
use Rattle.rows.proofs.Rows.{row_within}
use Rattle.archive_entries.proofs.Fields.{accepted}
use Rattle.archive_entries.proofs.Storing.{turn-start, turn-whole, turn_on, turn-done}
use Rattle.archive_entries.proofs.store_rows.Goals as goal

pub loop-i-init : goal.loop-i-init
loop-i-init c = let a = c.args in (refl, turn-start _ _ _ _ (accepted a.s.now _ c.requires.by_index.1))

pub store_row-requires : goal.store_row-requires
store_row-requires c =
    let l = c.loop-i in
    let h = c.loop-i-test.true in
    let few : width c.args.dims ≤ 11 = omega (arith, l.invariant.1.archive.few) in
    let all = mul-le-mul l.invariant.1.archive.few-bases few in
    (omega (arith, turn-whole _ _ _ _ l.invariant.1 h), omega (arith, l.invariant.0, c.requires.in_bounds, all, row_within (width c.args.dims) c.args.bases l.i h))

pub overflow_add-at-in-loop-i : goal.overflow_add-at-in-loop-i
overflow_add-at-in-loop-i c = omega (arith, turn-whole _ _ _ _ c.loop-i.invariant.1 c.loop-i-test.true)

pub overflow_add-at-in-loop-i-2 : goal.overflow_add-at-in-loop-i-2
overflow_add-at-in-loop-i-2 c = omega (arith, turn-whole _ _ _ _ c.loop-i.invariant.1 c.loop-i-test.true)

pub word_at-list-requires : goal.word_at-list-requires
word_at-list-requires c = omega (arith, turn-whole _ _ _ _ c.loop-i.invariant.1 c.loop-i-test.true)

pub overflow_add-at-in-loop-i-5 : goal.overflow_add-at-in-loop-i-5
overflow_add-at-in-loop-i-5 c = omega (arith, turn-whole _ _ _ _ c.loop-i.invariant.1 c.loop-i-test.true, c.word_at-list.ensures)

pub loop-i-preserved : goal.loop-i-preserved
loop-i-preserved c =
    let l = c.loop-i.invariant in (
      c.store_row.auto.rows ∙ l.0,
      turn_on _ _ _ _ l.1 _ c.loop-i-test.true c.store_row.ensures (omega (arith, c.word_at-list.ensures)),
    )

pub returns : goal.returns
returns c = turn-done _ _ _ _ c.loop-i.invariant.1 c.loop-i-test.false
