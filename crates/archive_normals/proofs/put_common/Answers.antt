-- `archive_normals::put_common` meets its contract: the normal entries of the sets from the present place on are left to write.
use mathlib.Core.Path.{sym, subst}
use Prim.Native.Nat.{◌+◌, ◌≤◌, ◌<◌}
use native.Mathlib.Omega.{arith}
use mathlib.Core.List.{List}
use lib.ListN.{length, length-take, length-drop}
use Rattle.lattice.specs.Sets.{full}
use Rattle.lattice.proofs.Table.{set_read}
use Rattle.rows.specs.Slices.{held}
use Rattle.archive_cells.specs.Writing.{Writing}
use Rattle.archive_cells.specs.WritingLaws.{writing_none}
use Rattle.archive_cells.proofs.Turns.{write_skip, write_room, write_more, write_done}
use Rattle.archive_normals.specs.Normals.{shared_bytes, common_bytes}
use Rattle.archive_normals.proofs.Sections.{turns_start}
use Rattle.archive_normals.proofs.put_common.Goals as goal
use Rattle.archive_normals.proofs.put_common.Goals.{Else-all-set}

-- the set has its turn, and there is room for its cuboid
has-turn : (c : goal.Else-all-set) → c.from-set.result < full c.args.rows.now.dims
has-turn c = omega (arith, c.if-all-set.false, c.sets_of-all.ensures)

room : (c : goal.Else-all-set) → (let a = c.args in
    c.loop-set.at + length (shared_bytes a.rows.now.dims (held a.rows.now) c.from-set.result) ≤ length c.loop-set.out)
room c = write_room _ (full c.args.rows.now.dims) c.loop-set-test.true (set_read _ c.in_order-set-items.ensures c.from-set.ensures) c.loop-set.invariant (has-turn c) c.requires.rows_in_bounds

pub loop-set-init : goal.loop-set-init
loop-set-init c =
    let a = c.args in
    let n = held a.rows.now in
    let all = common_bytes a.rows.now.dims n in
    subst (λ (x : List _). Writing all x a.out.now a.out.now 0) (sym (turns_start a.rows.now.dims n c.requires.grouped.ready.dims)) (writing_none all a.out.now)

pub loop-set-preserved-then-all-set : goal.loop-set-preserved-then-all-set
loop-set-preserved-then-all-set c =
    let a = c.args in
    let k = c.loop-set-test.true in
    write_skip _ (full a.rows.now.dims) k (set_read _ c.in_order-set-items.ensures c.from-set.ensures) c.loop-set.invariant (omega (arith, c.if-all-set.true, c.sets_of-all.ensures))

pub put_shared-at-requires-clause-set_in_bounds : goal.put_shared-at-requires-clause-set_in_bounds
put_shared-at-requires-clause-set_in_bounds c = simp (length-take, length-drop) (omega (arith, room (goal.at.put_shared-at-requires-clause-set_in_bounds c).Else-all-set))

pub overflow_add-at : goal.overflow_add-at
overflow_add-at c = omega (arith, room (goal.at.overflow_add-at c).Else-all-set, c.put_shared-at.ensures.count)

pub loop-set-preserved : goal.loop-set-preserved
loop-set-preserved c =
    let a = c.args in
    let k = c.loop-set-test.true in
    write_more _ (full a.rows.now.dims) k (set_read _ c.in_order-set-items.ensures c.from-set.ensures) c.loop-set.invariant (has-turn (goal.at.loop-set-preserved c).Else-all-set) c.put_shared-at.ensures

pub returns : goal.returns
returns c = write_done _ (full c.args.rows.now.dims) c.loop-set.invariant c.loop-set-test.false
