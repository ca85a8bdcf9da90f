-- `rows_lists::note_lone` meets its contract: with the set noted for the rows from place i on the lists are what they should be.
use Prim.Native.Nat.{◌*◌, ◌≤◌, ◌<◌}
use native.Mathlib.Omega.{arith}
use lib.ListN.{length, get_or}
use Rattle.rows_lists.specs.Lists.{lists_of}
use Rattle.rows_lists.proofs.Lists.{lists_length, list_length}
use Rattle.rows_lists.proofs.Noted.{noting_more, noting_room, noting_done}
use Rattle.rows_lists.proofs.note_lone.Goals as goal

pub note_at-requires : goal.note_at-requires
note_at-requires c =
    let a = c.args in
    let p = c.requires in
    let l = c.loop-row in
    let t = c.loop-row-test.true in
    let row = get_or a.lone.now l.row-index 0 in
    let h : row < a.n = p.n_in_bounds.2 l.row-index t in
    let room : a.n * 71 ≤ length l.lists = omega (arith, p.n_in_bounds.0, l.auto.lists) in (
      room,
      h,
      l.invariant.0,
      rw (← list_length a.n row l.lists h room l.invariant.0) (noting_room a.set a.lone.now (lists_of a.n l.lists) _ l.row-index t l.invariant.1 (rw lists_length h) p.fit),
    )

pub loop-row-preserved : goal.loop-row-preserved
loop-row-preserved c =
    let a = c.args in
    let l = c.loop-row in
    let r = c.note_at.ensures in
    (r.short, noting_more a.set a.lone.now (lists_of a.n l.lists) _ l.row-index c.loop-row-test.true l.invariant.1 r.lists_after)

pub returns-clause-lists_after : goal.returns-clause-lists_after
returns-clause-lists_after c =
    let l = c.loop-row in
    noting_done c.args.set c.args.lone.now (lists_of c.args.n l.lists) _ l.row-index c.loop-row-test.false l.invariant.1
