-- `call_expansion::expansion_len` meets its contract: the length so far, and that of the cuboids of the sets that are left, are the length of all.
use mathlib.Core.Path.{ap}
use Prim.Native.Nat.{◌^◌}
use native.Mathlib.Omega.{arith}
use lib.ListN.{length}
use Rattle.lattice.proofs.Table.{set_read}
use Rattle.rows.specs.Slices.{held}
use Rattle.archive_cells.proofs.Turns.{turns_length, turns_skipped, turns_over}
use Rattle.call_cuboids.specs.Cuboids.{cuboid_bytes}
use Rattle.call_cuboids.proofs.Lengths.{turns_start}
use Rattle.call_expansion.proofs.expansion_len.Goals as goal
use Rattle.call_expansion.proofs.expansion_len.Goals.{then-set-all, else-set-all}

pub loop-set-init : goal.loop-set-init
loop-set-init c =
    let a = c.args in
    (omega arith, omega (arith, ap length (turns_start a.rows.now.dims (held a.rows.now) c.requires.ready.dims)))

pub loop-set-preserved : goal.loop-set-preserved
loop-set-preserved c =
    let a = c.args in
    let l = c.loop-set in
    let f = cuboid_bytes a.rows.now.dims (held a.rows.now) in
    let at = set_read _ c.in_order-set-items.ensures c.from-set.ensures in
    let all = c.sets_of-all.ensures in
    let k = c.loop-set-test.true in
    elim c.if-set-all.branch [
      | then-set-all w ↦ (
        omega (arith, w.cuboid_len-len.ensures.upper_bound, w.len-is, l.invariant.0),
        omega (arith, w.cuboid_len-len.ensures.value, w.len-is, l.invariant.1, turns_length f (2 ^ a.rows.now.dims) k at (omega (arith, w.if-set-all.true, all))),
      )
      | else-set-all w ↦ (
        omega (arith, w.len-is, l.invariant.0),
        omega (arith, w.len-is, l.invariant.1, turns_skipped f (2 ^ a.rows.now.dims) k at (omega (arith, w.if-set-all.false, all))),
      )
    ]

pub returns : goal.returns
returns c =
    let a = c.args in
    omega (arith, c.loop-set.invariant.1, turns_over (cuboid_bytes a.rows.now.dims (held a.rows.now)) (2 ^ a.rows.now.dims) c.loop-set-test.false)
