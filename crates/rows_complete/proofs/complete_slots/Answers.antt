-- `rows_complete::complete_slots` meets its contract: before each set the slots of the sets that had a turn have all groups, and the full set comes last.
use mathlib.Core.Path.{◌≡◌, subst}
use Prim.Native.Nat.{◌+◌, ◌-◌, ◌^◌, ◌<◌}
use native.Mathlib.Omega.{arith}
use lib.Pow.{pow_pos, pow_mono}
use Rattle.lattice.specs.Sets.{full}
use Rattle.lattice.proofs.Table.{set_read}
use Rattle.rows_crowds.specs.Crowds.{AllHold}
use Rattle.rows_crowds.proofs.Shorter.{shorter_less}
use Rattle.rows_crowds.proofs.Filling.{passing_none}
use Rattle.rows_crowds.proofs.Turns.{filling_shorter, filling_done}
use Rattle.rows_complete.proofs.Completing.{whole-filled, completing_start, completing_skip, completing_more, all_more}
use Rattle.rows_complete.proofs.complete_slots.Goals as goal
use Rattle.rows_complete.proofs.complete_slots.Goals.{After-sets_of-all, Else-all-set}

-- the full set is the last of 256 at most
all-sets : (c : goal.After-sets_of-all) → c.sets_of-all.result - 1 + 1 ≡ 2 ^ c.args.rows.now.dims
all-sets c = omega (arith, c.sets_of-all.ensures, pow_pos c.args.rows.now.dims)

few : (c : goal.After-sets_of-all) → c.sets_of-all.result - 1 < 256
few c = omega (arith, all-sets c, pow_mono {i = c.args.rows.now.dims} {j = 8} c.requires.n_bound.1)

-- the set has its turn
below : (c : goal.Else-all-set) → c.from-set.result < c.sets_of-all.result - 1
below c = omega (arith, c.if-all-set.false)

pub loop-set-init : goal.loop-set-init
loop-set-init c =
    let a = c.args in
    let r = a.rows.now in
    let all = (goal.at.loop-set-init c).After-sets_of-all in
    let e : full r.dims ≡ c.sets_of-all.result - 1 = omega (arith, all-sets all) in
    completing_start (omega (arith, few all)) (subst (AllHold 2 r.dims r.n r.words.now a.store.now a.sizes.now) e c.requires.in_bounds.2)

pub loop-set-preserved-then-all-set : goal.loop-set-preserved-then-all-set
loop-set-preserved-then-all-set c = completing_skip (omega (arith, few (goal.at.loop-set-preserved-then-all-set c).After-sets_of-all)) c.loop-set.invariant c.loop-set-test.true (set_read _ c.in_order-set-items.ensures c.from-set.ensures) c.if-all-set.true

-- its slot has every row
pub loop-set-preserved-then-sizes-set : goal.loop-set-preserved-then-sizes-set
loop-set-preserved-then-sizes-set c =
    let p = c.requires in
    let l = c.loop-set in
    let h = below (goal.at.loop-set-preserved-then-sizes-set c).Else-all-set in
    let low = few (goal.at.loop-set-preserved-then-sizes-set c).After-sets_of-all in
    let w = whole-filled p.n_bound.0 (omega (arith, h, low)) (omega (arith, l.auto.store, p.in_bounds.0)) (l.invariant.each c.from-set.result h).1 c.if-sizes-set.true in
    completing_more (omega (arith, low)) l.invariant c.loop-set-test.true (set_read _ c.in_order-set-items.ensures c.from-set.ensures) h w

-- it is filled
pub fill_set-requires-clause-dims_bound : goal.fill_set-requires-clause-dims_bound
fill_set-requires-clause-dims_bound c =
    let r = c.args.rows.now in
    let h = below (goal.at.fill_set-requires-clause-dims_bound c).Else-all-set in
    let all = (goal.at.fill_set-requires-clause-dims_bound c).After-sets_of-all in (
      c.requires.n_bound.1,
      c.read_columns.ensures,
      omega (arith, h, all-sets all),
      passing_none 1 r.dims r.n r.words.now c.from-set.result,
      filling_shorter (omega (arith, few all)) c.loop-set.invariant.filling c.loop-set-test.true (set_read _ c.in_order-set-items.ensures c.from-set.ensures) h,
    )

pub loop-set-preserved : goal.loop-set-preserved
loop-set-preserved c = completing_more (omega (arith, few (goal.at.loop-set-preserved c).After-sets_of-all)) c.loop-set.invariant c.loop-set-test.true (set_read _ c.in_order-set-items.ensures c.from-set.ensures) (below (goal.at.loop-set-preserved c).Else-all-set) c.fill_set.ensures.filled

-- the full set
pub fill_set-requires-2-clause-dims_bound : goal.fill_set-requires-2-clause-dims_bound
fill_set-requires-2-clause-dims_bound c =
    let r = c.args.rows.now in
    let set = c.sets_of-all.result - 1 in
    let all = (goal.at.fill_set-requires-2-clause-dims_bound c).After-sets_of-all in
    let held = filling_done (omega (arith, few all)) c.loop-set.invariant.filling c.loop-set-test.false in (
      c.requires.n_bound.1,
      c.read_columns.ensures,
      omega (arith, all-sets all),
      passing_none 1 r.dims r.n r.words.now set,
      λ one. held.all _ (shorter_less set one (few all)),
    )

pub returns : goal.returns
returns c =
    let r = c.args.rows.now in
    let all = (goal.at.returns c).After-sets_of-all in
    subst (AllHold 1 r.dims r.n r.words.now _ _) (all-sets all) (all_more (filling_done (omega (arith, few all)) c.loop-set.invariant.filling c.loop-set-test.false) c.fill_set-2.ensures.filled)
