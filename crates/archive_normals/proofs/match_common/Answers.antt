-- `archive_normals::match_common` meets its contract: the normal entries of the sets from the present place on are left to compare.
use mathlib.Core.Path.{sym, subst}
use Prim.Native.Nat.{◌<◌}
use native.Mathlib.Omega.{arith}
use mathlib.Core.List.{List}
use Rattle.lattice.specs.Sets.{full}
use Rattle.lattice.proofs.Table.{set_read}
use Rattle.stops.proofs.Handed.{handed}
use Rattle.rows.specs.Slices.{held}
use Rattle.archive_compare.specs.Matched.{Matching}
use Rattle.archive_compare.specs.MatchedLaws.{matching_none}
use Rattle.archive_compare.proofs.Turns.{match_skip, match_more, match_off, match_done}
use Rattle.archive_normals.specs.Normals.{common_bytes}
use Rattle.archive_normals.proofs.Sections.{turns_start}
use Rattle.archive_normals.proofs.match_common.Goals as goal
use Rattle.archive_normals.proofs.match_common.Goals.{Else-all-set}

-- the set has its turn
has-turn : (c : goal.Else-all-set) → c.from-set.result < full c.args.rows.now.dims
has-turn c = omega (arith, c.if-all-set.false, c.sets_of-all.ensures)

pub loop-set-init : goal.loop-set-init
loop-set-init c =
    let a = c.args in
    let n = held a.rows.now in
    let all = common_bytes a.rows.now.dims n in
    subst (λ (x : List _). Matching all x a.s.now a.start a.start) (sym (turns_start a.rows.now.dims n c.requires.0.ready.dims)) (matching_none all a.s.now a.start c.requires.1)

pub loop-set-preserved-then-all-set : goal.loop-set-preserved-then-all-set
loop-set-preserved-then-all-set c =
    let k = c.loop-set-test.true in
    match_skip _ (full c.args.rows.now.dims) k (set_read _ c.in_order-set-items.ensures c.from-set.ensures) c.loop-set.invariant (omega (arith, c.if-all-set.true, c.sets_of-all.ensures))

pub returns-in_err-at : goal.returns-in_err-at
returns-in_err-at c = rw (handed c.from_residual.result c.from_residual.ensures.1) (match_off _ (full c.args.rows.now.dims) c.loop-set-test.true (set_read _ c.in_order-set-items.ensures c.from-set.ensures) c.loop-set.invariant (has-turn (goal.at.returns-in_err-at c).Else-all-set) c.in_err-at.ensures)

pub loop-set-preserved : goal.loop-set-preserved
loop-set-preserved c =
    let k = c.loop-set-test.true in
    match_more _ (full c.args.rows.now.dims) k (set_read _ c.in_order-set-items.ensures c.from-set.ensures) c.loop-set.invariant (has-turn (goal.at.loop-set-preserved c).Else-all-set) c.in_ok-at.ensures

pub returns : goal.returns
returns c = match_done _ (full c.args.rows.now.dims) c.loop-set.invariant c.loop-set-test.false
