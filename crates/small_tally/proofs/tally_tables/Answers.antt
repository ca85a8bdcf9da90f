-- `small_tally::tally_tables` meets its contract: before table t the tallies are those of the tables before it.
use mathlib.Core.Path.{◌∙◌, ap}
use Prim.Native.Nat.{ℕ, ◌^◌, ◌<◌}
use native.Mathlib.Omega.{arith}
use lib.Pow.{pow_mono}
use Rattle.small_tally.proofs.Tallies.{tallied_none, tallied_more, tallied_all}
use borrow.Author.Rules.{rules}
use Rattle.small_tally.proofs.tally_tables.Goals as goal
use Rattle.small_tally.proofs.tally_tables.Goals.{After-entries_of-n}

-- table t is one of them
one : (c : goal.After-entries_of-n) → c.loop-t.t < 2 ^ 2 ^ c.args.dims
one c = omega (arith, c.loop-t-test.true, c.loop-t.invariant.1)

pub sets_of-t-end-requires : goal.sets_of-t-end-requires
sets_of-t-end-requires c = omega (arith, c.sets_of-rows.ensures, pow_mono c.requires.0)

pub loop-t-init : goal.loop-t-init
loop-t-init c =
    let p = c.requires in
    (search rules, c.sets_of-t-end.ensures ∙ ap (λ (n : ℕ). 2 ^ n) c.sets_of-rows.ensures, tallied_none c.args.dims p.1 p.2)

pub loop-t-preserved : goal.loop-t-preserved
loop-t-preserved c =
    let l = c.loop-t in
    (search rules, l.invariant.1, tallied_more c.args.dims l.invariant.2 (one (goal.at.loop-t-preserved c).After-entries_of-n) c.entries_of-n.ensures)

pub returns : goal.returns
returns c = let l = c.loop-t in tallied_all c.args.dims l.invariant.2 (omega (arith, l.invariant.0, l.invariant.1, c.loop-t-test.false))
