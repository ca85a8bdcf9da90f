-- `fee_shares::divide` meets its contract: the shares and remainders before place i are as they should be.
use Prim.Native.Nat.{◌≤◌}
use native.Mathlib.Omega.{arith}
use lib.ListN.{length}
use Rattle.fee_shares.specs.Shares.{quota, rest}
use Rattle.fee_shares.proofs.Walking.{weight_low, quotas-low, map-done}
use borrow.Author.Rules.{rules}
use Rattle.fee_shares.proofs.divide.Goals as goal

pub quota-requires : goal.quota-requires
quota-requires c =
    let f = c.args.fee.now in
    let e = c.requires.total in
    (omega (arith, f.small, f.bounded, e), omega (arith, weight_low f.counts.now c.loop-i.i, e), omega (arith, f.some, e), omega (arith, f.bounded, e))

pub rest-requires : goal.rest-requires
rest-requires c =
    let f = c.args.fee.now in
    let e = c.requires.total in
    (omega (arith, f.small, f.bounded, e), omega (arith, weight_low f.counts.now c.loop-i.i, e), omega (arith, f.some, e), omega (arith, f.bounded, e))

pub returns : goal.returns
returns c =
    let t = c.args.total in
    let f = c.args.fee.now in
    let l = c.loop-i in
    let h : length f.counts.now ≤ l.i = search rules in
    let done = map-done (quota t f.cents) f.counts.now l.shares l.i h l.invariant.1 l.invariant.3 in record { shares_after = (done, map-done (rest t f.cents) f.counts.now l.rests l.i h l.invariant.2 l.invariant.4); low = λ i. rw done (quotas-low f.cents t f.counts.now f.small (omega (arith, c.requires.total)) i) }
