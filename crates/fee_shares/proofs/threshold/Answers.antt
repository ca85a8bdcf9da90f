-- `fee_shares::threshold` meets its contract: at least m remainders are at least the lower bound, and at most m the upper one.
use native.Mathlib.Omega.{arith}
use Rattle.fee_shares.proofs.Counts.{count-all}
use borrow.Author.Rules.{rules}
use Rattle.fee_shares.proofs.threshold.Goals as goal

pub loop-low-init : goal.loop-low-init
loop-low-init c = (search rules, search rules, omega (arith, count-all c.args.rests.now), search rules)
