-- `fee_shares::give` meets its contract: the shares before place i have their cents, and those from it on get what is still to be given.
use native.Mathlib.Omega.{arith}
use lib.ListN.{get_or}
use Rattle.fee_shares.specs.Given.{gets}
use Rattle.fee_shares.proofs.Walking.{give-low, cent-low}
use Rattle.fee_shares.proofs.give.Goals as goal

pub overflow_add-shares : goal.overflow_add-shares
overflow_add-shares c = let l = c.loop-i in
    omega (arith, c.cent_of.ensures, cent-low (gets c.args.v l.left (get_or c.args.rests.now l.i 0)), give-low l.shares c.args.shares.now l.i (omega arith) l.invariant.2 c.requires.1)
