-- `lattice::holds_set` meets its contract: a mask that changes nothing of the other set.
use Rattle.lattice.proofs.Mask.{mask_holds}
use native.Mathlib.Omega.{arith}
use Rattle.lattice.proofs.holds_set.Goals as goal

pub returns : goal.returns
returns c = mask_holds 32 c.args.set c.args.other (omega arith)
