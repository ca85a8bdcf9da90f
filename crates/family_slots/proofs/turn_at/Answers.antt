-- `family_slots::turn_at` meets its contract: what is to be found from the dimension in hand on is what is to be found from the first on.
use native.Mathlib.Omega.{arith}
use Rattle.lists.proofs.Members.{at_in}
use Rattle.family_slots.proofs.turn_at.Goals as goal

pub nonzero_rem-level : goal.nonzero_rem-level
nonzero_rem-level c = let t = c.requires.1 _ (at_in 0 c.args.heights.now c.loop-dim.dim c.loop-dim-test.true) in omega (arith, t)

pub nonzero_div-rest : goal.nonzero_div-rest
nonzero_div-rest c = let t = c.requires.1 _ (at_in 0 c.args.heights.now c.loop-dim.dim c.loop-dim-test.true) in omega (arith, t)
