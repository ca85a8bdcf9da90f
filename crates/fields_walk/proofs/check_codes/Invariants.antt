use Prim.Native.Nat.{◌-◌, ◌≤◌}
use lib.ListN.{length, drop}
use Rattle.fields_walk.specs.Fields.{codes}
use Rattle.fields_walk.proofs.Loops.{Follows}
use Rattle.fields_walk.proofs.check_codes.Given as goal

abbrev pub invariant-loop-size : goal.invariant-loop-size
invariant-loop-size l = (l.size-index ≤ length l.sizes) × (l.at ≤ length l.s) × Follows l.s (codes (drop l.size-index l.sizes) (drop l.at l.s)) (codes l.sizes (drop l.start l.s))

abbrev pub decreases-loop-size : goal.decreases-loop-size
decreases-loop-size l = length l.sizes - l.size-index
