use Prim.Native.Nat.{◌-◌, ◌≤◌}
use lib.ListN.{length, drop}
use Rattle.fields_walk.specs.Fields.{sizes}
use Rattle.fields_walk.proofs.Loops.{Follows}
use Rattle.fields_walk.proofs.check_sizes.Given as goal

abbrev pub invariant-loop : goal.invariant-loop
invariant-loop l = (l.counter ≤ l.dims) × (l.at ≤ length l.s) × Follows l.s (sizes (l.dims - l.counter) (drop l.at l.s)) (sizes l.dims (drop l.start l.s))

abbrev pub decreases-loop : goal.decreases-loop
decreases-loop l = l.dims - l.counter
