use Prim.Native.Nat.{◌-◌, ◌≤◌}
use lib.ListN.{length, drop}
use Rattle.fields_walk.specs.Parsed.{many}
use Rattle.fields_walk.proofs.Loops.{Follows}
use Rattle.table.specs.Reading.{row}
use Rattle.table.proofs.check_rows.Given as goal

abbrev pub invariant-loop : goal.invariant-loop
invariant-loop l = (l.counter ≤ l.count) × (l.at ≤ length l.s) × Follows l.s (many (l.count - l.counter) (row l.sizes) (drop l.at l.s)) (many l.count (row l.sizes) (drop l.start l.s))

abbrev pub decreases-loop : goal.decreases-loop
decreases-loop l = l.count - l.counter
