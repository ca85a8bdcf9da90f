use mathlib.Core.List.{[]}
use Prim.Native.Nat.{◌-◌, ◌≤◌}
use lib.ListN.{length, drop}
use Rattle.fields_walk.proofs.Loops.{Follows}
use Rattle.cube.specs.Bounds.{most}
use Rattle.archive_entries.specs.Places.{codes_before, Before}
use Rattle.archive_entries.specs.Reading.{entries}
use Rattle.archive_entries.proofs.check_entries.Given as goal

abbrev pub invariant-loop : goal.invariant-loop
invariant-loop l =
    (l.counter ≤ l.count) × (l.at ≤ length l.s)
    × Follows l.s (entries l.sizes (l.count - l.counter) (codes_before l.s (length l.sizes) l.before) l.total (drop l.at l.s)) (entries l.sizes l.count [] 0 (drop l.start l.s))
    × (l.total ≤ most) × Before l.s (length l.sizes) l.before

abbrev pub decreases-loop : goal.decreases-loop
decreases-loop l = l.count - l.counter
