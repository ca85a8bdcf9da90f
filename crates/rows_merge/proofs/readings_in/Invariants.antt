use mathlib.Core.Path.{◌≡◌}
use Prim.Native.Nat.{◌+◌, ◌-◌, ◌≤◌}
use lib.ListN.{drop}
use Rattle.cube.specs.Bounds.{count_of}
use Rattle.rows.specs.Slices.{held}
use Rattle.rows_merge.proofs.readings_in.Given as goal

abbrev pub invariant-loop-row : goal.invariant-loop-row
invariant-loop-row l = (l.row ≤ l.rows.n) × (l.all + count_of (drop l.row (held l.rows)) ≡ count_of (held l.rows))

abbrev pub decreases-loop-row : goal.decreases-loop-row
decreases-loop-row l = l.rows.n - l.row
