use mathlib.Core.Path.{◌≡◌}
use mathlib.Core.List.{◌++◌}
use Prim.Native.Nat.{◌-◌, ◌≤◌}
use lib.ListN.{length, drop}
use Rattle.cube.specs.Measure.{sums as measure}
use Rattle.cube.specs.Codes.{plain}
use Rattle.cube.specs.Cube.{grouped}
use Rattle.rows.specs.Rows.{rows_of}
use Rattle.rows.specs.Slices.{codes, held, totals}
use Rattle.rows_order.specs.Index.{key}
use Rattle.rows_runs.proofs.Gathered.{gather}
use Rattle.rows_runs.proofs.group_rows.Given as goal

abbrev pub invariant-loop-from : goal.invariant-loop-from
invariant-loop-from l =
    (l.k ≤ l.from) × (l.from ≤ l.rows.n) × (length l.cells ≡ length l.initial.cells)
    × (rows_of l.rows.dims l.k l.cells ++ gather (totals l.rows) (key l.set (codes l.rows)) (drop l.from l.index) ≡ grouped (plain l.rows.dims) measure (held l.rows) l.set)

abbrev pub decreases-loop-from : goal.decreases-loop-from
decreases-loop-from l = l.rows.n - l.from
