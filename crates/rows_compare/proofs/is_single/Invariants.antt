use mathlib.Core.Path.{◌≡◌}
use mathlib.Core.Bool.{true}
use Prim.Native.Nat.{◌≤◌, ◌-◌}
use lib.ListN.{drop}
use Rattle.cube.specs.Codes.{agree, plain}
use Rattle.cube.specs.Condensed.{single}
use Rattle.rows.specs.Rows.{row_at}
use Rattle.rows.specs.Slices.{codes}
use Rattle.rows_compare.proofs.is_single.Given as goal

abbrev pub invariant-loop-d : goal.invariant-loop-d
invariant-loop-d l =
    (l.i ≡ l.initial.i) × (l.d ≤ l.rows.dims) × (agree l.rest (drop l.d l.mine) (drop l.d l.other) ≡ agree l.set l.mine l.other)

abbrev pub decreases-loop-d : goal.decreases-loop-d
decreases-loop-d l = l.rows.dims - l.d

abbrev pub invariant-rows : goal.invariant-rows
invariant-rows l =
    (l.alone ≡ true) × (l.i ≤ l.rows.n) × (single (plain l.rows.dims) (drop l.i (codes l.rows)) l.set l.mine ≡ single (plain l.rows.dims) (codes l.rows) l.set (row_at (codes l.rows) l.row))

abbrev pub decreases-rows : goal.decreases-rows
decreases-rows l = l.rows.n - l.i
