-- `rows_runs::put_cell`: what is written, and the cell of what is left of the row on the rest of the set, are the row's cell.
use mathlib.Core.Path.{◌≡◌}
use mathlib.Core.List.{◌++◌}
use lib.ListN.{take, drop}
use Rattle.cube.specs.Codes.{cell}
use Rattle.rows_runs.proofs.put_cell.Given as goal

abbrev pub invariant-loop-d : goal.invariant-loop-d
invariant-loop-d l = take l.d l.out ++ cell l.rest (drop l.d l.mine) ≡ cell l.set l.mine
