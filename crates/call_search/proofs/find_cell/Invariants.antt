use Prim.Native.Nat.{◌-◌}
use Rattle.lists.specs.Search.{Between}
use Rattle.call_search.specs.Search.{entry_before}
use Rattle.call_search.proofs.find_cell.Given as goal

abbrev pub invariant-loop-low : goal.invariant-loop-low
invariant-loop-low l = Between (entry_before l.s l.at l.cell) l.n l.low l.high

abbrev pub decreases-loop-low : goal.decreases-loop-low
decreases-loop-low l = l.high - l.low
