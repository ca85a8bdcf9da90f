use Prim.Native.Nat.{◌≤◌}
use lib.ListN.{length, drop}
use Rattle.archive_cells.specs.Writing.{Writing}
use Rattle.small_lines.specs.Lines.{text_from}
use Rattle.small_lines.proofs.put_tallies.Given as goal

abbrev pub invariant-loop-n : goal.invariant-loop-n
invariant-loop-n l = (l.n ≤ length l.tallies) × Writing (text_from 0 l.tallies) (text_from l.n (drop l.n l.tallies)) l.initial.out l.out l.at
