use mathlib.Core.Path.{◌≡◌}
use Prim.Native.Nat.{◌^◌, ◌≤◌}
use Rattle.small_tally.proofs.Tallies.{Tallied}
use Rattle.small_tally.proofs.tally_tables.Given as goal

abbrev pub invariant-loop-t : goal.invariant-loop-t
invariant-loop-t l = (l.t ≤ l.t-end) × (l.t-end ≡ 2 ^ 2 ^ l.dims) × Tallied l.dims l.tallies l.t
