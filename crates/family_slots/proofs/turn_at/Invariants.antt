use mathlib.Core.Path.{◌≡◌}
use Prim.Native.Nat.{◌+◌, ◌≤◌}
use lib.ListN.{length, drop}
use Rattle.family_slots.specs.Turns.{turn_at, turn_column}
use Rattle.family_slots.proofs.turn_at.Given as goal

abbrev pub invariant-loop-dim : goal.invariant-loop-dim
invariant-loop-dim l =
    (l.dim ≤ length l.heights) × (l.column ≡ l.dim + l.dim + l.dim + l.dim) × (turn_at l.heights l.node ≡ turn_at (drop l.dim l.heights) l.rest + l.dim)
    × (turn_column 0 l.heights l.node ≡ turn_column l.column (drop l.dim l.heights) l.rest)
