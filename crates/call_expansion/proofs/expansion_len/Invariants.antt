use mathlib.Core.Path.{◌≡◌}
use Prim.Native.Nat.{◌+◌, ◌*◌, ◌^◌, ◌≤◌}
use lib.ListN.{length}
use Rattle.rows.specs.Slices.{held}
use Rattle.archive_cells.proofs.Turns.{turns}
use Rattle.call_cuboids.specs.Cuboids.{cuboid_bytes, expansion_bytes}
use Rattle.call_expansion.proofs.expansion_len.Given as goal

abbrev pub invariant-loop-set : goal.invariant-loop-set
invariant-loop-set l =
    (l.len ≤ 45060 * l.set-index)
    × (l.len + length (turns (cuboid_bytes l.rows.dims (held l.rows)) (2 ^ l.rows.dims) l.set-index) ≡ length (expansion_bytes l.rows.dims (held l.rows)))
