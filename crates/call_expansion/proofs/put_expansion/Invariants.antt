use Prim.Native.Nat.{◌^◌}
use Rattle.rows.specs.Slices.{held}
use Rattle.archive_cells.specs.Writing.{Writing}
use Rattle.archive_cells.proofs.Turns.{turns}
use Rattle.call_cuboids.specs.Cuboids.{cuboid_bytes, expansion_bytes}
use Rattle.call_expansion.proofs.put_expansion.Given as goal

abbrev pub invariant-loop-set : goal.invariant-loop-set
invariant-loop-set l =
    Writing (expansion_bytes l.rows.dims (held l.rows)) (turns (cuboid_bytes l.rows.dims (held l.rows)) (2 ^ l.rows.dims) l.set-index) l.initial.out l.out l.at
