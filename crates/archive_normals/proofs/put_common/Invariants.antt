use Rattle.lattice.specs.Sets.{full}
use Rattle.rows.specs.Slices.{held}
use Rattle.archive_cells.specs.Writing.{Writing}
use Rattle.archive_cells.proofs.Turns.{turns}
use Rattle.archive_normals.specs.Normals.{shared_bytes, common_bytes}
use Rattle.archive_normals.proofs.put_common.Given as goal

abbrev pub invariant-loop-set : goal.invariant-loop-set
invariant-loop-set l =
    Writing (common_bytes l.rows.dims (held l.rows)) (turns (shared_bytes l.rows.dims (held l.rows)) (full l.rows.dims) l.set-index) l.initial.out l.out l.at
