use Rattle.archive_cells.specs.Writing.{Writing}
use Rattle.small_tally.specs.Flat.{flat_rows}
use Rattle.small_tally.proofs.Flat.{rows_from}
use Rattle.small_tally.proofs.put_table.Given as goal

abbrev pub invariant-loop-j : goal.invariant-loop-j
invariant-loop-j l = Writing (flat_rows l.dims l.t) (rows_from l.dims l.t l.j-end l.rest l.j) l.initial.out l.out l.at
