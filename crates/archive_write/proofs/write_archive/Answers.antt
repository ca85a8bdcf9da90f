-- `archive_write::write_archive` meets its contract: the rows are condensed first, and the length that their lists tell decides whether the archive is written.
use Rattle.rows_ready.proofs.Ready.{ready-base}
use Rattle.archive_write.proofs.write_archive.Goals as goal

pub condense_rows-cells-requires-clause-n_bound : goal.condense_rows-cells-requires-clause-n_bound
condense_rows-cells-requires-clause-n_bound c = let p = c.requires.ready.0 in (p.few, p.dims, ready-base p)
