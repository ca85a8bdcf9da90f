-- `archive_read::read_judged` meets its contract: the rows are stored, then judged.
use Rattle.archive_read.proofs.Reading.{stored-required}
use Rattle.archive_read.proofs.read_judged.Goals as goal

pub returns-clause-stored : goal.returns-clause-stored
returns-clause-stored c = stored-required c.args.archive.now.bytes.now _ c.store_rows.ensures

pub store_rows-requires-clause-by_index : goal.store_rows-requires-clause-by_index
store_rows-requires-clause-by_index c = (c.args.archive.now.shape.cells, c.args.archive.now.walked)
