-- `archive_read::check_required` meets its contract: the walk answers for its stops, and what has right fields is judged.
use mathlib.Core.Path.{sym}
use Rattle.stops.proofs.Handed.{handed}
use Rattle.archive_read.proofs.Reading.{stop-required}
use Rattle.archive_read.proofs.check_required.Goals as goal

pub returns-in_err-shape : goal.returns-in_err-shape
returns-in_err-shape c = rw (handed c.from_residual.result c.from_residual.ensures.1) (stop-required c.args.s.now (sym c.in_err-shape.ensures))
