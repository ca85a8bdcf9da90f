-- `archive_read::read_sharing` meets its contract: the walk answers for its stops, and what has right fields is stored and judged.
use mathlib.Core.Path.{sym}
use Rattle.stops.proofs.Handed.{handed}
use Rattle.archive_entries.specs.Reading.{walk_archive}
use Rattle.archive_entries.proofs.Fields.{stopped_stored}
use Rattle.archive_read.proofs.Reading.{stop-required, stored-required, shares-stop}
use Rattle.archive_read.proofs.read_sharing.Goals as goal

pub returns-in_err-shape : goal.returns-in_err-shape
returns-in_err-shape c =
    let s = c.args.s.now in
    let e = sym c.in_err-shape.ensures in
    rw (handed c.from_residual.result c.from_residual.ensures.1) (record { value = stop-required s e; stored = stored-required s _ (stopped_stored (walk_archive s) _ e); shares = shares-stop s _ _ e })
