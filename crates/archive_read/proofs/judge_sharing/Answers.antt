-- `archive_read::judge_sharing` meets its contract: the slots tell how many rows share a cell.
use Rattle.archive_entries.specs.Reading.{walk_archive}
use Rattle.archive_read.proofs.Reading.{sharing_held, shares-told, shares-required}
use Rattle.archive_read.proofs.judge_sharing.Goals as goal

pub returns-clause-shares : goal.returns-clause-shares
returns-clause-shares c =
    let s = c.args.archive.now.bytes.now in
    shares-required s _ _ (shares-told (walk_archive s) _ _ c.args.archive.now.walked (sharing_held c.read_judged.ensures.grouped))
