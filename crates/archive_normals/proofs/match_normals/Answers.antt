-- `archive_normals::match_normals` meets its contract: the entry of an empty table, and those of the sets at the place behind it.
use mathlib.Core.Path.{◌≡◌}
use mathlib.Core.List.{◌++◌}
use Rattle.stops.proofs.Handed.{handed}
use Rattle.rows.specs.Slices.{held}
use Rattle.rows.proofs.Flat.{rows-length}
use Rattle.archive_compare.specs.MatchedLaws.{matched_as, matched_stop, matched_then}
use Rattle.archive_normals.specs.Normals.{common_bytes, blank_bytes, normal_bytes}
use Rattle.archive_normals.proofs.Sections.{normal-parts}
use Rattle.archive_normals.proofs.match_normals.Goals as goal
use Rattle.archive_normals.proofs.match_normals.Goals.{Start}

-- the two parts as a whole
whole : (c : goal.Start) → (let a = c.args in
    let n = held a.rows.now in
    blank_bytes a.rows.now.dims a.rows.now.n ++ common_bytes a.rows.now.dims n ≡ normal_bytes a.rows.now.dims n)
whole c =
    let a = c.args in
    rw (rows-length a.rows.now.dims a.rows.now.n a.rows.now.words.now) at (normal-parts a.rows.now.dims (held a.rows.now))

pub returns-in_err-next : goal.returns-in_err-next
returns-in_err-next c =
    let a = c.args in
    let n = held a.rows.now in
    rw (handed c.from_residual.result c.from_residual.ensures.1) (matched_as (whole (goal.at.returns-in_err-next c).Start) (matched_stop (common_bytes a.rows.now.dims n) c.in_err-next.ensures))

pub returns : goal.returns
returns c =
    let a = c.args in
    let n = held a.rows.now in
    matched_as (whole (goal.at.returns c).Start) (matched_then (common_bytes a.rows.now.dims n) c.match_common.result c.in_ok-next.ensures c.match_common.ensures)
