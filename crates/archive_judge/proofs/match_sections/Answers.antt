-- `archive_judge::match_sections` meets its contract: four parts, each compared at the place behind the one before.
use mathlib.Core.Path.{◌≡◌}
use native.Mathlib.Omega.{arith}
use mathlib.Core.List.{◌++◌, flat_map}
use Rattle.fields.specs.Words.{word_bytes}
use Rattle.std.specs.Prelude.{Err, Ok}
use Rattle.stops.proofs.Handed.{handed}
use Rattle.rows.specs.Slices.{held}
use Rattle.archive_entries.specs.Layout.{base_bytes}
use Rattle.archive_entries.proofs.Limits.{normals-few}
use Rattle.rows.proofs.Rows.{rows-codes}
use Rattle.rows.proofs.Flat.{rows-length}
use Rattle.archive_bases.specs.Listed.{our_bases}
use Rattle.archive_normals.specs.Normals.{normal_bytes}
use Rattle.archive_compare.specs.MatchedLaws.{matched_as, matched_stop, matched_then}
use Rattle.archive_judge.specs.Read.{sections}
use Rattle.archive_judge.proofs.Parts.{four-parts}
use Rattle.archive_judge.proofs.match_sections.Goals as goal
use Rattle.archive_judge.proofs.match_sections.Goals.{Start}

-- the parts as a whole
whole : (c : goal.Start) → (let a = c.args in
    let r = a.rows.now in
    (word_bytes r.n ++ flat_map base_bytes (our_bases r.dims (held r))) ++ (word_bytes a.cells ++ normal_bytes r.dims (held r)) ≡ sections r.dims (held r))
whole c = let r = c.args.rows.now in four-parts r.dims r.n r.words.now c.requires.cells_value

pub returns-in_err-at : goal.returns-in_err-at
returns-in_err-at c =
    let a = c.args in
    let r = a.rows.now in
    rw (handed c.from_residual.result c.from_residual.ensures.1) (matched_as (whole (goal.at.returns-in_err-at c).Start) (matched_stop (word_bytes a.cells ++ normal_bytes r.dims (held r)) (matched_stop (flat_map base_bytes (our_bases r.dims (held r))) c.in_err-at.ensures)))

pub returns-in_err-end : goal.returns-in_err-end
returns-in_err-end c = rw (handed c.from_residual-in_err-end.result c.from_residual-in_err-end.ensures.1) (matched_as (whole (goal.at.returns-in_err-end c).Start) (matched_stop _ (matched_then _ (Err _) c.in_ok-at.ensures c.in_err-end.ensures)))

pub overflow_cast-cells : goal.overflow_cast-cells
overflow_cast-cells c =
    let r = c.args.rows.now in
    let p = c.requires.listed.0.ready in
    let few = normals-few r.dims (held r) p.dims (omega (arith, rows-length r.dims r.n r.words.now, p.few)) in
    omega (arith, rw (rows-codes r.dims r.n r.words.now) at few, c.requires.cells_value)

pub returns-in_err-next : goal.returns-in_err-next
returns-in_err-next c = rw (handed c.from_residual-in_err-next.result c.from_residual-in_err-next.ensures.1) (matched_as (whole (goal.at.returns-in_err-next c).Start)
    (matched_then _ (Err _) (matched_then _ (Ok _) c.in_ok-at.ensures c.in_ok-end.ensures)
    (matched_stop _ c.in_err-next.ensures)))

pub returns : goal.returns
returns c = matched_as (whole (goal.at.returns c).Start)
    (matched_then _ c.match_normals.result (matched_then _ (Ok _) c.in_ok-at.ensures c.in_ok-end.ensures)
    (matched_then _ c.match_normals.result c.in_ok-next.ensures c.match_normals.ensures))
