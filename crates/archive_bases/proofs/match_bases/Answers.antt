-- `archive_bases::match_bases` meets its contract. The invariant: the entries from a row on are left to compare.
use mathlib.Core.Path.{◌≡◌, ap, ap₂, ◌∙◌}
use native.Mathlib.Omega.{arith}
use lib.ListN.{length}
use Rattle.stops.proofs.Handed.{handed}
use Rattle.rows.specs.Slices.{held}
use Rattle.rows_lists.proofs.Lists.{list_length}
use Rattle.archive_entries.specs.Layout.{base_bytes}
use Rattle.archive_compare.specs.MatchedLaws.{matched_as}
use Rattle.archive_bases.specs.Listed.{base_of, our_base}
use Rattle.archive_bases.proofs.Bases.{base-made}
use Rattle.archive_bases.proofs.Loops.{match_more, match_off, match_done}
use Rattle.archive_bases.proofs.match_bases.Goals as goal
use Rattle.archive_bases.proofs.match_bases.Goals.{After-list_of-list}

-- the words and the list in hand make the entry of the row
made : (c : After-list_of-list) → (let r = c.args.rows.now in base_bytes (base_of r.dims c.words_at-mine.result.now c.list_of-list.result.now) ≡ base_bytes (our_base r.dims (held r) c.loop-row.row))
made c =
    let d = c.args.rows.now.dims in
    ap base_bytes (ap₂ (base_of d) c.words_at-mine.ensures.0 c.list_of-list.ensures ∙ base-made c.requires.0 c.loop-row.row c.loop-row-test.true)

pub match_base-requires : goal.match_base-requires
match_base-requires c =
    let p = c.requires.0 in
    let row = c.loop-row.row in
    let h = c.loop-row-test.true in
    let sets = ap length c.list_of-list.ensures ∙ list_length c.args.rows.now.n row c.args.lists.now h p.room p.short in
    (omega (arith, sets, p.short row h), c.loop-row.invariant.within)

pub returns-in_err-at : goal.returns-in_err-at
returns-in_err-at c =
    let matched = matched_as (made (goal.at.returns-in_err-at c).After-list_of-list) (c.in_err-at.ensures c.args.rows.now.dims (omega (arith, c.words_at-mine.ensures.1))) in
    rw (handed c.from_residual.result c.from_residual.ensures.1) (match_off c.requires.0 c.loop-row.row c.loop-row.invariant c.loop-row-test.true matched)

pub loop-row-preserved : goal.loop-row-preserved
loop-row-preserved c =
    let matched = matched_as (made (goal.at.loop-row-preserved c).After-list_of-list) (c.in_ok-at.ensures c.args.rows.now.dims (omega (arith, c.words_at-mine.ensures.1))) in
    match_more c.requires.0 c.loop-row.row c.loop-row.invariant c.loop-row-test.true matched

pub returns : goal.returns
returns c = match_done c.requires.0 c.loop-row.row c.loop-row.invariant c.loop-row-test.false
