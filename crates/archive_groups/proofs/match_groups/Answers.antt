-- `archive_groups::match_groups` meets its contract. The invariant: the groups from place i on are left to compare, and their rows can be added.
use mathlib.Core.Path.{sym, ap, ap₂, ◌∙◌}
use mathlib.Core.List.{List, ◌++◌}
use Prim.Native.Nat.{ℕ, ◌+◌, ◌<◌}
use lib.ListN.{length, get_or}
use Rattle.cube.specs.declared.Total.{Total}
use Rattle.cube.specs.Measure.{Row, nothing}
use Rattle.rows.specs.Rows.{row_at}
use Rattle.rows.specs.Slices.{codes, totals}
use Rattle.rows_order.specs.Index.{key}
use Rattle.archive_entries.specs.Layout.{cell_bytes}
use Rattle.rows_slots.specs.Slots.{row_in}
use Rattle.rows_slots.specs.Summed.{plus_row}
use Rattle.rows_slots.proofs.Summing.{adding_none, adding_bounds, adding_on, adding_end, entry_named}
use Rattle.stops.proofs.Handed.{handed}
use Rattle.archive_compare.specs.Matched.{Matched, Matching}
use Rattle.archive_compare.specs.MatchedLaws.{matching_none, matching_more, matching_off, matching_done, matched_as, matched_told}
use Rattle.archive_groups.specs.Masks.{masked}
use Rattle.archive_groups.specs.Groups.{group_bytes}
use Rattle.archive_groups.proofs.Masks.{masked-key}
use Rattle.archive_groups.proofs.Left.{left, left_on, left_end, left-none}
use Rattle.archive_groups.proofs.match_groups.Goals as goal
use Rattle.archive_groups.proofs.match_groups.Goals.{After-match_group, After-row_in-row}

-- the row in hand
named : (c : goal.After-row_in-row) → c.row_in-row.result < c.args.rows.now.n
named c = rw c.row_in-row.ensures.0 (entry_named c.args.slot.now c.args.rows.now.n c.loop-e.e-index c.requires.0.names c.loop-e-test.true)

-- the group that ends here, and its bytes
abbrev ended : (c : goal.After-match_group) → Row Total
ended c =
    let a = c.args in
    let l = c.loop-e in
    let row = row_in (get_or a.slot.now l.e-index 0) in
    record { codes = key a.set (codes a.rows.now) row; total = plus_row (totals a.rows.now) l.total row }

matching : (c : goal.After-match_group) → let a = c.args in
    let l = c.loop-e in
    let keys = key a.set (codes a.rows.now) in
    Matching (group_bytes (totals a.rows.now) keys a.slot.now) (cell_bytes (ended c) ++ left (totals a.rows.now) keys a.slot.now nothing (l.e-index + 1)) a.s.now a.start l.at
matching c =
    let a = c.args in
    let l = c.loop-e in
    let keys = key a.set (codes a.rows.now) in
    rw (left_end (totals a.rows.now) keys a.slot.now l.total l.e-index c.loop-e-test.true (λ z. c.if-end_in-eq0.false (c.end_in.ensures.0 ∙ z))) at l.invariant.1

-- what was compared is that group
matched : (c : goal.After-match_group) → Matched c.args.s.now c.loop-e.at (cell_bytes (ended c)) c.match_group.result
matched c =
    let a = c.args in
    let l = c.loop-e in
    let e = c.row_in-row.ensures.0 in
    let r = row_in (get_or a.slot.now l.e-index 0) in
    let m = c.mask_of-missing.result in
    let p = c.requires.0 in
    let n = entry_named a.slot.now a.rows.now.n l.e-index p.names c.loop-e-test.true in
    let codes =
    ap (masked m) c.codes_at-mine.ensures.0
    ∙ ap (λ (z : ℕ). masked m (row_at (codes a.rows.now) z)) e
    ∙ masked-key a.rows.now.dims a.rows.now.n a.set r a.rows.now.words.now m p.dims p.valid c.mask_of-missing.ensures n in
    let total = c.add_row-total.ensures ∙ ap (plus_row (totals a.rows.now) l.total) e in
    matched_as (ap₂ (λ (x : List ℕ) (t : Total). cell_bytes (record { codes = x; total = t })) codes total) c.match_group.ensures

pub loop-e-init : goal.loop-e-init
unfolding left group_bytes
loop-e-init c =
    let a = c.args in
    (adding_none (totals a.rows.now) (key a.set (codes a.rows.now)) a.slot.now c.requires.0.summable, matching_none _ _ _ c.requires.1)

pub add_row-total-requires : goal.add_row-total-requires
add_row-total-requires c =
    let a = c.args in
    let p = c.requires.0 in
    let l = c.loop-e in
    let h : l.e-index < length a.slot.now = c.loop-e-test.true in
    let n = entry_named a.slot.now a.rows.now.n l.e-index p.names h in
    let b = adding_bounds (totals a.rows.now) (key a.set (codes a.rows.now)) a.slot.now l.total l.e-index h l.invariant.0 in
    rw c.row_in-row.ensures.0 (n, b.0, b.1, b.2)

pub loop-e-preserved-then-end_in-eq0 : goal.loop-e-preserved-then-end_in-eq0
loop-e-preserved-then-end_in-eq0 c =
    let a = c.args in
    let l = c.loop-e in
    let keys = key a.set (codes a.rows.now) in
    let h : l.e-index < length a.slot.now = c.loop-e-test.true in
    rw (c.add_row-total.ensures, c.row_in-row.ensures.0) (
      adding_on (totals a.rows.now) keys a.slot.now l.total l.e-index h l.invariant.0,
      rw (left_on (totals a.rows.now) keys a.slot.now l.total l.e-index h (sym c.end_in.ensures.0 ∙ c.if-end_in-eq0.true)) at l.invariant.1,
    )

pub codes_at-mine-requires : goal.codes_at-mine-requires
codes_at-mine-requires c = named (goal.at.codes_at-mine-requires c).After-row_in-row

pub returns-in_err-at : goal.returns-in_err-at
returns-in_err-at c = rw (handed c.from_residual.result c.from_residual.ensures.1) (matching_off (cell_bytes (ended (goal.at.returns-in_err-at c).After-match_group)) _ (matching (goal.at.returns-in_err-at c).After-match_group) (matched_told c.in_err-at.was (matched (goal.at.returns-in_err-at c).After-match_group)))

pub loop-e-preserved : goal.loop-e-preserved
loop-e-preserved c =
    let a = c.args in
    let l = c.loop-e in (
      adding_end (totals a.rows.now) (key a.set (codes a.rows.now)) a.slot.now l.total l.e-index c.loop-e-test.true l.invariant.0,
      matching_more (cell_bytes (ended (goal.at.loop-e-preserved c).After-match_group)) _ (matching (goal.at.loop-e-preserved c).After-match_group) (matched_told c.in_ok-at.was (matched (goal.at.loop-e-preserved c).After-match_group)),
    )

pub returns : goal.returns
returns c =
    let a = c.args in
    let l = c.loop-e in
    matching_done (rw (left-none (totals a.rows.now) (key a.set (codes a.rows.now)) a.slot.now l.total l.e-index c.loop-e-test.false) at l.invariant.1)
