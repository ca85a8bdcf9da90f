-- `archive_groups::put_groups` meets its contract. The invariant: the groups from place i on are left to write, and their rows can be added.
use mathlib.Core.Path.{◌≡◌, sym, ap, ap₂, ◌∙◌}
use mathlib.Core.List.{List, ◌++◌}
use Prim.Native.Nat.{ℕ, ◌+◌, ◌*◌, ◌≤◌, ◌<◌}
use native.Mathlib.Omega.{arith}
use lib.ListN.{length, get_or, length-take, length-drop}
use Rattle.cube.specs.declared.Total.{Total}
use Rattle.cube.specs.Measure.{Row, nothing}
use Rattle.cube.proofs.Codes.{length-cell}
use Rattle.rows.specs.Rows.{cut, row_at, row_total}
use Rattle.rows.specs.Slices.{codes, totals}
use Rattle.rows.proofs.Rows.{row-length}
use Rattle.rows_order.specs.Index.{key}
use Rattle.archive_entries.specs.Layout.{cell_bytes}
use Rattle.archive_entries.proofs.Lengths.{cell-length}
use Rattle.rows_slots.specs.Slots.{row_in}
use Rattle.rows_slots.specs.Summed.{plus_row}
use Rattle.rows_slots.proofs.Summing.{adding_none, adding_bounds, adding_on, adding_end, entry_named}
use Rattle.archive_cells.specs.Writing.{Writing}
use Rattle.archive_cells.specs.WritingLaws.{writing_none, writing_more, writing_room, writing_done, wrote_as}
use Rattle.archive_groups.specs.Masks.{masked, Mask}
use Rattle.archive_groups.specs.Groups.{Groupable, group_bytes}
use Rattle.archive_groups.proofs.Masks.{masked-key}
use Rattle.archive_groups.proofs.Left.{left, left_on, left_end, left-none}
use Rattle.archive_groups.proofs.put_groups.Goals as goal
use Rattle.archive_groups.proofs.put_groups.Goals.{After-row_in-row, After-codes_at-mine}

-- the row in hand
named : (c : goal.After-row_in-row) → c.row_in-row.result < c.args.rows.now.n
named c = rw c.row_in-row.ensures.0 (entry_named c.args.slot.now c.args.rows.now.n c.loop-e.e-index c.requires.groupable.names c.loop-e-test.true)

-- the group that ends here, and its bytes
abbrev ended : (c : goal.After-codes_at-mine) → Row Total
ended c =
    let a = c.args in
    let l = c.loop-e in
    let row = row_in (get_or a.slot.now l.e-index 0) in
    record { codes = key a.set (codes a.rows.now) row; total = plus_row (totals a.rows.now) l.total row }

writing : (c : goal.After-codes_at-mine) → let a = c.args in
    let l = c.loop-e in
    let keys = key a.set (codes a.rows.now) in
    Writing (group_bytes (totals a.rows.now) keys a.slot.now) (cell_bytes (ended c) ++ left (totals a.rows.now) keys a.slot.now nothing (l.e-index + 1)) a.out.now l.out l.at
writing c =
    let a = c.args in
    let l = c.loop-e in
    let keys = key a.set (codes a.rows.now) in
    rw (left_end (totals a.rows.now) keys a.slot.now l.total l.e-index c.loop-e-test.true (λ z. c.if-end_in-eq0.false (c.end_in.ensures.0 ∙ z))) at l.invariant.1

-- the cell has a code for each dimension
long : (c : goal.After-codes_at-mine) → length (cell_bytes (ended c)) ≡ 4 * c.args.rows.now.dims + 12
unfolding key
long c =
    let a = c.args in
    let l = c.loop-e in
    let row = row_in (get_or a.slot.now l.e-index 0) in
    let n = entry_named a.slot.now a.rows.now.n l.e-index c.requires.groupable.names c.loop-e-test.true in
    cell-length a.rows.now.dims (ended c) (length-cell a.set (row_at (codes a.rows.now) row) ∙ row-length a.rows.now.dims a.rows.now.n row a.rows.now.words.now n a.rows.now.whole)

-- there is room for it
room : (c : goal.After-codes_at-mine) → c.loop-e.at + (4 * c.args.rows.now.dims + 12) ≤ length c.loop-e.out
room c = omega (arith, long c, writing_room (cell_bytes (ended c)) _ (writing c) c.requires.slot_in_bounds)

-- the codes under the mask and the total in hand are that group
told : (d n s : ℕ) (ws slot m mine : List ℕ) (total t : Total) (i r : ℕ) → Groupable d n ws slot → i < length slot → Mask s m → r ≡ row_in (get_or slot i 0) → mine ≡ row_at (cut d n ws) r → t ≡ plus_row (row_total d n ws) total r
    → cell_bytes (record { codes = masked m mine; total = t }) ≡ cell_bytes (record { codes = key s (cut d n ws) (row_in (get_or slot i 0)); total = plus_row (row_total d n ws) total (row_in (get_or slot i 0)) })
told d n s ws slot m mine total t i r p h v e row sum =
    let codes =
    ap (masked m) row
    ∙ ap (λ (z : ℕ). masked m (row_at (cut d n ws) z)) e
    ∙ masked-key d n s (row_in (get_or slot i 0)) ws m p.dims p.valid v (entry_named slot n i p.names h) in
    ap₂ (λ (x : List ℕ) (t : Total). cell_bytes (record { codes = x; total = t })) codes (sum ∙ ap (plus_row (row_total d n ws) total) e)

pub loop-e-init : goal.loop-e-init
unfolding left group_bytes
loop-e-init c =
    let a = c.args in
    (adding_none (totals a.rows.now) (key a.set (codes a.rows.now)) a.slot.now c.requires.groupable.summable, writing_none _ _)

pub add_row-total-requires : goal.add_row-total-requires
add_row-total-requires c =
    let a = c.args in
    let p = c.requires.groupable in
    let l = c.loop-e in
    let h : l.e-index < length a.slot.now = c.loop-e-test.true in
    let n = entry_named a.slot.now a.rows.now.n l.e-index p.names h in
    let b = adding_bounds (totals a.rows.now) (key a.set (codes a.rows.now)) a.slot.now l.total l.e-index h l.invariant.0 in
    rw c.row_in-row.ensures.0 (n, b.0, b.1, b.2)

pub loop-e-preserved-then-end_in-eq0 : goal.loop-e-preserved-then-end_in-eq0
loop-e-preserved-then-end_in-eq0 c =
    let a = c.args in
    let l = c.loop-e in
    let keys = key a.set (codes a.rows.now) in
    let h : l.e-index < length a.slot.now = c.loop-e-test.true in
    rw (c.add_row-total.ensures, c.row_in-row.ensures.0) (
      adding_on (totals a.rows.now) keys a.slot.now l.total l.e-index h l.invariant.0,
      rw (left_on (totals a.rows.now) keys a.slot.now l.total l.e-index h (sym c.end_in.ensures.0 ∙ c.if-end_in-eq0.true)) at l.invariant.1,
    )

pub codes_at-mine-requires : goal.codes_at-mine-requires
codes_at-mine-requires c = named (goal.at.codes_at-mine-requires c).After-row_in-row

pub put_group-at-requires : goal.put_group-at-requires
put_group-at-requires c = (omega (arith, c.codes_at-mine.ensures.1, c.requires.groupable.dims), simp (length-take, length-drop) (omega (arith, c.codes_at-mine.ensures.1, room (goal.at.put_group-at-requires c).After-codes_at-mine)))

pub overflow_add-at : goal.overflow_add-at
overflow_add-at c =
    let a = c.args in
    let l = c.loop-e in
    let wrote = wrote_as (told a.rows.now.dims a.rows.now.n a.set a.rows.now.words.now a.slot.now c.mask_of-missing.result c.codes_at-mine.result.now l.total c.add_row-total.result l.e-index c.row_in-row.result c.requires.groupable c.loop-e-test.true c.mask_of-missing.ensures c.row_in-row.ensures.0 c.codes_at-mine.ensures.0 c.add_row-total.ensures) c.put_group-at.ensures in
    omega (arith, room (goal.at.overflow_add-at c).After-codes_at-mine, long (goal.at.overflow_add-at c).After-codes_at-mine, wrote.count)

pub loop-e-preserved : goal.loop-e-preserved
loop-e-preserved c =
    let a = c.args in
    let l = c.loop-e in
    let wrote = wrote_as (told a.rows.now.dims a.rows.now.n a.set a.rows.now.words.now a.slot.now c.mask_of-missing.result c.codes_at-mine.result.now l.total c.add_row-total.result l.e-index c.row_in-row.result c.requires.groupable c.loop-e-test.true c.mask_of-missing.ensures c.row_in-row.ensures.0 c.codes_at-mine.ensures.0 c.add_row-total.ensures) c.put_group-at.ensures in (
      adding_end (totals a.rows.now) (key a.set (codes a.rows.now)) a.slot.now l.total l.e-index c.loop-e-test.true l.invariant.0,
      writing_more (cell_bytes (ended (goal.at.loop-e-preserved c).After-codes_at-mine)) _ (writing (goal.at.loop-e-preserved c).After-codes_at-mine) wrote,
    )

pub returns : goal.returns
returns c =
    let a = c.args in
    let l = c.loop-e in
    writing_done (rw (left-none (totals a.rows.now) (key a.set (codes a.rows.now)) a.slot.now l.total l.e-index c.loop-e-test.false) at l.invariant.1)
