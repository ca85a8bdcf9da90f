-- `archive_bases::put_bases` meets its contract. The invariant: the entries from a row on are left to write.
use mathlib.Core.Path.{◌≡◌, ap, ap₂, ◌∙◌}
use Prim.Native.Nat.{◌+◌, ◌≤◌}
use native.Mathlib.Omega.{arith}
use lib.ListN.{length, length-take, length-drop}
use Rattle.rows.specs.Slices.{held}
use Rattle.rows_lists.proofs.Lists.{list_length}
use Rattle.archive_entries.specs.Layout.{base_bytes}
use Rattle.archive_cells.specs.WritingLaws.{writing_none, wrote_as}
use Rattle.archive_bases.specs.Listed.{base_of, our_base}
use Rattle.archive_bases.proofs.Bases.{base-made, base-bytes}
use Rattle.archive_bases.proofs.Loops.{write_room, write_more, write_done}
use Rattle.archive_bases.proofs.put_bases.Goals as goal
use Rattle.archive_bases.proofs.put_bases.Goals.{In-loop-row, After-list_of-list}

-- there is room for one more entry
room : (c : In-loop-row) → (let r = c.args.rows.now in let l = c.loop-row in l.at + length (base_bytes (our_base r.dims (held r) l.row)) ≤ length l.out)
room c = write_room c.requires.listed c.loop-row.row c.loop-row.invariant c.loop-row-test.true c.requires.rows_in_bounds

-- the words and the list in hand make it
made : (c : After-list_of-list) → (let r = c.args.rows.now in base_bytes (base_of r.dims c.words_at-mine.result.now c.list_of-list.result.now) ≡ base_bytes (our_base r.dims (held r) c.loop-row.row))
made c =
    let d = c.args.rows.now.dims in
    ap base_bytes (ap₂ (base_of d) c.words_at-mine.ensures.0 c.list_of-list.ensures ∙ base-made c.requires.listed c.loop-row.row c.loop-row-test.true)

pub loop-row-init : goal.loop-row-init
loop-row-init c = writing_none _ _

pub put_base-at-requires : goal.put_base-at-requires
put_base-at-requires c =
    let p = c.requires.listed in
    let row = c.loop-row.row in
    let h = c.loop-row-test.true in
    let sets = ap length c.list_of-list.ensures ∙ list_length c.args.rows.now.n row c.args.lists.now h p.room p.short in
    (omega (arith, sets, p.short row h), simp (length-take, length-drop) (omega (arith, sets, base-bytes p row h, c.words_at-mine.ensures.1, room (goal.at.put_base-at-requires c).In-loop-row)))

pub overflow_add-at : goal.overflow_add-at
overflow_add-at c =
    let wrote = wrote_as (made (goal.at.overflow_add-at c).After-list_of-list) (c.put_base-at.ensures c.args.rows.now.dims (omega (arith, c.words_at-mine.ensures.1))) in
    omega (arith, room (goal.at.overflow_add-at c).In-loop-row, wrote.count)

pub loop-row-preserved : goal.loop-row-preserved
loop-row-preserved c =
    let wrote = wrote_as (made (goal.at.loop-row-preserved c).After-list_of-list) (c.put_base-at.ensures c.args.rows.now.dims (omega (arith, c.words_at-mine.ensures.1))) in
    write_more c.requires.listed c.loop-row.row c.loop-row.invariant c.loop-row-test.true wrote

pub returns : goal.returns
returns c = write_done c.requires.listed c.loop-row.row c.loop-row.invariant c.loop-row-test.false
