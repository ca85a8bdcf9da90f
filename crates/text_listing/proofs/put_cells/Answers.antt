-- `text_listing::put_cells` meets its contract: what is left to be cut are normal entries, and all lines but theirs are written.
use Rattle.std.specs.declared.slice.ChunksExact.{ChunksExact}
use mathlib.Core.Path.{◌≡◌, sym, ap, subst, ◌∙◌}
use mathlib.Core.List.{List, [], flat_map, append-nil}
use Prim.Native.Nat.{ℕ, ◌+◌, ◌-◌, ◌*◌, ◌≤◌}
use native.Mathlib.Omega.{arith}
use borrow.Author.Rules.{rules}
use borrow.Rule.Slice.PartMut.{mid_of}
use lib.ListN.{length, get_or, length-take, length-drop}
use mir.Syntax.{w8}
use mir.Val.{Fits}
use Rattle.fields.specs.Written.{Wrote}
use Rattle.fields_walk.specs.Limits.{Bytes}
use Rattle.fields_walk.proofs.Limits.{bytes_of}
use Rattle.cube.specs.declared.Total.{Total}
use Rattle.cube.specs.Measure.{Row}
use Rattle.archive_entries.specs.Layout.{cell_bytes}
use Rattle.archive_entries.specs.Places.{row_there}
use Rattle.archive_entries.specs.Reading.{read_archive}
use Rattle.archive_entries.proofs.Lengths.{cell-length}
use Rattle.archive_entries.proofs.There.{cell_there}
use Rattle.text_lines.specs.Lines.{cell_text}
use Rattle.text_listing.specs.Listing.{held_by}
use Rattle.text_listing.proofs.Fits.{RowFits}
use Rattle.text_listing.proofs.Cuts.{Next, cut_next, cut_on, cut_room, cut-done}
use Rattle.text_listing.proofs.Places.{cells-cut, whole}
use Rattle.text_listing.proofs.put_cells.Goals as goal
use Rattle.text_listing.proofs.put_cells.Goals.{In-Some}

are-bytes : (s : List ℕ) → ((i : ℕ) → Fits w8 (get_or s i 0)) → Bytes s
are-bytes s t = bytes_of s (λ i. omega (arith, t i))

width : (d : ℕ) (r : Row Total) → RowFits d r → length (cell_bytes r) ≡ 4 * d + 12
width d r f = cell-length d r f.0.0

-- the bytes that are cut off are an entry's, which is read there
module _ (c : goal.In-Some) where
  abbrev d : ℕ
  d = c.args.dims

  next : Next cell_bytes cell_text (RowFits d) c.in-Some.bytes.now c.next.new.self.rest.now (flat_map cell_text (held_by (read_archive c.args.s.now)).cells) c.args.out.now c.loop-bytes.out c.loop-bytes.done
  next = let step = c.in-Some.ensures.steps in
      cut_next cell_bytes cell_text (RowFits d) (4 * d + 12) (omega arith) (width d) c.loop-bytes.invariant.1 c.in-Some.bytes.now c.next.new.self.rest.now step.1.0 (omega (arith, step.1.1, c.loop-bytes.invariant.0))

  read : row_there c.in-Some.bytes.now d 0 ≡ next.thing
  read = cell_there c.in-Some.bytes.now d next.thing next.known 0 [] (omega arith) (next.is ∙ sym (append-nil (cell_bytes next.thing)))

  room : c.loop-bytes.done + length (cell_text (row_there c.in-Some.bytes.now d 0)) ≤ length c.loop-bytes.out
  room = rw read (cut_room cell_bytes cell_text (RowFits d) next c.requires.s_in_bounds)

pub overflow_mul-width : goal.overflow_mul-width
overflow_mul-width c = search (rules, whole (are-bytes c.args.s.now c.type_inv.s) c.requires.by_index.1)

pub overflow_add-width : goal.overflow_add-width
overflow_add-width c = search (rules, whole (are-bytes c.args.s.now c.type_inv.s) c.requires.by_index.1)

pub overflow_sub-end : goal.overflow_sub-end
overflow_sub-end c = search (rules, whole (are-bytes c.args.s.now c.type_inv.s) c.requires.by_index.1)

pub overflow_mul-cells : goal.overflow_mul-cells
overflow_mul-cells c = search (rules, whole (are-bytes c.args.s.now c.type_inv.s) c.requires.by_index.1)

pub overflow_sub-end-2 : goal.overflow_sub-end-2
overflow_sub-end-2 c = search (rules, whole (are-bytes c.args.s.now c.type_inv.s) c.requires.by_index.1)

pub loop-bytes-init : goal.loop-bytes-init
loop-bytes-init c =
    let a = c.args in
    let t = are-bytes a.s.now c.type_inv.s in
    let room = whole t c.requires.by_index.1 in
    let e = ap (λ (i : ChunksExact ℕ). i.rest.now) c.into_iter-bytes-iterator.ensures.into_iter_gives ∙ c.chunks_exact-bytes-items.ensures.rest in
    (search rules, cells-cut t c.requires.by_index.1 a.out.now e (omega (arith, room)) (omega (arith, room)))

pub put_cell-done-requires-clause-at_in_bounds : goal.put_cell-done-requires-clause-at_in_bounds
put_cell-done-requires-clause-at_in_bounds c = simp (length-take, length-drop) (omega (arith, room (goal.at.put_cell-done-requires-clause-at_in_bounds c).In-Some))

pub overflow_add-done : goal.overflow_add-done
overflow_add-done c = search (rules, room (goal.at.overflow_add-done c).In-Some)

pub loop-bytes-preserved : goal.loop-bytes-preserved
loop-bytes-preserved c =
    let s = (goal.at.loop-bytes-preserved c).In-Some in
    let l = c.loop-bytes in
    (search rules, cut_on cell_bytes cell_text (RowFits c.args.dims) (next s) (subst (λ (r : Row Total). Wrote (cell_text r) (mid_of l.done (length l.out - l.done) l.out) c.put_cell-done.new.out c.put_cell-done.result) (read s) c.put_cell-done.ensures))

pub returns : goal.returns
returns c =
    let d = c.args.dims in
    cut-done cell_bytes cell_text (RowFits d) (4 * d + 12) (omega arith) (width d) c.loop-bytes.invariant.1 (omega (arith, c.in-None.ensures.steps.1.0, c.loop-bytes.invariant.0))
