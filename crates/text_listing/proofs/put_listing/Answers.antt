-- `text_listing::put_listing` meets its contract: D stands behind the opening, and the three parts are written one straight after the other.
use mathlib.Core.Path.{sym, subst, ◌∙◌}
use mathlib.Core.List.{List, flat_map, append_assoc}
use Prim.Native.Nat.{ℕ, ◌+◌, ◌≤◌}
use native.Mathlib.Omega.{arith}
use borrow.Author.Rules.{rules}
use lib.ListN.{length, get_or, length-take, length-drop}
use mir.Val.{Fits}
use mir.Syntax.{w8}
use Rattle.fields_walk.specs.Limits.{Bytes}
use Rattle.fields_walk.proofs.Limits.{bytes_of}
use Rattle.fields.specs.WrittenLaws.{wrote_then}
use Rattle.archive_cells.specs.WritingLaws.{wrote_as}
use Rattle.archive_entries.specs.Reading.{read_archive}
use Rattle.text_lines.specs.Lines.{head_text, base_text, cell_text}
use Rattle.text_listing.specs.Listing.{held_by, Accepted}
use Rattle.text_listing.proofs.Places.{dims_there, whole, listing-parts, listing-length}
use Rattle.text_listing.proofs.put_listing.Goals as goal
use Rattle.text_listing.proofs.put_listing.Goals.{After-word_at-dims}

are-bytes : (s : List ℕ) → ((i : ℕ) → Fits w8 (get_or s i 0)) → Bytes s
are-bytes s t = bytes_of s (λ i. omega (arith, t i))

-- the archive, with the D that was read
known : (c : goal.After-word_at-dims) → Bytes c.args.s.now → Accepted c.args.s.now c.word_at-dims.result c.args.bases c.args.cells
known c b =
    let a = c.args in
    let x = c.requires.by_index.1 in
    subst (λ (d : ℕ). Accepted a.s.now d a.bases a.cells) (dims_there b x ∙ sym c.word_at-dims.ensures) x

-- there is room for the three parts
room : (c : goal.After-word_at-dims) → Bytes c.args.s.now
    → let a = c.args in let h = held_by (read_archive a.s.now) in length (head_text c.word_at-dims.result a.bases a.cells) + length (flat_map base_text h.bases) + length (flat_map cell_text h.cells) ≤ length a.out.now
room c b = omega (arith, listing-length b (known c b), c.requires.s_in_bounds)

pub word_at-dims-requires : goal.word_at-dims-requires
word_at-dims-requires c = search (rules, whole (are-bytes c.args.s.now c.type_inv.s) c.requires.by_index.1)

pub put_head-done-requires : goal.put_head-done-requires
put_head-done-requires c = search (rules, room (goal.at.put_head-done-requires c).After-word_at-dims (are-bytes c.args.s.now c.type_inv.s))

pub slice_bounds-put_bases-count : goal.slice_bounds-put_bases-count
slice_bounds-put_bases-count c = search (rules, room (goal.at.slice_bounds-put_bases-count c).After-word_at-dims (are-bytes c.args.s.now c.type_inv.s))

pub slice_bounds-put_bases-start : goal.slice_bounds-put_bases-start
slice_bounds-put_bases-start c = search (rules, room (goal.at.slice_bounds-put_bases-start c).After-word_at-dims (are-bytes c.args.s.now c.type_inv.s))

pub put_bases-done-requires : goal.put_bases-done-requires
put_bases-done-requires c =
    record { by_index = (_, known (goal.at.put_bases-done-requires c).After-word_at-dims (are-bytes c.args.s.now c.type_inv.s)); s_in_bounds = simp (length-take, length-drop) (omega (arith, room (goal.at.put_bases-done-requires c).After-word_at-dims (are-bytes c.args.s.now c.type_inv.s), c.put_head-done.ensures.count, c.put_head-done.ensures.same)) }

pub overflow_add-done : goal.overflow_add-done
overflow_add-done c = search (rules, room (goal.at.overflow_add-done c).After-word_at-dims (are-bytes c.args.s.now c.type_inv.s))

pub slice_bounds-put_cells-count : goal.slice_bounds-put_cells-count
slice_bounds-put_cells-count c = search (rules, room (goal.at.slice_bounds-put_cells-count c).After-word_at-dims (are-bytes c.args.s.now c.type_inv.s))

pub slice_bounds-put_cells-start : goal.slice_bounds-put_cells-start
slice_bounds-put_cells-start c = search (rules, room (goal.at.slice_bounds-put_cells-start c).After-word_at-dims (are-bytes c.args.s.now c.type_inv.s))

pub put_cells-requires : goal.put_cells-requires
put_cells-requires c =
    let head = c.put_head-done.ensures in
    let bases = c.put_bases-done.ensures in
    record { by_index = (_, known (goal.at.put_cells-requires c).After-word_at-dims (are-bytes c.args.s.now c.type_inv.s)); s_in_bounds = simp (length-take, length-drop) (omega (arith, room (goal.at.put_cells-requires c).After-word_at-dims (are-bytes c.args.s.now c.type_inv.s), head.count, head.same, bases.count, bases.same)) }

pub overflow_add-result : goal.overflow_add-result
overflow_add-result c =
    let head = c.put_head-done.ensures in
    let bases = c.put_bases-done.ensures in
    let cells = c.put_cells.ensures in
    omega (arith, room (goal.at.overflow_add-result c).After-word_at-dims (are-bytes c.args.s.now c.type_inv.s), head.count, bases.count, cells.count)

pub returns : goal.returns
returns c =
    let head = c.put_head-done.ensures in
    let bases = c.put_bases-done.ensures in
    let cells = c.put_cells.ensures in
    wrote_as (sym (listing-parts (are-bytes c.args.s.now c.type_inv.s) (known (goal.at.returns c).After-word_at-dims (are-bytes c.args.s.now c.type_inv.s)))) (rw append_assoc at (wrote_then (wrote_then head bases) cells))
