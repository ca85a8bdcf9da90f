-- `archive_write::put_archive` meets its contract: five sections one straight after the other, and the check word of their bytes behind them.
use mathlib.Core.List.{flat_map}
use Prim.Native.Nat.{◌+◌, ◌≤◌}
use native.Mathlib.Omega.{arith}
use lib.ListN.{length, length-take, length-drop}
use Rattle.fields.specs.WrittenLaws.{wrote_then}
use Rattle.fields_check.specs.CheckLaws.{wrote_check}
use Rattle.fields_walk.proofs.Lengths.{length-header}
use Rattle.rows.specs.Slices.{held}
use Rattle.archive_entries.specs.Layout.{CUBE, base_bytes}
use Rattle.archive_cells.specs.WritingLaws.{wrote_as}
use Rattle.archive_bases.specs.Listed.{our_bases}
use Rattle.archive_normals.specs.Normals.{normal_bytes}
use Rattle.archive_write.proofs.Archive.{archive_parts, archive_sum, cells-few}
use Rattle.archive_write.proofs.put_archive.Goals as goal
use Rattle.archive_write.proofs.put_archive.Goals.{After-put_header-at}

-- there is room for the sections behind the header, and for those behind the base entries
room : (c : goal.After-put_header-at) → (let a = c.args in let r = a.rows.now in
    c.put_header-at.result + 4 + length (flat_map base_bytes (our_bases r.dims (held r))) + 4 + length (normal_bytes r.dims (held r)) + 4 ≤ length a.out.now)
room c =
    let zs = c.args.sizes.now in
    let p = c.requires in
    omega (arith, c.put_header-at.ensures.count, length-header CUBE zs, archive_sum zs p.rows_in_bounds.0 p.listed.0 p.listed.2, p.rows_in_bounds.1)

pub put_header-at-requires : goal.put_header-at-requires
put_header-at-requires c =
    let p = c.requires in
    let same = p.rows_in_bounds.0 in
    (omega (arith, same, p.listed.0.ready.dims), omega (arith, archive_sum c.args.sizes.now same p.listed.0 p.listed.2, p.rows_in_bounds.1))

pub slice_bounds-put_word-count : goal.slice_bounds-put_word-count
slice_bounds-put_word-count c = omega (arith, room (goal.at.slice_bounds-put_word-count c).After-put_header-at)

pub slice_bounds-put_word-start : goal.slice_bounds-put_word-start
slice_bounds-put_word-start c = omega (arith, room (goal.at.slice_bounds-put_word-start c).After-put_header-at)

pub put_word-at-requires : goal.put_word-at-requires
put_word-at-requires c = simp (length-take, length-drop) (omega (arith, room (goal.at.put_word-at-requires c).After-put_header-at))

pub overflow_add-at : goal.overflow_add-at
overflow_add-at c = omega (arith, room (goal.at.overflow_add-at c).After-put_header-at)

pub slice_bounds-put_bases-count : goal.slice_bounds-put_bases-count
slice_bounds-put_bases-count c = omega (arith, room (goal.at.slice_bounds-put_bases-count c).After-put_header-at)

pub slice_bounds-put_bases-start : goal.slice_bounds-put_bases-start
slice_bounds-put_bases-start c = omega (arith, room (goal.at.slice_bounds-put_bases-start c).After-put_header-at)

pub put_bases-at-requires-clause-rows_in_bounds : goal.put_bases-at-requires-clause-rows_in_bounds
put_bases-at-requires-clause-rows_in_bounds c = simp (length-take, length-drop) (omega (arith, room (goal.at.put_bases-at-requires-clause-rows_in_bounds c).After-put_header-at))

pub overflow_add-at-2 : goal.overflow_add-at-2
overflow_add-at-2 c = omega (arith, room (goal.at.overflow_add-at-2 c).After-put_header-at, c.put_bases-at.ensures.count)

pub slice_bounds-put_word-count-2 : goal.slice_bounds-put_word-count-2
slice_bounds-put_word-count-2 c = omega (arith, room (goal.at.slice_bounds-put_word-count-2 c).After-put_header-at, c.put_bases-at.ensures.count)

pub slice_bounds-put_word-start-2 : goal.slice_bounds-put_word-start-2
slice_bounds-put_word-start-2 c = omega (arith, room (goal.at.slice_bounds-put_word-start-2 c).After-put_header-at, c.put_bases-at.ensures.count)

pub overflow_cast-cells : goal.overflow_cast-cells
overflow_cast-cells c = let p = c.requires in omega (arith, cells-few c.args.sizes.now p.rows_in_bounds.0 p.listed.0 p.listed.2)

pub put_word-at-requires-2 : goal.put_word-at-requires-2
put_word-at-requires-2 c = simp (length-take, length-drop) (omega (arith, room (goal.at.put_word-at-requires-2 c).After-put_header-at, c.put_bases-at.ensures.count))

pub overflow_add-at-3 : goal.overflow_add-at-3
overflow_add-at-3 c = omega (arith, room (goal.at.overflow_add-at-3 c).After-put_header-at, c.put_bases-at.ensures.count)

pub slice_bounds-put_normals-count : goal.slice_bounds-put_normals-count
slice_bounds-put_normals-count c = omega (arith, room (goal.at.slice_bounds-put_normals-count c).After-put_header-at, c.put_bases-at.ensures.count)

pub slice_bounds-put_normals-start : goal.slice_bounds-put_normals-start
slice_bounds-put_normals-start c = omega (arith, room (goal.at.slice_bounds-put_normals-start c).After-put_header-at, c.put_bases-at.ensures.count)

pub put_normals-at-requires-clause-rows_in_bounds : goal.put_normals-at-requires-clause-rows_in_bounds
put_normals-at-requires-clause-rows_in_bounds c = simp (length-take, length-drop) (omega (arith, room (goal.at.put_normals-at-requires-clause-rows_in_bounds c).After-put_header-at, c.put_bases-at.ensures.count))

pub overflow_add-at-4 : goal.overflow_add-at-4
overflow_add-at-4 c = omega (arith, room (goal.at.overflow_add-at-4 c).After-put_header-at, c.put_bases-at.ensures.count, c.put_normals-at.ensures.count, c.well_formed)

pub put_check-requires : goal.put_check-requires
put_check-requires c = omega (arith, room (goal.at.put_check-requires c).After-put_header-at, c.put_bases-at.ensures.count, c.put_normals-at.ensures.count)

pub returns : goal.returns
returns c =
    let p = c.requires in
    let w = wrote_then (wrote_then (wrote_then (wrote_then c.put_header-at.ensures c.put_word-at.ensures) c.put_bases-at.ensures) c.put_word-at-2.ensures) c.put_normals-at.ensures in
    let r = c.put_check.ensures in
    wrote_as (archive_parts c.args.sizes.now p.rows_in_bounds.0 p.listed.0 p.listed.2) (wrote_check w r.0 (omega (arith, room (goal.at.returns c).After-put_header-at, c.put_bases-at.ensures.count, c.put_normals-at.ensures.count)) r.1)
