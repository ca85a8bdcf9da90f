-- `archive_normals::put_normals` meets its contract: the entry of an empty table, and those of the sets straight after it.
use mathlib.Core.Path.{◌≡◌, ap}
use mathlib.Core.List.{◌++◌}
use Prim.Native.Nat.{◌+◌, ◌≤◌}
use native.Mathlib.Omega.{arith}
use lib.ListN.{length, length-append, length-take, length-drop}
use Rattle.fields.specs.WrittenLaws.{wrote_then}
use Rattle.rows.specs.Slices.{held}
use Rattle.rows.proofs.Flat.{rows-length}
use Rattle.archive_cells.specs.WritingLaws.{wrote_as}
use Rattle.archive_normals.specs.Normals.{common_bytes, blank_bytes, normal_bytes}
use Rattle.archive_normals.proofs.Sections.{normal-parts}
use Rattle.archive_normals.proofs.put_normals.Goals as goal
use Rattle.archive_normals.proofs.put_normals.Goals.{Start}

-- the two parts as a whole, and that there is room for both
whole : (c : goal.Start) → (let a = c.args in
    let n = held a.rows.now in
    blank_bytes a.rows.now.dims a.rows.now.n ++ common_bytes a.rows.now.dims n ≡ normal_bytes a.rows.now.dims n)
whole c =
    let a = c.args in
    rw (rows-length a.rows.now.dims a.rows.now.n a.rows.now.words.now) at (normal-parts a.rows.now.dims (held a.rows.now))

room : (c : goal.Start) → (let a = c.args in
    length (blank_bytes a.rows.now.dims a.rows.now.n) + length (common_bytes a.rows.now.dims (held a.rows.now)) ≤ length a.out.now)
room c =
    let a = c.args in
    let n = held a.rows.now in
    omega (arith, c.requires.rows_in_bounds, ap length (whole c), length-append (blank_bytes a.rows.now.dims a.rows.now.n) (common_bytes a.rows.now.dims n))

pub put_blank-at-requires : goal.put_blank-at-requires
put_blank-at-requires c = (c.requires.grouped.ready.dims, omega (arith, room (goal.at.put_blank-at-requires c).Start))

pub slice_bounds-put_common-count : goal.slice_bounds-put_common-count
slice_bounds-put_common-count c = omega (arith, room (goal.at.slice_bounds-put_common-count c).Start, c.put_blank-at.ensures.count, c.put_blank-at.ensures.same)

pub slice_bounds-put_common-start : goal.slice_bounds-put_common-start
slice_bounds-put_common-start c = omega (arith, room (goal.at.slice_bounds-put_common-start c).Start, c.put_blank-at.ensures.count, c.put_blank-at.ensures.same)

pub put_common-requires-clause-rows_in_bounds : goal.put_common-requires-clause-rows_in_bounds
put_common-requires-clause-rows_in_bounds c = simp (length-take, length-drop) (omega (arith, room (goal.at.put_common-requires-clause-rows_in_bounds c).Start, c.put_blank-at.ensures.count, c.put_blank-at.ensures.same))

pub overflow_add-result : goal.overflow_add-result
overflow_add-result c = omega (arith, room (goal.at.overflow_add-result c).Start, c.put_blank-at.ensures.count, c.put_common.ensures.count)

pub returns : goal.returns
returns c = wrote_as (whole (goal.at.returns c).Start) (wrote_then c.put_blank-at.ensures c.put_common.ensures)
