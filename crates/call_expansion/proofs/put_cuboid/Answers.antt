-- `call_expansion::put_cuboid` meets its contract: how many cells the slot tells, and these straight after.
use mathlib.Core.Path.{◌≡◌, ap, ◌∙◌}
use mathlib.Core.List.{flat_map, ◌++◌}
use Prim.Native.Nat.{ℕ, ◌+◌, ◌≤◌}
use native.Mathlib.Omega.{arith}
use lib.ListN.{length, length-append, length-take, length-drop}
use Rattle.fields.specs.Words.{word_bytes}
use Rattle.fields.specs.WrittenLaws.{wrote_then}
use Rattle.cube.specs.Measure.{sums as measure}
use Rattle.cube.specs.Codes.{plain}
use Rattle.cube.specs.Cube.{cells}
use Rattle.rows.specs.Slices.{held}
use Rattle.archive_entries.specs.Layout.{cell_bytes}
use Rattle.archive_cells.specs.WritingLaws.{wrote_as}
use Rattle.call_cuboids.specs.Cuboids.{cuboid_bytes}
use Rattle.call_expansion.proofs.Slots.{slot_is, slot-count, cells-few}
use Rattle.call_expansion.proofs.put_cuboid.Goals as goal
use Rattle.call_expansion.proofs.put_cuboid.Goals.{After-count_cells-count}

-- the count, and the parts
count : (c : goal.After-count_cells-count) → (let a = c.args in c.count_cells-count.result ≡ length (cells (plain a.rows.now.dims) measure (held a.rows.now) a.set))
count c =
    let a = c.args in
    let p = c.requires.slotted in
    c.count_cells-count.ensures ∙ slot-count a.rows.now.dims a.rows.now.n p.0.ready a.set (slot_is p.0 p.1 c.slot_of-slot.ensures)

whole : (c : goal.After-count_cells-count) → (let a = c.args in let rows = held a.rows.now in
    word_bytes c.count_cells-count.result ++ flat_map cell_bytes (cells (plain a.rows.now.dims) measure rows a.set) ≡ cuboid_bytes a.rows.now.dims rows a.set)
unfolding cuboid_bytes
whole c =
    let a = c.args in
    let rows = held a.rows.now in
    ap (λ (k : ℕ). word_bytes k ++ flat_map cell_bytes (cells (plain a.rows.now.dims) measure rows a.set)) (count c)

room : (c : goal.After-count_cells-count) → (let a = c.args in let rows = held a.rows.now in
    4 + length (flat_map cell_bytes (cells (plain a.rows.now.dims) measure rows a.set)) ≤ length a.out.now)
room c =
    let a = c.args in
    let rows = held a.rows.now in
    omega (arith, ap length (whole c), length-append (word_bytes c.count_cells-count.result) (flat_map cell_bytes (cells (plain a.rows.now.dims) measure rows a.set)), c.requires.set_in_bounds)

pub overflow_cast-count : goal.overflow_cast-count
overflow_cast-count c = let p = c.requires.slotted in omega (arith, c.count_cells-count.ensures, cells-few p.0 p.1 c.slot_of-slot.ensures)

pub put_word-at-requires : goal.put_word-at-requires
put_word-at-requires c = omega (arith, room (goal.at.put_word-at-requires c).After-count_cells-count)

pub slice_bounds-put_existing-count : goal.slice_bounds-put_existing-count
slice_bounds-put_existing-count c = omega (arith, room (goal.at.slice_bounds-put_existing-count c).After-count_cells-count, c.put_word-at.ensures.count, c.put_word-at.ensures.same)

pub slice_bounds-put_existing-start : goal.slice_bounds-put_existing-start
slice_bounds-put_existing-start c = omega (arith, room (goal.at.slice_bounds-put_existing-start c).After-count_cells-count, c.put_word-at.ensures.count, c.put_word-at.ensures.same)

pub put_existing-requires-clause-set_in_bounds : goal.put_existing-requires-clause-set_in_bounds
put_existing-requires-clause-set_in_bounds c = simp (length-take, length-drop) (omega (arith, room (goal.at.put_existing-requires-clause-set_in_bounds c).After-count_cells-count, c.put_word-at.ensures.count, c.put_word-at.ensures.same))

pub overflow_add-result : goal.overflow_add-result
overflow_add-result c = omega (arith, room (goal.at.overflow_add-result c).After-count_cells-count, c.put_word-at.ensures.count, c.put_existing.ensures.count)

pub returns : goal.returns
returns c = wrote_as (whole (goal.at.returns c).After-count_cells-count) (wrote_then c.put_word-at.ensures c.put_existing.ensures)
