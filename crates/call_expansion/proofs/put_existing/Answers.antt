-- `call_expansion::put_existing` meets its contract: the groups of the slot, or the cell of an empty table.
use mathlib.Core.Path.{◌≡◌, sym, ap, ◌∙◌}
use mathlib.Core.List.{List, [], flat_map}
use native.Mathlib.Omega.{arith}
use lib.ListN.{length}
use Rattle.fields.specs.WrittenLaws.{wrote_none}
use Rattle.cube.specs.declared.Total.{Total}
use Rattle.cube.specs.Measure.{Row, sums as measure}
use Rattle.cube.specs.Codes.{plain}
use Rattle.cube.specs.Cube.{cells}
use Rattle.rows.specs.Slices.{held}
use Rattle.archive_entries.specs.Layout.{cell_bytes}
use Rattle.archive_cells.specs.WritingLaws.{wrote_as}
use Rattle.archive_groups.proofs.Groupable.{groupable}
use Rattle.call_cuboids.proofs.Lengths.{blank_elsewhere, blank-bytes, blank-length}
use Rattle.call_expansion.proofs.Slots.{slot-bytes, blank-cells}
use Rattle.call_expansion.proofs.put_existing.Goals as goal
use Rattle.call_expansion.proofs.put_existing.Goals.{Else-set-ne0}

-- the cell of an empty table
blank : (c : goal.Else-set-ne0) → let a = c.args in cells (plain a.rows.now.dims) measure [] 0 ≡ cells (plain a.rows.now.dims) measure (held a.rows.now) a.set
blank c =
    let a = c.args in
    let p = c.requires.ready in
    ap (cells (plain a.rows.now.dims) measure []) (sym c.if-set-ne0.false) ∙ blank-cells p.0 a.set p.1 c.if-rows-ne0.false

pub put_groups-requires : goal.put_groups-requires
put_groups-requires c =
    let a = c.args in
    let p = c.requires in
    record { groupable = groupable p.ready.0 1 a.set a.slot.now p.ready.1; slot_in_bounds = omega (arith, ap length (slot-bytes p.ready.0 a.set p.ready.1 c.if-rows-ne0.true), p.set_in_bounds) }

pub returns-then-rows-ne0 : goal.returns-then-rows-ne0
returns-then-rows-ne0 c = let p = c.requires in wrote_as (slot-bytes p.ready.0 c.args.set p.ready.1 c.if-rows-ne0.true) c.put_groups.ensures

pub returns-then-set-ne0 : goal.returns-then-set-ne0
unfolding flat_map
returns-then-set-ne0 c =
    let a = c.args in
    let p = c.requires.ready in
    wrote_as (ap (flat_map cell_bytes) (blank_elsewhere a.rows.now.dims a.set c.if-set-ne0.true ∙ blank-cells p.0 a.set p.1 c.if-rows-ne0.false)) (wrote_none _)

pub put_blank-requires : goal.put_blank-requires
put_blank-requires c =
    let p = c.requires in
    (p.ready.0.dims, omega (arith, p.set_in_bounds, ap (λ (l : List (Row Total)). length (flat_map cell_bytes l)) (blank (goal.at.put_blank-requires c).Else-set-ne0), blank-length c.args.rows.now.dims))

pub returns : goal.returns
returns c = wrote_as (sym (blank-bytes _) ∙ ap (flat_map cell_bytes) (blank (goal.at.returns c).Else-set-ne0)) c.put_blank.ensures
