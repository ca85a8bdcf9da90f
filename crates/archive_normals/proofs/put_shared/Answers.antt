-- `archive_normals::put_shared` meets its contract: the groups of the set's slot are written.
use mathlib.Core.Path.{ap}
use native.Mathlib.Omega.{arith}
use lib.ListN.{length}
use Rattle.archive_cells.specs.WritingLaws.{wrote_as}
use Rattle.archive_normals.proofs.Slotted.{slot_groupable, slot-bytes}
use Rattle.archive_normals.proofs.put_shared.Goals as goal

pub put_groups-requires : goal.put_groups-requires
put_groups-requires c =
    let p = c.requires in
    record { groupable = slot_groupable p.grouped.0 p.grouped.1 c.slot_of-slot.ensures; slot_in_bounds = omega (arith, ap length (slot-bytes p.grouped.0 p.grouped.1 c.slot_of-slot.ensures), p.set_in_bounds) }

pub returns : goal.returns
returns c = wrote_as (slot-bytes c.requires.grouped.0 c.requires.grouped.1 c.slot_of-slot.ensures) c.put_groups.ensures
