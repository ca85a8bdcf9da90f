-- `archive_normals::match_shared` meets its contract: the groups of the set's slot are compared.
use Rattle.archive_compare.specs.MatchedLaws.{matched_as}
use Rattle.archive_normals.proofs.Slotted.{slot_groupable, slot-bytes}
use Rattle.archive_normals.proofs.match_shared.Goals as goal

pub match_groups-requires : goal.match_groups-requires
match_groups-requires c = let p = c.requires in (slot_groupable p.0 p.1 c.slot_of-slot.ensures, p.2)

pub returns : goal.returns
returns c = matched_as (slot-bytes c.requires.0 c.requires.1 c.slot_of-slot.ensures) c.match_groups.ensures
