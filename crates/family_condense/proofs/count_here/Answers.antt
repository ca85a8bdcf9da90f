-- `family_condense::count_here` meets its contract.
use mathlib.Core.Path.{ap, ◌∙◌}
use Prim.Native.Nat.{◌*◌}
use native.Mathlib.Omega.{arith}
use lib.ListN.{length, get_or, drop, length-take}
use Rattle.rows_crowds.specs.Crowds.{ends}
use Rattle.family_condense.proofs.count_here.Goals as goal

pub count_groups-requires : goal.count_groups-requires
count_groups-requires c =
    let a = c.args in
    let k = get_or a.at.now 0 0 in
    omega (arith, ap length c.node_slot-slot.ensures, length-take (get_or a.sizes.now k 0) (drop (k * 1024) a.store.now), c.requires.4)

pub returns : goal.returns
returns c = c.count_groups.ensures ∙ ap ends c.node_slot-slot.ensures
