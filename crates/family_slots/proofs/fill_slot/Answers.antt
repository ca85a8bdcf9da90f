-- `family_slots::fill_slot` meets its contract: what is packed stands in the slot, and its length among the sizes.
use mathlib.Core.Path.{◌≡◌, refl, ◌∙◌}
use mathlib.Core.Bool.{true}
use Prim.Native.Nat.{◌+◌, ◌-◌, ◌*◌}
use native.Mathlib.Omega.{arith}
use borrow.Rule.Slice.PartMut.{mid_len}
use lib.ListN.{length}
use Rattle.rows_slots.specs.Slots.{code_in, slot_from}
use Rattle.family_slots.proofs.Stacked.{written}
use Rattle.family_slots.proofs.fill_slot.Goals as goal

pub returns-clause-put : goal.returns-clause-put
returns-clause-put c =
    let a = c.args in
    let p = c.requires in
    let r = c.pack_groups-done in
    let w : a.k * 1024 + 1024 - a.k * 1024 ≡ 1024 = omega arith in
    let len : length r.new.slot ≡ a.k * 1024 + 1024 - a.k * 1024 = r.auto.slot ∙ mid_len (a.k * 1024) (a.k * 1024 + 1024) a.store.now (omega (arith, p.order_len_bound.3, p.in_bounds.0)) in
    written (slot_from (code_in a.marks.now) a.least true a.order.now) a.store.now a.sizes.now r.new.slot a.k (a.k * 1024) (a.k * 1024 + 1024 - a.k * 1024) r.result.len p.order_len_bound.3 p.in_bounds.0 p.in_bounds.1 refl len w
    (omega (arith, r.ensures.len_in_bounds.0, p.order_len_bound.0)) r.ensures.slot_after
