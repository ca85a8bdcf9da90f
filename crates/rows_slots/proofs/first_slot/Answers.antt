-- `rows_slots::first_slot` meets its contract: nothing tells the rows apart.
use mathlib.Core.Path.{ap, ◌∙◌}
use mathlib.Core.Bool.{true}
use Rattle.rows_order.proofs.Numbers.{numbered}
use Rattle.rows_slots.specs.Slots.{code_in, slot_from, lone_from}
use Rattle.rows_slots.proofs.Whole.{slot-none, lone-none}
use Rattle.rows_slots.proofs.first_slot.Goals as goal

pub returns-clause-slot_after : goal.returns-clause-slot_after
returns-clause-slot_after c =
    let a = c.args in
    let p = c.requires in
    let o = c.number_rows.ensures in
    let column = c.clear.new.next in
    c.pack_groups.ensures.slot_after ∙ ap (slot_from (code_in column) a.least true) (numbered c.number_rows.new.index a.n (o.0 ∙ p.order_len.0) o.1)
    ∙ slot-none a.dims a.n a.rows.now column p.n_bound.3 a.least p.n_bound.1 p.n_bound.2 c.clear.ensures.1

pub returns-clause-lone_after : goal.returns-clause-lone_after
returns-clause-lone_after c =
    let a = c.args in
    let p = c.requires in
    let o = c.number_rows.ensures in
    let column = c.clear.new.next in
    c.pack_groups.ensures.lone_after ∙ ap (lone_from (code_in column) a.least true) (numbered c.number_rows.new.index a.n (o.0 ∙ p.order_len.0) o.1)
    ∙ lone-none a.dims a.n a.rows.now column p.n_bound.3 a.least p.n_bound.1 p.n_bound.2 c.clear.ensures.1
