-- `rows_crowds::fill_first` meets its contract: all rows are one group, or one row is left out.
use mathlib.Core.Path.{◌≡◌, refl, sym, ◌∙◌}
use native.Mathlib.Omega.{arith}
use lib.ListN.{length}
use lib.Seq.{length-take-le}
use Rattle.rows_crowds.specs.Crowds.{left_out}
use Rattle.rows_crowds.proofs.Filling.{filled}
use Rattle.rows_crowds.proofs.fill_first.Goals as goal

pub slice_bounds-first_slot-end-6 : goal.slice_bounds-first_slot-end-6
slice_bounds-first_slot-end-6 c = sym (length-take-le 1024 c.args.store.now (omega (arith, c.requires.in_bounds.0)))

pub first_slot-done-requires-clause-order_len : goal.first_slot-done-requires-clause-order_len
first_slot-done-requires-clause-order_len c =
    let a = c.args in
    let few = c.requires.n_bound.0 in
    let p = c.requires.in_bounds in
    (length-take-le a.n a.order.now (omega (arith, few, p.2)), length-take-le a.n a.spare.now (omega (arith, few, p.3)), omega (arith, few, length-take-le 1024 a.store.now (omega (arith, p.0))), omega (arith, few, p.4))

pub returns : goal.returns
unfolding left_out
returns c =
    let a = c.args in
    let p = c.requires in
    let r = c.first_slot-done in
    let size : length r.new.slot ≡ 1024 = r.auto.slot ∙ length-take-le 1024 a.store.now (omega (arith, p.in_bounds.0)) in
    record {
      filled = filled a.least a.dims a.n a.rows.now a.store.now a.sizes.now r.new.slot 0 0 1024 r.result.len p.n_bound.0 (omega arith) p.in_bounds.0 p.in_bounds.1 refl size refl r.ensures.len_le_n.0 r.ensures.slot_after;
      lone_after = (r.ensures.lone_after, r.ensures.len_le_n.1);
    }
