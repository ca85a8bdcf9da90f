-- `family_slots::first_node` meets its contract: nothing tells the rows apart.
use mathlib.Core.Path.{◌≡◌, sym, ap, subst, ◌∙◌}
use mathlib.Core.List.{◌++◌}
use native.Mathlib.Omega.{arith}
use lib.ListN.{length, take, drop}
use lib.Seq.{length-take-le}
use Rattle.rows_deals.specs.Deals.{Zeros}
use Rattle.rows_order.proofs.Numbers.{numbers, numbers_length, numbered}
use Rattle.family_slots.proofs.Stacked.{started, front}
use Rattle.family_slots.proofs.first_node.Goals as goal

pub returns : goal.returns
returns c =
    let a = c.args in
    let p = c.requires in
    let l = c.number_rows.new.index in
    let m = c.clear.new.next in
    let s = c.fill_slot-left in
    let e : length l ≡ a.n = c.number_rows.ensures.0 ∙ length-take-le a.n a.order.now (omega (arith, p.n_bound.0, p.in_bounds.3)) in
    let f : length m ≡ a.n = c.clear.ensures.0 ∙ length-take-le a.n a.marks.now (omega (arith, p.n_bound.0, p.in_bounds.4)) in
    let rising : take a.n (l ++ drop a.n a.order.now) ≡ numbers a.n = front l (drop a.n a.order.now) a.n e ∙ numbered l a.n e c.number_rows.ensures.1 in
    let zeros : Zeros (take a.n (m ++ drop a.n a.marks.now)) = subst Zeros (sym (front m (drop a.n a.marks.now) a.n f)) c.clear.ensures.1 in (
      started (take a.n (m ++ drop a.n a.marks.now)) p.n_bound.0 p.n_bound.1 p.n_bound.2 p.n_bound.3 rising zeros s.ensures.put c.point_to.ensures s.ensures.lone_after.0,
      omega (arith, s.ensures.lone_after.1, ap length rising, numbers_length a.n),
    )
