-- `family_condense::list_node` meets its contract: the rows that come out alone are those whose list has the node.
use mathlib.Core.Path.{sym, subst, ◌∙◌}
use lib.ListN.{length}
use mathlib.Core.List.{List}
use Prim.Native.Nat.{ℕ, ◌≤◌}
use native.Mathlib.Omega.{arith}
use lib.Seq.{length-take-le}
use Rattle.rows_deals.specs.Deals.{Names}
use Rattle.family_slots.proofs.Stacked.{tall}
use Rattle.family_condense.proofs.Alone.{alone-sound}
use Rattle.family_condense.proofs.Taking.{next-taken, new-names, here-few, here-groups}
use Rattle.family_condense.proofs.list_node.Goals as goal
use Rattle.family_condense.proofs.list_node.Goals.{After-next_node-left}

-- the rows that come out alone
few : (c : After-next_node-left) → c.next_node-left.result ≤ length c.next_node-left.new.lone
few c = omega (arith, c.next_node-left.ensures.lone_after.1, c.requires.n_bound.0, c.next_node-left.auto.lone, c.requires.in_bounds.5)

pub next_node-left-requires-clause-stack : goal.next_node-left-requires-clause-stack
next_node-left-requires-clause-stack c =
    let p = c.requires in
    (p.stack.0, alone-sound (tall p.n_bound.1) p.n_bound.2 p.n_bound.5 p.stack.1 c.pass_over.new.passed c.pass_over.ensures.1)

pub slice_bounds-take_in-end : goal.slice_bounds-take_in-end
slice_bounds-take_in-end c = few (goal.at.slice_bounds-take_in-end c).After-next_node-left

pub slice_bounds-take_in-end-2 : goal.slice_bounds-take_in-end-2
slice_bounds-take_in-end-2 c = sym (length-take-le c.next_node-left.result c.next_node-left.new.lone (few (goal.at.slice_bounds-take_in-end-2 c).After-next_node-left))

pub take_in-requires : goal.take_in-requires
take_in-requires c =
    let p = c.requires in
    let r = c.pass_over in (
      subst (λ (l : List ℕ). Names l 1024) (sym c.next_node-left.ensures.lone_after.0) (new-names p.n_bound.0 p.n_bound.1 p.n_bound.2 p.n_bound.5 p.stack.1 r.new.passed r.ensures.1),
      omega (arith, p.n_bound.2, p.n_bound.1.few),
      r.ensures.0,
      p.in_bounds_2.0,
      p.in_bounds_2.2,
    )

pub count_here-requires : goal.count_here-requires
count_here-requires c =
    let p = c.requires in
    let r = c.next_node-left in
    let h = here-few p.n_bound.0 p.n_bound.1 r.ensures.stack_2 in
    (omega (arith, p.in_bounds.0, r.auto.store), omega (arith, p.in_bounds.1, r.auto.sizes), omega (arith, p.in_bounds.2, r.auto.at), h.0, h.1)

pub returns-clause-known : goal.returns-clause-known
returns-clause-known c =
    let p = c.requires in
    let s = c.next_node-left.ensures in
    let r = next-taken p.n_bound.1 c.take_in.ensures p.n_bound.2 p.n_bound.5 p.stack.1 p.stack.2 s.lone_after.0 c.pass_over.ensures.1 in
    (r.0, r.1, c.count_here.ensures ∙ here-groups p.n_bound.0 p.n_bound.1 s.stack_2)
