-- `family_condense::start_nodes` meets its contract: at the node of the highest number, a row that comes out alone is the only one.
use mathlib.Core.Path.{◌≡◌, sym, subst, ◌∙◌}
use mathlib.Core.List.{List}
use Prim.Native.Nat.{ℕ, ◌-◌, ◌≤◌}
use native.Mathlib.Omega.{arith}
use lib.ListN.{length}
use lib.Seq.{length-take-le}
use Rattle.rows_deals.specs.Deals.{Names}
use Rattle.rows_alone.proofs.Words.{cleared_none}
use Rattle.family_nodes.specs.Nodes.{node_count}
use Rattle.family_slots.specs.Slots.{node_key, Stack}
use Rattle.family_condense.proofs.Taking.{first_taken, loners-names, here-few, here-groups}
use Rattle.family_condense.proofs.start_nodes.Goals as goal
use Rattle.family_condense.proofs.start_nodes.Goals.{After-first_node-left}

-- the slots are those of the node
stack : (c : After-first_node-left) → let a = c.args in Stack 2 a.n a.columns.now a.heights.now a.node c.first_node-left.new.store c.first_node-left.new.sizes c.first_node-left.new.at
stack c =
    let a = c.args in
    let r = c.first_node-left in
    let e : node_count a.heights.now - 1 ≡ a.node = omega (arith, c.requires.n_bound.2) in
    subst (λ (m : ℕ). Stack 2 a.n a.columns.now a.heights.now m r.new.store r.new.sizes r.new.at) e (r.ensures.0.stack a.columns.now)

few : (c : After-first_node-left) → c.first_node-left.result ≤ length c.first_node-left.new.lone
few c = omega (arith, c.first_node-left.ensures.1, c.requires.n_bound.0, c.first_node-left.auto.lone, c.requires.in_bounds.5)

pub slice_bounds-take_in-end : goal.slice_bounds-take_in-end
slice_bounds-take_in-end c = few (goal.at.slice_bounds-take_in-end c).After-first_node-left

pub slice_bounds-take_in-end-2 : goal.slice_bounds-take_in-end-2
slice_bounds-take_in-end-2 c = sym (length-take-le c.first_node-left.result c.first_node-left.new.lone (few (goal.at.slice_bounds-take_in-end-2 c).After-first_node-left))

pub take_in-requires : goal.take_in-requires
take_in-requires c =
    let a = c.args in
    let p = c.requires in
    let keys = node_key a.columns.now a.n a.heights.now (node_count a.heights.now - 1) in (
      subst (λ (l : List ℕ). Names l 1024) (sym (c.first_node-left.ensures.0.left a.columns.now)) (loners-names 2 keys a.n p.n_bound.0),
      omega (arith, p.n_bound.2, p.n_bound.1.few),
      c.clear.ensures.0 ∙ p.in_bounds_2.1,
      p.in_bounds_2.0,
      p.in_bounds_2.2,
    )

pub count_here-requires : goal.count_here-requires
count_here-requires c =
    let p = c.requires in
    let r = c.first_node-left in
    let h = here-few p.n_bound.0 p.n_bound.1 (stack (goal.at.count_here-requires c).After-first_node-left) in
    (omega (arith, p.in_bounds.0, r.auto.store), omega (arith, p.in_bounds.1, r.auto.sizes), omega (arith, p.in_bounds.2, r.auto.at), h.0, h.1)

pub returns-clause-stack : goal.returns-clause-stack
returns-clause-stack c = stack (goal.at.returns-clause-stack c).After-first_node-left

pub returns-clause-known : goal.returns-clause-known
returns-clause-known c =
    let a = c.args in
    let p = c.requires in
    let s = stack (goal.at.returns-clause-known c).After-first_node-left in
    let r = first_taken p.n_bound.1 c.take_in.ensures p.n_bound.2 (c.first_node-left.ensures.0.left a.columns.now) (cleared_none c.clear.new.next c.clear.ensures.1) p.in_bounds_2.3 in
    (r.0, r.1, c.count_here.ensures ∙ here-groups p.n_bound.0 p.n_bound.1 s)
