-- `family_condense::condense_nodes` meets its contract: when node 1 had its turn, all nodes but node 0 have been listed and counted.
use mathlib.Core.Path.{◌≡◌, subst}
use Prim.Native.Nat.{suc, ◌+◌, ◌-◌, ◌≤◌}
use native.Mathlib.Omega.{arith}
use Rattle.family_nodes.specs.Nodes.{node_count}
use Rattle.family_condense.specs.Ends.{Lists}
use Rattle.family_condense.proofs.Taking.{lists-done}
use Rattle.family_condense.proofs.Turns.{Counting, counting_start, counting-few, counting_more, counting-done}
use Rattle.family_condense.proofs.condense_nodes.Goals as goal
use Rattle.family_condense.proofs.condense_nodes.Goals.{After-list_node-cells}

pub loop-node-init : goal.loop-node-init
loop-node-init c =
    let a = c.args in
    let e : suc (c.count_nodes-last.result - 1) ≡ node_count a.heights.now = omega (arith, c.count_nodes-last.ensures, c.requires.2) in
    let low : 1 ≤ c.count_nodes-last.result - 1 = omega (arith, e, c.requires.2) in
    let r = c.start_nodes-cells.ensures in
    (low, omega (arith, e), r.stack, r.known.0, r.known.1, counting_start a.columns.now a.n a.heights.now _ low e r.known.2)

-- one node more
next : (c : After-list_node-cells) → let a = c.args in Counting a.columns.now a.n a.heights.now (c.loop-node.cells + c.list_node-cells.result) (c.loop-node.node - 1)
next c =
    let a = c.args in
    let l = c.loop-node in
    let low : 1 ≤ l.node - 1 = omega (arith, c.loop-node-test.true) in
    let down : suc (l.node - 1) ≡ l.node = omega (arith, low) in
    counting_more a.columns.now a.n a.heights.now l.invariant.5 (l.node - 1) low down c.list_node-cells.ensures.known.2

pub overflow_add-cells : goal.overflow_add-cells
overflow_add-cells c =
    let a = c.args in
    omega (arith, counting-few a.columns.now a.n a.heights.now (next (goal.at.overflow_add-cells c).After-list_node-cells) c.requires.0 c.requires.1.few)

pub loop-node-preserved : goal.loop-node-preserved
loop-node-preserved c =
    let v = c.loop-node.invariant in
    let r = c.list_node-cells.ensures in
    (omega (arith, c.loop-node-test.true), omega (arith, v.1), r.stack_2, r.known.0, r.known.1, next (goal.at.loop-node-preserved c).After-list_node-cells)

pub returns : goal.returns
returns c =
    let a = c.args in
    let l = c.loop-node in
    let v = l.invariant in
    let e : l.node ≡ 1 = omega (arith, v.0, c.loop-node-test.false) in
    (lists-done a.columns.now a.n a.heights.now l.listed (subst (Lists a.columns.now a.n a.heights.now l.listed) e v.4), counting-done a.columns.now a.n a.heights.now v.5 e)
