-- `family_lists::list_nodes` meets its contract: what is listed, with the nodes still to come, is the list.
use mathlib.Core.Path.{sym, ◌∙◌}
use native.Mathlib.Omega.{arith}
use Rattle.family_lists.proofs.Listing.{growing_skip, growing-off, growing_on, growing-done}
use Rattle.family_lists.proofs.list_nodes.Goals as goal

pub loop-node-preserved-then-has_none : goal.loop-node-preserved-then-has_none
loop-node-preserved-then-has_none c = let r = c.has_none.ensures c.if-has_none.true in growing_skip c.args.listed.now c.args.row c.loop-node.invariant r.0 r.1

pub loop-node-preserved-then-not-has_node : goal.loop-node-preserved-then-not-has_node
loop-node-preserved-then-not-has_node c =
    let a = c.args in
    growing-off a.listed.now a.row c.loop-node.invariant (omega (arith, c.loop-node-test.true)) (sym c.has_node.ensures ∙ c.if-not-has_node.true)

pub loop-node-preserved : goal.loop-node-preserved
loop-node-preserved c =
    let a = c.args in
    growing_on a.listed.now a.row c.loop-node.invariant (omega (arith, c.loop-node-test.true)) c.requires.3 (sym c.has_node.ensures ∙ c.if-not-has_node.false)

pub returns : goal.returns
returns c = growing-done c.args.listed.now c.args.row c.loop-node.invariant (omega (arith, c.loop-node-test.false))
