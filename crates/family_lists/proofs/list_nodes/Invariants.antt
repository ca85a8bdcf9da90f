-- `family_lists::list_nodes`: what is listed, with the nodes still to come, is the list.
use Rattle.family_lists.proofs.Listing.{Growing}
use Rattle.family_lists.proofs.list_nodes.Given as goal

abbrev pub invariant-loop-node : goal.invariant-loop-node
invariant-loop-node l = Growing l.listed l.row l.initial.list l.list l.nodes l.len l.node

abbrev pub decreases-loop-node : goal.decreases-loop-node
decreases-loop-node l = l.node
