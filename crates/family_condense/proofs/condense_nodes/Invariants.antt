-- `family_condense::condense_nodes`: before a node has its turn, the slots are those of the node above it, the rows that are alone at the nodes from there on are known, the lists have these nodes, and so many cells have been counted as these have.
use Prim.Native.Nat.{◌≤◌, ◌<◌}
use Rattle.family_nodes.specs.Nodes.{node_count}
use Rattle.family_slots.specs.Slots.{Stack}
use Rattle.family_condense.specs.Ends.{Known, Lists}
use Rattle.family_condense.proofs.Turns.{Counting}
use Rattle.family_condense.proofs.condense_nodes.Given as goal

abbrev pub invariant-loop-node : goal.invariant-loop-node
invariant-loop-node l =
    (1 ≤ l.node) × (l.node < node_count l.heights) × Stack 2 l.n l.columns l.heights l.node l.store l.sizes l.at × Known l.columns l.n l.heights l.alone l.node
    × Lists l.columns l.n l.heights l.listed l.node × Counting l.columns l.n l.heights l.cells l.node
