-- `family_condense::count_nodes`: the product so far is the factor of the dimension in hand.
use Rattle.family_alone.proofs.Places.{Place}
use Rattle.family_condense.proofs.count_nodes.Given as goal

abbrev pub invariant-loop-h : goal.invariant-loop-h
invariant-loop-h l = Place l.heights 0 l.h-index l.nodes 0
