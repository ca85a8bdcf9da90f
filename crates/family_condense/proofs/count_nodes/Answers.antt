-- `family_condense::count_nodes` meets its contract: the product so far is the factor of the dimension in hand.
use mathlib.Core.Path.{sym, ap, subst, ◌∙◌}
use mathlib.Core.List.{List}
use Prim.Native.Nat.{ℕ, ◌+◌, ◌*◌}
use native.Mathlib.Nat.{mul-one, zero-div}
use native.Mathlib.Omega.{arith}
use lib.ListN.{get_or, drop_of_length-le}
use Rattle.family_nodes.specs.Nodes.{node_count}
use Rattle.family_nodes.proofs.Nodes.{count-pos}
use Rattle.family_slots.proofs.Stacked.{tall}
use Rattle.family_alone.proofs.Places.{Place, place-start, factor-fits, place-on}
use Rattle.family_condense.proofs.count_nodes.Goals as goal

pub loop-h-init : goal.loop-h-init
loop-h-init c = place-start c.args.heights.now 0 (count-pos c.args.heights.now (tall c.requires))

pub overflow_mul-nodes : goal.overflow_mul-nodes
overflow_mul-nodes c = let l = c.loop-h in omega (arith, factor-fits c.args.heights.now 0 l.h-index l.nodes 0 c.requires l.invariant c.loop-h-test.true)

pub loop-h-preserved : goal.loop-h-preserved
loop-h-preserved c =
    let hs = c.args.heights.now in
    let l = c.loop-h in
    subst (Place hs 0 (l.h-index + 1) (l.nodes * get_or hs l.h-index 0)) (zero-div (get_or hs l.h-index 0)) (place-on hs 0 l.h-index l.nodes 0 c.requires l.invariant c.loop-h-test.true)

pub returns : goal.returns
returns c =
    let hs = c.args.heights.now in
    let l = c.loop-h in
    sym (mul-one l.nodes) ∙ ap (λ (t : List ℕ). l.nodes * node_count t) (sym (drop_of_length-le hs c.loop-h-test.false)) ∙ l.invariant.whole
