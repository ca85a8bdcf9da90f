-- `call_search::set_of` meets its contract: the set in hand is that of the codes that were taken from the end, which are fewer than 8 until the last turn.
use Rattle.std.proofs.Common.{arith, eqb, [], ◌∷◌, refl, ap, ◌∙◌, append-nil}
use Rattle.cube.specs.Codes.{ALL, set-of}
use Rattle.call_search.proofs.CellSet.{set_room, set_next, set_end, bit_le, bit_byte}
use Rattle.call_search.proofs.set_of.Goals as goal

pub loop-code-init : goal.loop-code-init
loop-code-init c = ([], rw append-nil (cc), refl)

pub overflow_mul-set : goal.overflow_mul-set
overflow_mul-set c = let i = c.loop-code.invariant in omega (arith, i.2, set_room c.args.cell.now c.loop-code.code-iterator.iter.rest.now c.next.new.self.iter.rest.now i.0 c.in-Some.field-0.now i.1 c.in-Some.ensures.steps c.requires)

pub overflow_add-set : goal.overflow_add-set
overflow_add-set c = let i = c.loop-code.invariant in omega (arith, i.2, set_room c.args.cell.now c.loop-code.code-iterator.iter.rest.now c.next.new.self.iter.rest.now i.0 c.in-Some.field-0.now i.1 c.in-Some.ensures.steps c.requires, c.from.ensures, bit_byte (eqb c.in-Some.field-0.now ALL), bit_le (eqb c.in-Some.field-0.now ALL))

pub loop-code-preserved : goal.loop-code-preserved
loop-code-preserved c =
    let i = c.loop-code.invariant in
    (c.in-Some.field-0.now ∷ i.0, set_next c.args.cell.now c.loop-code.code-iterator.iter.rest.now c.next.new.self.iter.rest.now i.0 c.in-Some.field-0.now i.1 c.in-Some.ensures.steps, omega (arith, i.2, c.from.ensures, bit_byte (eqb c.in-Some.field-0.now ALL)))

pub returns : goal.returns
returns c = let i = c.loop-code.invariant in i.2 ∙ ap set-of (set_end c.args.cell.now c.loop-code.code-iterator.iter.rest.now i.0 i.1 c.in-None.ensures.steps.0)
