-- `rows_slots::pack_shared`: the entries of the rows before place i that share their code are written, and the others of these rows are left out.
use Rattle.rows_slots.specs.Slots.{code_in}
use Rattle.rows_slots.proofs.Steps.{Packing}
use Rattle.rows_slots.proofs.pack_shared.Given as goal

abbrev pub invariant-loop-i : goal.invariant-loop-i
invariant-loop-i l = Packing (code_in l.column) l.order l.slot l.lone l.len l.first l.i
