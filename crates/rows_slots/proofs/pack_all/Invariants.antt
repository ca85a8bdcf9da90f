-- `rows_slots::pack_all`: the entries of the rows before place i are written.
use Rattle.rows_slots.specs.Slots.{code_in}
use Rattle.rows_slots.proofs.Steps.{Listing}
use Rattle.rows_slots.proofs.pack_all.Given as goal

abbrev pub invariant-loop-i : goal.invariant-loop-i
invariant-loop-i l = Listing (code_in l.column) l.order l.slot l.i
