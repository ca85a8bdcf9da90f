use Rattle.rows_bits.proofs.Bits.{Joining}
use Rattle.rows_bits.proofs.join.Given as goal

abbrev pub invariant-loop-i : goal.invariant-loop-i
invariant-loop-i l = Joining l.initial.words l.others l.words l.i
