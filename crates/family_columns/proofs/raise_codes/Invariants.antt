-- `family_columns::raise_codes`: the codes before place i are raised, the others are as they were.
use Rattle.family_columns.proofs.Raising.{Raising}
use Rattle.family_columns.proofs.raise_codes.Given as goal

abbrev pub invariant-loop-code : goal.invariant-loop-code
invariant-loop-code l = Raising l.s l.z l.at l.initial.codes l.codes l.code-index
