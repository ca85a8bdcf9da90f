-- `program_pipes::run_lister` prints no more than it is lent.
use Rattle.std.proofs.Common.{arith}
use Rattle.fields.specs.WrittenLaws.{wrote_within}
use Rattle.program_pipes.proofs.run_lister.Goals as goal

pub run-requires-clause-within : goal.run-requires-clause-within
run-requires-clause-within g c = λ input out n after e w. omega (arith, e, w.same, wrote_within w)
