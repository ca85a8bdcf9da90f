use Rattle.std.proofs.Common.{◌≡◌}
use Rattle.fields_check.proofs.Summed.{Summed}
use Rattle.fields_check.proofs.sum_words.Given as goal

abbrev pub invariant-loop-word : goal.invariant-loop-word
invariant-loop-word l = (l.word-iterator.size ≡ 4) × Summed l.s l.sum l.word-iterator.rest.now
