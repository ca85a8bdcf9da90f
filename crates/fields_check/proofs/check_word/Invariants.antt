use Rattle.std.proofs.Common.{◌≡◌, ◌%◌, length}
use Rattle.fields_check.proofs.Summed.{Summed}
use Rattle.fields_check.proofs.check_word.Given as goal

abbrev pub invariant-loop-block : goal.invariant-loop-block
invariant-loop-block l =
    (l.block-iterator.size ≡ 1024) × (length l.block-iterator.rest.now % 1024 ≡ length l.initial.block-iterator.rest.now % 1024) × Summed l.initial.block-iterator.rest.now l.sum l.block-iterator.rest.now
