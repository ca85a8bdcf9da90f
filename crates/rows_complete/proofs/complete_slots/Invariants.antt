-- `rows_complete::complete_slots`: before each set the slots of the sets that had a turn have all groups.
use Rattle.rows_complete.proofs.Completing.{Completing}
use Rattle.rows_complete.proofs.complete_slots.Given as goal

abbrev pub invariant-loop-set : goal.invariant-loop-set
invariant-loop-set l = Completing l.rows.dims l.rows.n l.rows.words.now l.store l.sizes l.all l.set-index
