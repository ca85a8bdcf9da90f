-- `call_expansion::write_expansion` meets its contract: the slots of all sets are completed once, in the lent arrays, and the length that they tell decides whether the expansion is written.
use Rattle.rows_ready.proofs.Ready.{ready-base}
use Rattle.call_expansion.proofs.write_expansion.Goals as goal

pub complete_slots-requires-clause-n_bound : goal.complete_slots-requires-clause-n_bound
complete_slots-requires-clause-n_bound c = let r = c.requires.ready in (r.few, r.dims, (ready-base r).valid)
