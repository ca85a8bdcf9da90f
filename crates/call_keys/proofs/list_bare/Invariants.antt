use Rattle.call_keys.proofs.Listing.{Listing}
use Rattle.call_keys.proofs.list_bare.Given as goal

abbrev pub invariant-loop-set : goal.invariant-loop-set
invariant-loop-set l = Listing l.dims l.used l.list l.n l.set-index
