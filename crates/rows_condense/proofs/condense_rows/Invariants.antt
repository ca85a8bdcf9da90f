-- `rows_condense::condense_rows`: before each set the slots of the sets that had a turn are filled, and the rows that are single on these are told, listed and counted.
use Rattle.lattice.specs.Sets.{full}
use Rattle.rows_crowds.proofs.Turns.{Filling}
use Rattle.rows_condense.proofs.Listing.{Listing}
use Rattle.rows_condense.proofs.condense_rows.Given as goal

abbrev pub invariant-loop-set : goal.invariant-loop-set
invariant-loop-set l = let r = l.rows in Filling 2 r.dims r.n r.words.now l.store l.sizes (full r.dims) l.set-index × Listing r.dims r.n r.words.now l.alone l.lists l.cells l.set-index
