-- `rows_lists::note_lone`: with the set noted for the rows to come the lists are what they should be.
use mathlib.Core.Path.{◌≡◌}
use lib.ListN.{drop}
use Rattle.rows_lists.specs.Lists.{lists_of, Short, noted}
use Rattle.rows_lists.proofs.note_lone.Given as goal

abbrev pub invariant-loop-row : goal.invariant-loop-row
invariant-loop-row l = Short l.n l.lists × (noted l.set (drop l.row-index l.lone) (lists_of l.n l.lists) ≡ noted l.set l.lone (lists_of l.n l.initial.lists))
