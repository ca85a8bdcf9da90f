-- `lattice::in_order` meets its contract: the table passes the one computed test, so it is the lattice order of 8 dimensions.
use mathlib.Core.Path.{refl}
use lib.Count.{ones, ones_in}
use Rattle.lattice.proofs.Table.{table_is}
use Rattle.lattice.proofs.in_order.Goals as goal

pub returns : goal.returns
unfolding ones ones_in
returns c = table_is _ refl
