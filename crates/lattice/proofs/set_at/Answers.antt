-- `lattice::set_at` meets its contract: the table passes the one computed test, so it is the lattice order of 8 dimensions.
use mathlib.Core.Path.{refl, ◌∙◌}
use lib.Count.{ones, ones_in}
use Rattle.lattice.specs.declared.TheConstants.{SETS}
use Rattle.lattice.proofs.Table.{table_at}
use Rattle.lattice.proofs.set_at.Goals as goal

pub returns : goal.returns
unfolding ones ones_in
returns c = c.from.ensures ∙ table_at SETS c.args.k refl
