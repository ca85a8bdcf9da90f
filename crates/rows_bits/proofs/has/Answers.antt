-- `rows_bits::has` meets its contract: the bit of the row in its word.
use mathlib.Core.Path.{refl}
use Rattle.rows_bits.specs.Rowsets.{has}
use Rattle.rows_bits.proofs.has.Goals as goal

pub returns : goal.returns
unfolding has
returns c = refl
