-- `rows_bits::add` meets its contract: the bit of the row is set in its word.
use mathlib.Core.Path.{◌∙◌}
use lib.ListN.{length-set}
use Rattle.rows_bits.proofs.Bits.{has_more}
use Rattle.rows_bits.proofs.add.Goals as goal

pub returns : goal.returns
returns c =
    let a = c.args in
    let p = c.requires in
    (length-set a.words.now _ _ ∙ p.0, has_more a.words.now a.row p.0 p.1)
