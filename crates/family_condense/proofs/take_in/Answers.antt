-- `family_condense::take_in` meets its contract.
use mathlib.Core.Path.{◌∙◌}
use Rattle.family_condense.proofs.take_in.Goals as goal

pub returns : goal.returns
returns c =
    let k = c.keep_rows.ensures in
    record { noted = c.note_rows.ensures; here = λ x. k.here x ∙ c.add_rows.ensures.1 x; others = k.others }
