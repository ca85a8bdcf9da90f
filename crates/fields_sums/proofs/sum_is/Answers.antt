-- `fields_sums::sum_is` meets its contract: where its low word stands, its high one settles it.
use mir.Facts.{to_z-of_z}
use Rattle.fields_sums.proofs.Sums.{starts-sum}
use Rattle.fields_sums.proofs.sum_is.Goals as goal

pub returns-then-word_is : goal.returns-then-word_is
returns-then-word_is c =
    let e = to_z-of_z c.ranges.sum in
    let h = starts-sum c.args.s.now c.args.at c.args.sum (cc) in
    cc
