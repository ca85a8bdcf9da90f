-- `cube::Total::plus` meets its contract: within the bounds that it requires, both sums fit.
use lib.IntN.{◌+ℤ◌}
use mir.Syntax.{w64}
use mir.Val.{SFits}
use mir.Facts.{to_z-of_z}
use Rattle.cube.specs.Measure.{plus}
use Rattle.cube.proofs.Sums.{bounded_fits, bounded_plus, adds}
use Rattle.cube.proofs.Total.plus.Goals as goal
use Rattle.cube.proofs.Total.plus.Goals.{Start}

own-fits : (c : goal.Start) → SFits w64 c.args.self.sum
own-fits c = bounded_fits c.args.self c.requires.0

row_fits : (c : goal.Start) → SFits w64 c.args.row.sum
row_fits c = bounded_fits c.args.row c.requires.1

sum_fits : (c : goal.Start) → SFits w64 (c.args.self.sum +ℤ c.args.row.sum)
sum_fits c = bounded_fits (plus c.args.self c.args.row) (bounded_plus c.args.self c.args.row c.requires.0 c.requires.1 c.requires.2)

pub overflow_add-self : goal.overflow_add-self
overflow_add-self c =
    rw (adds c.args.self.sum c.args.row.sum (own-fits (goal.at.overflow_add-self c).Start) (row_fits (goal.at.overflow_add-self c).Start)) (sum_fits (goal.at.overflow_add-self c).Start)

pub returns : goal.returns
returns c =
    rw (adds c.args.self.sum c.args.row.sum (own-fits (goal.at.returns c).Start) (row_fits (goal.at.returns c).Start), to_z-of_z (sum_fits (goal.at.returns c).Start))
