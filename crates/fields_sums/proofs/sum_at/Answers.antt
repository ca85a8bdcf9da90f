-- `fields_sums::sum_at` meets its contract. The sum of two words.
use borrow.Author.Rules.{rules}
use Rattle.fields_sums.specs.Twos.{sum_at}
use Rattle.fields_sums.proofs.sum_at.Goals as goal

pub returns : goal.returns
unfolding sum_at
returns c = search rules
