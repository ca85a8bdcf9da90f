-- `fields_sums::reading_at` meets its contract: the library reads two's complement as `signed_of` does.
use borrow.Author.Rules.{rules}
use Rattle.fields_sums.specs.Twos.{reading_at}
use Rattle.fields_sums.proofs.reading_at.Goals as goal

pub returns : goal.returns
unfolding reading_at
returns c = search rules
