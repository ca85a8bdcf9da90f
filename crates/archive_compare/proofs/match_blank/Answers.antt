-- `archive_compare::match_blank` meets its contract: the end of the blank words is the cell.
use Rattle.archive_cells.proofs.Cells.{blank-words}
use Rattle.archive_cells.proofs.Words.{as_they_are}
use Rattle.archive_compare.specs.MatchedLaws.{matched_as}
use Rattle.archive_compare.proofs.match_blank.Goals as goal

pub returns : goal.returns
returns c = matched_as (blank-words c.args.dims c.requires.0) (rw (as_they_are _) at (c.match_words.ensures (λ n. n) (λ x n e. e)))
