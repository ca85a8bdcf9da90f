-- `archive_cells::put_blank` meets its contract: the end of the blank words is the cell.
use Rattle.archive_cells.specs.WritingLaws.{wrote_as}
use Rattle.archive_cells.proofs.Cells.{blank-words}
use Rattle.archive_cells.proofs.Words.{as_they_are}
use Rattle.archive_cells.proofs.put_blank.Goals as goal

pub returns : goal.returns
returns c = wrote_as (blank-words c.args.dims c.requires.0) (rw (as_they_are _) at (c.put_words.ensures.wrote (λ n. n) (λ x n e. e)))
