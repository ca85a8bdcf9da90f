-- `archive_cells::put_list` meets its contract: how many numbers there are, then the numbers.
use Rattle.fields.specs.WrittenLaws.{wrote_then}
use Rattle.archive_cells.specs.ListBytes.{list_is}
use Rattle.archive_cells.proofs.Words.{as_they_are}
use Rattle.archive_cells.proofs.put_list.Goals as goal

pub returns : goal.returns
returns c =
    let list = c.args.list.now in
    rw (list_is list) (wrote_then c.put_word-at.ensures (rw (as_they_are list) at (c.put_words.ensures.wrote (λ n. n) (λ x n e. e))))
