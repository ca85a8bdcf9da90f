-- `archive_cells::put_entry` meets its contract: the words of the row, the length of the list, then its sets.
use mathlib.Core.List.{append_assoc}
use Rattle.fields.specs.WrittenLaws.{wrote_then}
use Rattle.archive_cells.specs.ListBytes.{list_is}
use Rattle.archive_cells.proofs.Words.{as_they_are}
use Rattle.archive_cells.proofs.put_entry.Goals as goal

pub returns : goal.returns
returns c =
    let list = c.args.list.now in
    let row = rw (as_they_are c.args.row.now) at (c.put_words-at.ensures.wrote (λ n. n) (λ x n e. e)) in
    let sets = rw (as_they_are list) at (c.put_words.ensures.wrote (λ n. n) (λ x n e. e)) in
    rw (list_is list) (rw append_assoc at (wrote_then (wrote_then row c.put_word-at.ensures) sets))
