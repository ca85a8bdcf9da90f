-- `archive_compare::match_entry` meets its contract: the words of the row, the length of the list, then its sets.
use mathlib.Core.Path.{sym}
use Rattle.fields.specs.Words.{words_bytes}
use Rattle.std.specs.Prelude.{Ok, Err}
use Rattle.stops.proofs.Handed.{handed}
use Rattle.archive_cells.specs.ListBytes.{list_is}
use Rattle.archive_cells.proofs.Words.{as_they_are}
use Rattle.archive_compare.specs.Matched.{Matched}
use Rattle.archive_compare.specs.MatchedLaws.{matched_as, matched_stop, matched_then}
use Rattle.archive_compare.proofs.match_entry.Goals as goal
use Rattle.archive_compare.proofs.match_entry.Goals.{In_ok-at}

-- the row stands there
row : (c : In_ok-at) → Matched c.args.s.now c.args.start (words_bytes c.args.row.now) (Ok c.in_ok-at.at)
row c = rw (as_they_are c.args.row.now) at (c.in_ok-at.ensures (λ n. n) (λ x n e. e))

pub returns-in_err-at : goal.returns-in_err-at
returns-in_err-at c = rw (handed c.from_residual.result c.from_residual.ensures.1) (matched_stop _ (rw (as_they_are c.args.row.now) at (c.in_err-at.ensures (λ n. n) (λ x n e. e))))

pub match_word-requires : goal.match_word-requires
match_word-requires c = (row c).meets.2

pub returns-in_err-next : goal.returns-in_err-next
returns-in_err-next c =
    let list = c.args.list.now in
    rw (handed c.from_residual-in_err-next.result c.from_residual-in_err-next.ensures.1) (matched_then _ (Err _) (row (goal.at.returns-in_err-next c).In_ok-at)
    (matched_as (sym (list_is list)) (matched_stop (words_bytes list) c.in_err-next.ensures)))

pub returns : goal.returns
returns c =
    let list = c.args.list.now in
    let sets = rw (as_they_are list) at (c.match_words-2.ensures (λ n. n) (λ x n e. e)) in
    matched_then _ c.match_words-2.result (row (goal.at.returns c).In_ok-at) (matched_as (sym (list_is list)) (matched_then (words_bytes list) c.match_words-2.result c.in_ok-next.ensures sets))
