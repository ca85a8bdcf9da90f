-- `archive_compare::match_words` meets its contract. The invariant: the numbers from place i on are left to compare.
use Rattle.stops.proofs.Handed.{handed}
use Rattle.archive_cells.proofs.Words.{words_all}
use Rattle.archive_compare.specs.MatchedLaws.{matching_none}
use Rattle.archive_compare.proofs.Words.{words_met, words-off, words_end}
use Rattle.archive_compare.proofs.match_words.Goals as goal

pub loop-x-init : goal.loop-x-init
loop-x-init g c = (c.requires, λ word to. rw (words_all word c.args.xs.now) (matching_none _ _ _ c.requires))

pub returns-in_err-at : goal.returns-in_err-at
returns-in_err-at g c = λ word to.
    let l = c.loop-x in
    rw (handed c.from_residual.result c.from_residual.ensures.1) (words-off word c.args.xs.now l.x-index (l.invariant.1 word to) c.loop-x-test.true c.x-item.is (to _ _ c.into.ensures) c.in_err-at.ensures)

pub loop-x-preserved : goal.loop-x-preserved
loop-x-preserved g c =
    let l = c.loop-x in
    let m = c.in_ok-at.ensures in
    (m.meets.2, λ word to. words_met word c.args.xs.now l.x-index (l.invariant.1 word to) c.loop-x-test.true c.x-item.is (to _ _ c.into.ensures) m)

pub returns : goal.returns
returns g c = λ word to. words_end word c.args.xs.now c.loop-x.x-index (c.loop-x.invariant.1 word to) c.loop-x-test.false
