-- `archive_cells::put_words` meets its contract. The invariant: the numbers from place i on are left to write.
use native.Mathlib.Omega.{arith}
use Rattle.archive_cells.specs.WritingLaws.{writing_none}
use Rattle.archive_cells.proofs.Words.{words_all, words_more, words_done}
use Rattle.archive_cells.proofs.put_words.Goals as goal

pub loop-x-init : goal.loop-x-init
loop-x-init g c = (omega arith, λ word to. rw (words_all word c.args.xs.now) (writing_none _ _))

pub loop-x-preserved : goal.loop-x-preserved
loop-x-preserved g c =
    let l = c.loop-x in
    let x = c.x-item in
    (omega (arith, l.invariant.0, c.put_word-at.ensures.count), λ word to. words_more word c.args.xs.now l.x-index (l.invariant.1 word to) c.loop-x-test.true x.is (to x.result c.into.result c.into.ensures) c.put_word-at.ensures)

pub returns : goal.returns
returns g c = record {
  count = omega (arith, c.loop-x.invariant.0, c.loop-x-test.false, c.loop-x.auto.x-index-end);
  wrote = λ word to. words_done word c.args.xs.now c.loop-x.x-index (c.loop-x.invariant.1 word to) c.loop-x-test.false;
}
