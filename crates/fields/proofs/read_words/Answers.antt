-- `fields::read_words` meets its contract. The words read, and those still to read, are the words.
use mathlib.Core.Path.{sym, ◌∙◌}
use native.Mathlib.Omega.{arith}
use lib.ListN.{length}
use Rattle.fields.specs.WordsLaws.{words_on, words_done}
use Rattle.fields.proofs.read_words.Goals as goal

pub loop-i-preserved : goal.loop-i-preserved
loop-i-preserved c = c.loop-i.invariant ∙ words_on c.args.s.now c.loop-i.out c.args.at c.loop-i.i (length c.args.out.now) (omega arith) (omega arith) c.word_at.ensures

pub returns : goal.returns
returns c = sym (c.loop-i.invariant ∙ words_done c.args.s.now c.loop-i.out c.args.at c.loop-i.i (length c.args.out.now) (omega arith) (omega arith))
