-- `fields_check::sum_words` meets its contract, word by word.
use Rattle.std.proofs.Common.{rules, arith, ◌∙◌}
use Rattle.fields_check.proofs.Summed.{summed-none, summed_on, summed-all}
use Rattle.fields_check.proofs.CheckLaws.{check_one}
use Rattle.fields_check.proofs.sum_words.Goals as goal

pub loop-word-init : goal.loop-word-init
loop-word-init c = search (rules, summed-none)

pub loop-word-preserved : goal.loop-word-preserved
loop-word-preserved c =
    let l = c.loop-word in
    let step = c.in-Some.ensures.steps in
    let word = c.in-Some.word.now in
    (step.0 ∙ l.invariant.0, summed_on 1 word c.word_at-sum.result l.invariant.1 step.1.0 (omega arith) (omega (arith, check_one word (omega arith), c.word_at-sum.ensures)) (omega arith))

pub returns : goal.returns
returns c =
    omega (arith, summed-all c.loop-word.invariant.1 (omega (arith, c.in-None.ensures.steps.1.0)))
