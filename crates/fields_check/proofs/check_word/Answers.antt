-- `fields_check::check_word` meets its contract: whole blocks, and the bytes behind them.
use Rattle.std.proofs.Common.{rules, arith, ◌∙◌, ap, length, length-append}
use Rattle.fields_check.specs.Check.{check_of}
use Rattle.fields_check.specs.CheckLaws.{check_lt}
use Rattle.fields_check.proofs.Summed.{summed-none, summed_on, summed-all}
use Rattle.fields_check.proofs.CheckLaws.{check_split}
use Rattle.fields_check.proofs.check_word.Goals as goal

pub loop-block-init : goal.loop-block-init
loop-block-init c = search (rules, summed-none)

pub loop-block-preserved : goal.loop-block-preserved
loop-block-preserved c =
    let l = c.loop-block in
    let step = c.in-Some.ensures.steps in
    let block = c.in-Some.block.now in (
      step.0 ∙ l.invariant.0,
      omega (arith, ap length step.1.0, length-append block c.next.new.self.rest.now, l.invariant.1),
      summed_on 256 block c.sum_words-sum.result l.invariant.2 step.1.0 (omega arith) (omega (arith, check_lt block, c.sum_words-sum.ensures)) (omega arith),
    )

pub returns : goal.returns
returns c =
    let l = c.loop-block in
    let blocks = rw c.into_iter-block-iterator.ensures.into_iter_gives at l.invariant in
    let front = c.chunks_exact-block-items.ensures.rest in
    let sum = summed-all blocks.2 (omega (arith, blocks.1, ap length front, c.split_at.ensures.front_len, c.in-None.ensures.steps.1.0)) in
    let split = check_split c.split_at.result.0.now c.split_at.result.1.now c.split_at.ensures.by_index.0 (omega (arith, c.split_at.ensures.front_len)) in
    omega (arith, ap check_of front, sum, split, c.sum_words.ensures)
