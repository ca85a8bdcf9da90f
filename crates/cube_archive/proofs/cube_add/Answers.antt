-- `cube_archive::cube_add` meets its contract: the call's answer as a number, and its output.
use mathlib.Core.Path.{ap, ◌∙◌}
use Rattle.call_answers.specs.Numbers.{written_number}
use Rattle.call_add.proofs.Adding.{answered-adds}
use borrow.Author.Rules.{rules}
use Rattle.cube_archive.proofs.cube_add.Goals as goal

pub returns : goal.returns
returns c =
    let a = answered-adds c.args.archive.now c.args.codes.now c.ranges.reading c.add.ensures in
    record { value = c.number.ensures ∙ ap written_number a.answer; out_after = a.output }
