-- `cube_archive::cube_expand` meets its contract: the call's answer as a number, and its output.
use mathlib.Core.Path.{ap, ◌∙◌}
use Rattle.call_answers.specs.Numbers.{written_number}
use borrow.Author.Rules.{rules}
use Rattle.cube_archive.proofs.cube_expand.Goals as goal

pub returns : goal.returns
returns c = record { value = c.number.ensures ∙ ap written_number c.expand.ensures.answer; out_after = c.expand.ensures.output }
