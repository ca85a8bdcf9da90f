-- `rows_compare::compare` meets its contract: what is left of the rows has the order under the rest of the set that the rows have under the set.
use mathlib.Core.Path.{sym, ◌∙◌}
use native.Mathlib.Omega.{arith}
use borrow.Author.Rules.{rules}
use Rattle.rows_compare.proofs.Agree.{alike-out}
use Rattle.rows_compare.proofs.Compared.{alike_in, compared_skip, compared_less, compared-more, compared-done}
use Rattle.rows_compare.proofs.compare.Goals as goal

pub returns-then-x-y : goal.returns-then-x-y
returns-then-x-y c =
    sym (sym c.loop-d.invariant.1
    ∙ compared_less c.loop-d.rest c.args.mine.now c.args.other.now c.loop-d.d (search rules) (search rules)
    (omega arith) c.if-x-y.true)

pub returns-then-y-x : goal.returns-then-y-x
returns-then-y-x c =
    sym (sym c.loop-d.invariant.1
    ∙ compared-more c.loop-d.rest c.args.mine.now c.args.other.now c.loop-d.d (search rules) (search rules)
    (omega arith) c.if-y-x.true)

pub loop-d-preserved : goal.loop-d-preserved
loop-d-preserved c = (
  search rules,
  compared_skip c.loop-d.rest c.args.mine.now c.args.other.now c.loop-d.d (search rules) (search rules)
      (grind (arith, alike_in, alike-out))
      ∙ c.loop-d.invariant.1,
)

pub returns : goal.returns
returns c =
    sym (sym c.loop-d.invariant.1
    ∙ compared-done c.loop-d.rest c.args.mine.now c.args.other.now c.loop-d.d (search rules) (search rules))
