-- `call_questions::without_rows` meets its contract: only an empty table has such a cell, all ALL, which is the cell of the empty set.
use mathlib.Core.Path.{sym, ◌∙◌}
use native.Mathlib.Omega.{arith}
use lib.ListN.{length}
use Rattle.call_questions.proofs.Rowless.{rowless-other, rowless-whole}
use Rattle.call_questions.proofs.without_rows.Goals as goal

pub returns-then-set_of-ne0 : goal.returns-then-set_of-ne0
returns-then-set_of-ne0 c =
    let a = c.args in
    rowless-other (length a.cell.now) a.n a.cell.now (λ e. c.if-set_of-ne0.true (c.set_of.ensures ∙ e))

pub returns : goal.returns
returns c =
    let a = c.args in
    rowless-whole a.n a.cell.now (omega (arith, c.if-n-ne0.false)) (sym c.set_of.ensures ∙ omega (arith, c.if-set_of-ne0.false))
