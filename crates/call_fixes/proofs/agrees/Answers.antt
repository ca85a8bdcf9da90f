-- `call_fixes::agrees` meets its contract: rows agree on a set just if they are equal in its order.
use mathlib.Core.Path.{refl, ap, ◌∙◌}
use Rattle.rows_compare.specs.Compare.{compared, is_equal}
use Rattle.call_fixes.proofs.Follows.{equal-agree}
use Rattle.call_fixes.proofs.agrees.Goals as goal

pub returns : goal.returns
returns c =
    let a = c.args in
    c.is_equal.ensures ∙ ap is_equal c.compare.ensures ∙ equal-agree a.set a.mine.now a.other.now (compared a.set a.mine.now a.other.now) refl
