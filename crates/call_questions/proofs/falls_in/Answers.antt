-- `call_questions::falls_in` meets its contract: each code of the cell is ALL or the row's.
use mathlib.Core.Path.{◌∙◌}
use borrow.Author.Rules.{rules}
use Rattle.std.proofs.lemmas.Iterator.{YieldsList-from_slice, YieldsList-from_zip}
use Rattle.std.proofs.lemmas.Iterator.Search.{all_from_yields_List}
use Rattle.call_questions.proofs.Pairs.{meets, falls-zip}
use Rattle.call_questions.proofs.falls_in.Goals as goal

pub returns : goal.returns
returns c =
    let a = c.args in
    all_from_yields_List (λ p. meets p.0 p.1) c.all.new.self _ c.all.result c.all.ensures.ran
    (YieldsList-from_zip (YieldsList-from_slice a.cell.now (search rules)) (YieldsList-from_slice a.mine.now (search rules))) (λ x b q k. search rules)
    ∙ falls-zip a.cell.now a.mine.now c.requires
