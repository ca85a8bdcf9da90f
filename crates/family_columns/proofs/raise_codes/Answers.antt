-- `family_columns::raise_codes` meets its contract: the code in hand is below the size of its table.
use Rattle.family_columns.proofs.Raising.{raising-more, raising-done}
use Rattle.family_columns.proofs.raise_codes.Goals as goal

pub loop-code-preserved : goal.loop-code-preserved
loop-code-preserved c =
    let l = c.loop-code in
    let t = c.loop-code-test.true in
    raising-more l.invariant t (c.requires.1 l.code-index t) c.word_at.ensures

pub returns : goal.returns
returns c = raising-done c.loop-code.invariant c.loop-code-test.false
