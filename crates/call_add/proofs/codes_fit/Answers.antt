-- `call_add::codes_fit` meets its contract: each of the codes beside the sizes is below its size, and there are as many.
use mathlib.Core.Path.{◌∙◌}
use lib.Dec.{ltb}
use borrow.Author.Rules.{rules}
use borrow.Author.Tests.{ne_eqb}
use Rattle.std.proofs.lemmas.Iterator.{YieldsList-from_slice, YieldsList-from_zip}
use Rattle.std.proofs.lemmas.Iterator.Search.{all_from_yields_List}
use Rattle.call_add.proofs.Codes.{coded-length, coded-zip}
use Rattle.call_add.proofs.codes_fit.Goals as goal

pub returns-then-codes-sizes : goal.returns-then-codes-sizes
returns-then-codes-sizes c =
    let a = c.args in
    all_from_yields_List (λ p. ltb p.0 p.1) c.all.new.self _ c.all.result c.all.ensures.ran
    (YieldsList-from_zip (YieldsList-from_slice a.codes.now (search rules)) (YieldsList-from_slice a.sizes.now (search rules))) (λ x b q k. search rules)
    ∙ coded-zip a.sizes.now a.codes.now c.if-codes-sizes.true

pub returns-else-codes-sizes : goal.returns-else-codes-sizes
returns-else-codes-sizes c =
    let a = c.args in
    rw (ne_eqb _ _ c.if-codes-sizes.false, coded-length a.sizes.now a.codes.now c.if-codes-sizes.false)
