-- `call_fee::copy_counts` meets its contract. The invariant: the counts of the rows before row i are in the front of the list.
use mathlib.Core.Path.{◌∙◌}
use native.Mathlib.Omega.{arith}
use mathlib.Core.List.{[]}
use lib.ListN.{length-set}
use borrow.Author.Rules.{rules}
use Rattle.call_fee.proofs.Counts.{counts-none, counts-more}
use Rattle.call_fee.proofs.copy_counts.Goals as goal

pub loop-i-init : goal.loop-i-init
loop-i-init c = let r = c.args.rows.now in (search rules, counts-none r.dims r.words.now [])

pub loop-i-preserved : goal.loop-i-preserved
loop-i-preserved c =
    let r = c.args.rows.now in
    let l = c.loop-i in
    (length-set l.count-items l.i _ ∙ l.invariant.0, counts-more r.dims r.n l.i r.words.now l.count-items (omega (arith, c.loop-i-test.true, l.invariant.0)) (omega (arith, c.loop-i-test.true, l.invariant.0)) c.total_at.ensures l.invariant.1)
