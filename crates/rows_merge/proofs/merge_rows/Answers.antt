-- `rows_merge::merge_rows` meets its contract: the rows that are stored, and the merge of what is left of both lists, are the merge.
use native.Mathlib.Omega.{arith}
use Rattle.rows.specs.Rows.{rows_of}
use Rattle.rows_merge.proofs.Pass.{passed_start, passed_over, passed_done}
use Rattle.rows_merge.proofs.merge_rows.Goals as goal

pub loop-done-init : goal.loop-done-init
unfolding rows_of
loop-done-init c = (omega arith, passed_start c.requires.0 c.requires.1)

pub returns-then-k-eq-MOST_ROWS : goal.returns-then-k-eq-MOST_ROWS
returns-then-k-eq-MOST_ROWS c = passed_over c.requires.0 c.requires.1 _ c.loop-done.invariant.1 c.if-k-eq-MOST_ROWS.true c.loop-done-test.true

pub returns : goal.returns
returns c = passed_done c.requires.0 c.requires.1 _ c.loop-done.invariant.1 c.loop-done.invariant.0 c.loop-done-test.false
