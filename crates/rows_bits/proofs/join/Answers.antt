-- `rows_bits::join` meets its contract: the words before place i are joined, the others are as they were.
use native.Mathlib.Omega.{arith}
use Rattle.rows_bits.proofs.Bits.{joining_start, joining_more, joining_done}
use Rattle.rows_bits.proofs.join.Goals as goal

pub loop-i-init : goal.loop-i-init
loop-i-init c = joining_start c.requires.0

pub loop-i-preserved : goal.loop-i-preserved
loop-i-preserved c = joining_more c.requires.0 c.loop-i.invariant (omega (arith, c.loop-i-test.true, c.requires.0))

pub returns : goal.returns
returns c =
    let v = c.loop-i.invariant in
    (v.size, joining_done c.requires.0 v c.requires.1 (omega (arith, c.loop-i-test.false, c.requires.0)))
