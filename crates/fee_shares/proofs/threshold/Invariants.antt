use Prim.Native.Nat.{◌-◌, ◌≤◌, ◌<◌}
use lib.Dec.{leb}
use Rattle.fee_shares.specs.Shares.{count}
use Rattle.fee_shares.proofs.threshold.Given as goal

abbrev pub invariant-loop-low : goal.invariant-loop-low
invariant-loop-low l = (l.low < l.high) × (l.high ≤ l.total) × (l.m ≤ count (leb l.low) l.rests) × (count (leb l.high) l.rests ≤ l.m)

abbrev pub decreases-loop-low : goal.decreases-loop-low
decreases-loop-low l = l.high - l.low
