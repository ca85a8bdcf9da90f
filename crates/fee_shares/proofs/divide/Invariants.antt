use mathlib.Core.Path.{◌≡◌}
use mathlib.Core.List.{map}
use Prim.Native.Nat.{◌≤◌}
use lib.ListN.{length, take}
use Rattle.fee_shares.specs.Shares.{quota, rest}
use Rattle.fee_shares.proofs.divide.Given as goal

abbrev pub invariant-loop-i : goal.invariant-loop-i
invariant-loop-i l =
    (l.i ≤ length l.fee.counts.now) × (length l.shares ≡ length l.fee.counts.now) × (length l.rests ≡ length l.fee.counts.now)
    × (take l.i l.shares ≡ map (quota l.total l.fee.cents) (take l.i l.fee.counts.now)) × (take l.i l.rests ≡ map (rest l.total l.fee.cents) (take l.i l.fee.counts.now))
