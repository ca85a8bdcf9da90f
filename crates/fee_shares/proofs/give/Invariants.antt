use mathlib.Core.Path.{◌≡◌}
use mathlib.Core.List.{◌++◌}
use Prim.Native.Nat.{◌≤◌}
use lib.ListN.{length, take, drop}
use Rattle.fee_shares.specs.Shares.{added}
use Rattle.fee_shares.specs.Given.{given}
use Rattle.fee_shares.proofs.give.Given as goal

abbrev pub invariant-loop-i : goal.invariant-loop-i
invariant-loop-i l =
    (l.i ≤ length l.rests) × (length l.shares ≡ length l.rests) × (drop l.i l.shares ≡ drop l.i l.initial.shares)
    × (take l.i l.shares ++ added (drop l.i l.shares) (given l.v l.left (drop l.i l.rests)) ≡ added l.initial.shares (given l.v l.k l.rests))
