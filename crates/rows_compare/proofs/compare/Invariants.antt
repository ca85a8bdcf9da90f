use mathlib.Core.Path.{◌≡◌}
use Prim.Native.Nat.{◌-◌, ◌≤◌}
use lib.ListN.{length, drop}
use Rattle.rows_compare.specs.Compare.{compared}
use Rattle.rows_compare.proofs.Compared.{further}
use Rattle.rows_compare.proofs.compare.Given as goal

abbrev pub invariant-loop-d : goal.invariant-loop-d
invariant-loop-d l =
    (l.d ≤ length l.mine) × (further l.d (compared l.rest (drop l.d l.mine) (drop l.d l.other)) ≡ compared l.set l.mine l.other)

abbrev pub decreases-loop-d : goal.decreases-loop-d
decreases-loop-d l = length l.mine - l.d
