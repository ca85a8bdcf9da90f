-- `rows_alone::pass_rows`: the rows of the sets without one of the first d dimensions are joined.
use mathlib.Core.Path.{◌≡◌}
use Prim.Native.Nat.{ℕ}
use lib.ListN.{length}
use Rattle.rows_bits.specs.Rowsets.{has}
use Rattle.rows_alone.specs.Alone.{passes}
use Rattle.rows_alone.proofs.pass_rows.Given as goal

abbrev pub invariant-loop-d : goal.invariant-loop-d
invariant-loop-d l = (length l.passed ≡ 32) × ((x : ℕ) → has l.passed x ≡ passes l.d l.alone l.set x)
