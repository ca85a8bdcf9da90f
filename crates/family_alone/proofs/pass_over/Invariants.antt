-- `family_alone::pass_over`: the rows that were joined, and those of the dimensions that are left.
use mathlib.Core.Path.{◌≡◌}
use mathlib.Core.Bool.{◌||◌}
use Prim.Native.Nat.{ℕ}
use lib.ListN.{length, drop}
use Rattle.rows_bits.specs.Rowsets.{has}
use Rattle.family_alone.specs.Alone.{passed_over, raised}
use Rattle.family_alone.proofs.Places.{Place}
use Rattle.family_alone.proofs.pass_over.Given as goal

abbrev pub invariant-loop-h : goal.invariant-loop-h
invariant-loop-h l =
    Place l.heights l.node l.h-index l.factor l.rest × (length l.passed ≡ 32)
    × ((x : ℕ) → has l.passed x || raised l.alone l.node l.factor (drop l.h-index l.heights) l.rest x ≡ passed_over l.alone l.heights l.node x)
