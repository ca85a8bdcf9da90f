use mathlib.Core.Path.{◌≡◌}
use mathlib.Core.List.{List, ◌++◌}
use Prim.Native.Nat.{ℕ}
use Rattle.cube.specs.Codes.{set-of}
use Rattle.call_search.proofs.set_of.Given as goal

abbrev pub invariant-loop-code : goal.invariant-loop-code
invariant-loop-code l = (done : List ℕ) × (l.cell ≡ l.code-iterator.iter.rest.now ++ done) × (l.set ≡ set-of done)
