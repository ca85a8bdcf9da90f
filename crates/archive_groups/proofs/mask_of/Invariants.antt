use mathlib.Core.Path.{◌≡◌}
use Prim.Native.Nat.{ℕ, ◌<◌}
use lib.ListN.{get_or}
use Rattle.archive_groups.specs.Masks.{missing_of}
use Rattle.archive_groups.proofs.mask_of.Given as goal

abbrev pub invariant-loop-d : goal.invariant-loop-d
invariant-loop-d l = (k : ℕ) → k < l.d → get_or l.mask-items k 0 ≡ missing_of l.set k
