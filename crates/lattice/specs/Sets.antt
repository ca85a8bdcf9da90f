-- Sets of dimensions (document 01, "The cube in exact terms"). A set is its number: dimension i, counted from 1, adds 2 to the power i - 1; the empty set is 0.
-- So the first dimension is in set s where s % 2 is 1, and s / 2 is the set of the other dimensions.
--
--   size s          how many dimensions set s has: the count of ones in its number
--   rank s          the keys of lattice order: the size, then the number
--   before s t      s comes before t in lattice order: fewer dimensions first, then the smaller number
--   full d          the full set of d dimensions
--   sets d          the sets of d dimensions, in lattice order
--   sets_from m k    of the 256 sets in lattice order, those from place k on that are below m
--   holds d s t     among d dimensions, each one of set t is one of set s
use Rattle.std.specs.Prelude.{Bool, true, ◌&&◌, List, [], ◌∷◌, ℕ, zero, suc, ◌-◌, ◌/◌, ◌%◌, ◌^◌, leb, ltb, drop}
use Rattle.std.specs.Int.Count.{ones}
use Rattle.lists.specs.Lists.{keep, below}
use Rattle.lists.specs.Order.{earlier, sort}

abbrev pub size : ℕ → ℕ
size s = ones s

abbrev pub rank : ℕ → List ℕ
rank s = size s ∷ s ∷ []

abbrev pub before : ℕ → ℕ → Bool
before s t = earlier (rank s) (rank t)

abbrev pub full : ℕ → ℕ
full d = 2 ^ d - 1

unfoldable pub sets : ℕ → List ℕ
sets d = sort before (below (2 ^ d))

unfoldable pub sets_from : ℕ → ℕ → List ℕ
sets_from m k = keep (λ s. ltb s m) (drop k (sets 8))

abbrev pub holds : ℕ → ℕ → ℕ → Bool
holds zero s t = true
holds (suc d) s t = leb (t % 2) (s % 2) && holds d (s / 2) (t / 2)
