-- One record more, by computation: known codes gain it, and both bounds on the growth of entries are reached.
use mathlib.Core.Path.{◌≡◌, refl}
use mathlib.Core.List.{List, [], ◌∷◌, flat_map}
use Prim.Native.Nat.{ℕ}
use lib.IntN.{pos}
use lib.Count.{ones, ones_in}
use lib.ListN.{length}
use Rattle.lattice.specs.Sets.{sets}
use Rattle.cube.specs.declared.Total.{Total}
use Rattle.cube.specs.Measure.{sums, Row}
use Rattle.cube.specs.Codes.{plain}
use Rattle.cube.specs.Cube.{cuboid, total, grouped}
use Rattle.cube.specs.Condensed.{proper, single, listed, shared, common, normals, ours}
use Rattle.cube.specs.Table.{folded}
use Rattle.rows_merge.specs.United.{united}
use Rattle.rows_late.specs.Late.{late}

abbrev one : List ℕ → Row Total
one x = record { codes = x; total = record { sum = pos 5; count = 1 } }

abbrev entries : ℕ → List (Row Total) → ℕ
entries d rows = length (ours (plain d) sums rows)

-- by 2 to the power 1: the second row makes the total normal
pub grows_most : (entries 1 (one (0 ∷ []) ∷ []) ≡ 1) × (entries 1 (late sums 1 (one (0 ∷ []) ∷ []) (one (1 ∷ []))) ≡ 3)
unfolding united folded grouped cuboid total ours proper single listed shared common normals sets ones ones_in flat_map
grows_most = (refl, refl)

-- by 1: no other row shares a code, and the total was normal
pub grows_least : (entries 2 (one (0 ∷ 0 ∷ []) ∷ one (1 ∷ 1 ∷ []) ∷ []) ≡ 3) × (entries 2 (late sums 2 (one (0 ∷ 0 ∷ []) ∷ one (1 ∷ 1 ∷ []) ∷ []) (one (2 ∷ 2 ∷ []))) ≡ 4)
unfolding united folded grouped cuboid total ours proper single listed shared common normals sets ones ones_in flat_map
grows_least = (refl, refl)

-- not at all: the codes are known
abbrev two : List (Row Total)
two = one (0 ∷ 0 ∷ []) ∷ one (1 ∷ 1 ∷ []) ∷ []

pub gains_known : late sums 2 two (one (1 ∷ 1 ∷ [])) ≡ one (0 ∷ 0 ∷ []) ∷ record { codes = 1 ∷ 1 ∷ []; total = record { sum = pos 10; count = 2 } } ∷ []
unfolding united folded grouped cuboid total
gains_known = refl

pub grows_not : (entries 2 two ≡ 3) × (entries 2 (late sums 2 two (one (1 ∷ 1 ∷ []))) ≡ 3)
unfolding united folded grouped cuboid total ours proper single listed shared common normals sets ones ones_in flat_map
grows_not = (refl, refl)

-- from no base row: one entry before and after
pub grows_first : (entries 2 [] ≡ 1) × (entries 2 (late sums 2 [] (one (1 ∷ 1 ∷ []))) ≡ 1)
unfolding united folded grouped cuboid total ours proper single listed shared common normals sets ones ones_in flat_map
grows_first = (refl, refl)
