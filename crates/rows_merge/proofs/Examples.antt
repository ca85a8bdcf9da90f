-- Archives united, by computation.
use mathlib.Core.Path.{◌≡◌, refl}
use mathlib.Core.List.{List, [], ◌∷◌}
use Prim.Native.Nat.{ℕ}
use lib.IntN.{ℤ, pos, negsuc}
use Rattle.cube.specs.declared.Total.{Total}
use Rattle.cube.specs.Measure.{sums, Row}
use Rattle.cube.specs.Cube.{cuboid, total, grouped}
use Rattle.cube.specs.Table.{folded}
use Rattle.rows_merge.specs.United.{united, merged}

abbrev of : List ℕ → ℤ → ℕ → Row Total
of x s n = record { codes = x; total = record { sum = s; count = n } }

abbrev here : List (Row Total)
here = of (0 ∷ 1 ∷ []) (pos 50) 1 ∷ of (2 ∷ 0 ∷ []) (negsuc 6) 3 ∷ []

abbrev there : List (Row Total)
there = of (0 ∷ 0 ∷ []) (pos 4) 2 ∷ of (2 ∷ 0 ∷ []) (pos 9) 1 ∷ []

abbrev met : List (Row Total)
met = of (0 ∷ 0 ∷ []) (pos 4) 2 ∷ of (0 ∷ 1 ∷ []) (pos 50) 1 ∷ of (2 ∷ 0 ∷ []) (pos 2) 4 ∷ []

pub united_two : united sums 2 here there ≡ met
unfolding united folded grouped cuboid total
united_two = refl

pub merged_two : merged sums here there ≡ met
merged_two = refl
