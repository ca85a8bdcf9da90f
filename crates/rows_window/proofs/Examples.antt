-- Rows in a window, by computation.
use mathlib.Core.Path.{◌≡◌, refl}
use mathlib.Core.List.{List, [], ◌∷◌}
use Prim.Native.Nat.{ℕ}
use lib.IntN.{ℤ, pos}
use Rattle.cube.specs.declared.Total.{Total}
use Rattle.cube.specs.Measure.{sums, Row}
use Rattle.cube.specs.Codes.{ALL, plain}
use Rattle.cube.specs.Cube.{total}
use Rattle.rows_window.specs.Window.{Reply, unknown, told, seen, replied}

abbrev of : List ℕ → ℤ → Row Total
of x s = record { codes = x; total = record { sum = s; count = 1 } }

abbrev rows : List (Row Total)
rows = of (0 ∷ 1 ∷ []) (pos 50) ∷ of (1 ∷ 0 ∷ []) (pos 20) ∷ of (1 ∷ 1 ∷ []) (pos 9) ∷ []

pub seen_two : seen 1 1 rows ≡ of (1 ∷ 0 ∷ []) (pos 20) ∷ of (1 ∷ 1 ∷ []) (pos 9) ∷ []
seen_two = refl

-- in the window of code 1 of dimension 1; in one without rows; in that of code 1 of dimension 2
abbrev through : ℕ → ℕ → List ℕ → Reply Total
through i k c = replied (plain 2) sums (seen i k rows) c

pub replies : through 1 1 (1 ∷ ALL ∷ []) ∷ through 1 2 (2 ∷ ALL ∷ []) ∷ through 2 1 (ALL ∷ 1 ∷ []) ∷ []
    ≡ told (record { sum = pos 29; count = 2 }) ∷ unknown ∷ told (record { sum = pos 59; count = 2 }) ∷ []
unfolding replied total
replies = refl
