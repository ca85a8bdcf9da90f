-- Rows asked through a window, by computation: the stops in their order, and replies.
use mathlib.Core.Path.{◌≡◌, refl}
use mathlib.Core.List.{List, [], ◌∷◌}
use Prim.Native.Nat.{ℕ}
use lib.IntN.{ℤ, pos}
use Rattle.std.specs.Prelude.{Option, Some, None, Result, Ok, Err}
use Rattle.cube.specs.declared.Total.{Total}
use Rattle.cube.specs.Measure.{Row}
use Rattle.cube.specs.Codes.{ALL}
use Rattle.cube.specs.Cube.{total}
use Rattle.rows_window.specs.Window.{seen, replied}
use Rattle.call_window.specs.Windows.{window}

abbrev of : List ℕ → ℤ → Row Total
of x s = record { codes = x; total = record { sum = s; count = 1 } }

abbrev rows : List (Row Total)
rows = of (0 ∷ 1 ∷ []) (pos 50) ∷ of (1 ∷ 0 ∷ []) (pos 20) ∷ of (1 ∷ 1 ∷ []) (pos 9) ∷ []

-- sizes 3 and 2, the window of dimension i and code k, asked q
abbrev through : ℕ → ℕ → List ℕ → Result (Option Total) ℕ
through i k q = window (3 ∷ 2 ∷ []) i k (seen i k rows) q

replies : through 3 7 (9 ∷ []) ∷ through 0 7 (9 ∷ []) ∷ through 1 3 (9 ∷ []) ∷ through 1 ALL (ALL ∷ ALL ∷ []) ∷ through 1 1 (9 ∷ []) ∷ through 1 1 (1 ∷ 2 ∷ [])
    ∷ through 1 1 (0 ∷ 1 ∷ []) ∷ through 1 1 (ALL ∷ 1 ∷ []) ∷ through 1 1 (1 ∷ ALL ∷ []) ∷ through 1 2 (2 ∷ ALL ∷ []) ∷ through 2 1 (ALL ∷ 1 ∷ []) ∷ []
    ≡ Err 16 ∷ Err 16 ∷ Err 13 ∷ Err 13 ∷ Err 13 ∷ Err 13 ∷ Err 20 ∷ Err 20 ∷ Ok (Some (record { sum = pos 29; count = 2 })) ∷ Ok None ∷ Ok (Some (record { sum = pos 59; count = 2 })) ∷ []
unfolding window replied total
replies = refl
