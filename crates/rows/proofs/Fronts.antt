-- What holds of the rows in the front of words holds of them as a slice, and back: the parts of `RowSlice::front` put in the place of the words, the number and the dimensions.
use mathlib.Core.Path.{◌≡◌}
use mathlib.Core.List.{List}
use Prim.Native.Nat.{ℕ, ◌*◌}
use lib.ListN.{take}
use Rattle.rows.specs.Rows.{width}

abbrev pub Front : ℕ → ℕ → List ℕ → ℕ → ℕ → List ℕ → Type 0
Front d n ws d' n' ws' = (ws' ≡ take (n * width d) ws) × (n' ≡ n) × (d' ≡ d)

pub fronted : {d n d' n' : ℕ} {ws' : List ℕ} (ws : List ℕ) (P : ℕ → ℕ → List ℕ → Type 0) → Front d n ws d' n' ws' → P d n (take (n * width d) ws) → P d' n' ws'
fronted ws P e p = rw (e.0, e.1, e.2) p

pub of_front : {d n d' n' : ℕ} {ws' : List ℕ} (ws : List ℕ) (P : ℕ → ℕ → List ℕ → Type 0) → Front d n ws d' n' ws' → P d' n' ws' → P d n (take (n * width d) ws)
of_front ws P e p = rw (← e.0, ← e.1, ← e.2) p
