-- Tables with their rows in another order, on bytes (document 02, C-11).
--
--   Rearranged d s t    the bytes t are the bytes s, of a table of d dimensions, with the rows' bytes in another order: what stands before the rows, and the
--                       check word behind them, are the same
use Rattle.std.specs.Prelude.{◌≡◌, ℕ, ◌+◌, ◌*◌, length}
use mathlib.Core.List.{List, ◌++◌, Permᴰ}
use Rattle.lists.specs.Lists.{◌∈◌, joined}

pub record Rearranged (d : ℕ) (s t : List ℕ) : Type 0 where
  pub front : List ℕ
  pub rows : List (List ℕ)
  pub others : List (List ℕ)
  pub last : List ℕ
  pub first : s ≡ front ++ (joined rows ++ last)
  pub second : t ≡ front ++ (joined others ++ last)
  pub order : Permᴰ rows others
  pub header : length front ≡ 12 + 4 * d
  pub each : (r : List ℕ) → r ∈ rows → length r ≡ 4 * d + 4
  pub check : length last ≡ 4
