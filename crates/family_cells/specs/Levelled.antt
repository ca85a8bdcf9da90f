-- The codes of rows at each level, in columns: four for each dimension, of which it uses as many as it has levels without ALL.
--
--   level_codes ts i l xs     the codes of the rows xs in dimension i, counted from 0, at level l
--   Levelled ts xs columns   the columns have them for each dimension and level
use Rattle.std.specs.Prelude.{◌≡◌, List, [], map, ℕ, ◌+◌, ◌*◌, ◌≤◌, ◌<◌, length, get_or}
use Rattle.rows_order.specs.Index.{code_at}
use Rattle.rows_columns.specs.Columns.{part}
use Rattle.family_nodes.specs.Families.{Levels, lift}

unfoldable pub level_codes : List Levels → ℕ → ℕ → List (List ℕ) → List ℕ
level_codes ts i l xs = map (λ x. lift (get_or ts i []) l (code_at i x)) xs

pub record Levelled (ts : List Levels) (xs : List (List ℕ)) (columns : List ℕ) : Type 0 where
  pub column : (i l : ℕ) → i < length ts → l ≤ length (get_or ts i []) → part (i * 4 + l) (length xs) columns ≡ level_codes ts i l xs
