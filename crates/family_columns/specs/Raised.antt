-- Codes raised to the next level by its table, and put into a column.
--
--   entry_of t a          entry a of a table
--   raised s z at l      the codes l at the next level, whose table of z entries stands at place at
--   PutInto ..           column c has these codes, and the others have what they had
--   dimension_codes ..    the codes of rows in dimension d at level l, where its next levels stand at places ps
--   Dimension ..         the columns of dimension d have its codes at each level, and those of the others are as they were
use Rattle.std.specs.Prelude.{◌≡◌, ◌≢◌, List, map, ℕ, ◌+◌, ◌*◌, ◌/◌, ◌≤◌, length, get_or}
use Rattle.fields.specs.Words.{words_at}
use Rattle.cube.specs.Codes.{ALL}
use Rattle.rows_order.specs.Index.{code_at}
use Rattle.rows_columns.specs.Columns.{part}
use Rattle.family_nodes.specs.Families.{lift}
use Rattle.family_fields.specs.Places.{tower_at}
use Rattle.family_slots.specs.Slots.{Small}

abbrev pub entry_of : List ℕ → ℕ → ℕ
entry_of t a = get_or t a ALL

unfoldable pub raised : List ℕ → ℕ → ℕ → List ℕ → List ℕ
raised s z at l = map (entry_of (words_at s z at)) l

pub record PutInto (codes columns columns₂ : List ℕ) (c : ℕ) : Type 0 where
  pub size : length columns₂ ≡ length columns
  pub here : part c (length codes) columns₂ ≡ codes
  pub others : (t m : ℕ) → t ≢ c → m ≤ 1024 → part t m columns₂ ≡ part t m columns
  pub small : Small columns → Small codes → Small columns₂

unfoldable pub dimension_codes : List ℕ → ℕ → List ℕ → ℕ → ℕ → List (List ℕ) → List ℕ
dimension_codes s z ps d l xs = map (λ x. lift (tower_at s z ps) l (code_at d x)) xs

pub record Dimension (s : List ℕ) (z : ℕ) (ps : List ℕ) (d : ℕ) (xs : List (List ℕ)) (columns columns₂ : List ℕ) (levels : ℕ) : Type 0 where
  pub size : length columns₂ ≡ length columns
  pub column : (l : ℕ) → l ≤ levels → part (d * 4 + l) (length xs) columns₂ ≡ dimension_codes s z ps d l xs
  pub others : (t : ℕ) → t / 4 ≢ d → part t (length xs) columns₂ ≡ part t (length xs) columns
  pub small : Small columns₂
