-- Whose row comes next when two rising lists are merged.
--
--   Turn        whose row comes next: the first list's, the second's, or one of each with equal codes as one: the enum of src/lib.rt
--   turn xs ys  by the codes of the rows that are left of each
use Rattle.std.specs.Prelude.{Bool, true, false, List, [], ◌∷◌, ℕ}
use Rattle.lists.specs.Order.{earlier, same}
use Rattle.rows_merge.specs.declared.Turn.{Turn}
use Rattle.rows_merge.specs.declared.Turn.TheVariants.{First, Second, Both}

-- by whether the first codes come before, and whether they are the same
abbrev pub turn_by : Bool → Bool → Turn
turn_by true e = First
turn_by false true = Both
turn_by false false = Second

unfoldable pub turn : List (List ℕ) → List (List ℕ) → Turn
turn [] ys = Second
turn (x ∷ xs) [] = First
turn (x ∷ xs) (y ∷ ys) = turn_by (earlier x y) (same x y)
