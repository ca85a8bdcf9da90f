-- Three rows in columns, by computation: three chips in two families of chips, and two ports.
use mathlib.Core.Path.{◌≡◌, refl}
use mathlib.Core.List.{List, [], ◌∷◌, map}
use Prim.Native.Nat.{ℕ}
use Rattle.family_nodes.specs.Families.{Levels, heights}
use Rattle.family_slots.specs.Turns.{turn_at, turn_column, topped, parent}
use Rattle.family_cells.specs.Levelled.{level_codes}

abbrev chips : List Levels
chips = (record { size = 2; table = 0 ∷ 0 ∷ 1 ∷ [] } ∷ []) ∷ [] ∷ []

abbrev rows : List (List ℕ)
rows = (0 ∷ 0 ∷ []) ∷ (1 ∷ 0 ∷ []) ∷ (2 ∷ 1 ∷ []) ∷ []

-- chips, families of chips, ports
pub chip_columns : (level_codes chips 0 0 rows ≡ 0 ∷ 1 ∷ 2 ∷ []) × (level_codes chips 0 1 rows ≡ 0 ∷ 0 ∷ 1 ∷ []) × (level_codes chips 1 0 rows ≡ 0 ∷ 0 ∷ 1 ∷ [])
unfolding level_codes
chip_columns = (refl, refl, refl)

-- by falling number: from 5 (all) to families, to chips, to ports, to families at ports, to chips at ports
pub chip_turns : (map (turn_at (heights chips)) (5 ∷ 4 ∷ 3 ∷ 2 ∷ 1 ∷ []) ≡ 0 ∷ 0 ∷ 1 ∷ 0 ∷ 0 ∷ []) × (map (turn_column 0 (heights chips)) (5 ∷ 4 ∷ 3 ∷ 2 ∷ 1 ∷ []) ≡ 1 ∷ 0 ∷ 4 ∷ 1 ∷ 0 ∷ [])
    × (map (parent (heights chips)) (4 ∷ 3 ∷ 2 ∷ 1 ∷ 0 ∷ []) ≡ 5 ∷ 5 ∷ 5 ∷ 2 ∷ 2 ∷ [])
chip_turns = (refl, refl, refl)

-- three, two and one levels below ALL: node 21 has levels 1, 2, 1; with ALL in its first dimension it is node 23
pub figure-topped : topped (4 ∷ 3 ∷ 2 ∷ []) 1 21 ≡ 23
figure-topped = refl
