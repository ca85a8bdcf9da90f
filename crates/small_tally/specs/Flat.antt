-- The small tables as the code makes them.
--
--   flat_row d j       the words of row j: j in binary as its codes, and the total of one reading, 1
--   flat_rows d t      the rows of table t in a flat list
--   Coding d xs       each of xs is d codes
--   Zeros l           a list of zeros
use Rattle.std.specs.Prelude.{◌≡◌, ℕ, ◌^◌, get_or}
use mathlib.Core.List.{List, [], ◌∷◌, ◌++◌, flat_map}
use Rattle.lists.specs.Lists.{◌∈◌, keep}
use Rattle.cube.specs.Codes.{Coded}
use Rattle.small_model.specs.Small.{up_to, bit_of, binary}

unfoldable pub flat_row : ℕ → ℕ → List ℕ
flat_row d j = binary d j ++ (1 ∷ 0 ∷ 1 ∷ [])

unfoldable pub flat_rows : ℕ → ℕ → List ℕ
flat_rows d t = flat_map (flat_row d) (keep (bit_of t) (up_to (2 ^ d)))

abbrev pub Coding : ℕ → List (List ℕ) → Type 0
Coding d xs = (x : List ℕ) → x ∈ xs → Coded d x

abbrev pub Zeros : List ℕ → Type 0
Zeros l = (i : ℕ) → get_or l i 0 ≡ 0
