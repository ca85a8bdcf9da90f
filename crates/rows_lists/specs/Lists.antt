-- The lists of sets of n rows in one flat list: that of row i starts at 71 * i with how many sets it has (70 at most: document 01, number 9), then its sets.
--
--   lists_of n ls     the lists of n rows
--   Short n ls       no list has more than 70 sets, by how many it says
--   Empty n ls       no list has a set
--   Fit ls           no list has more than 70 sets
--   noted s l ls     lists with set s behind those of the rows l
--   our_lists d xs    our lists of base rows with codes xs
use Rattle.std.specs.Prelude.{◌≡◌, List, [], ◌∷◌, ◌++◌, map, ℕ, zero, suc, ◌*◌, ◌≤◌, ◌<◌, length, get_or, set, take, drop}
use Rattle.lists.specs.Lists.{◌∈◌}
use Rattle.cube.specs.Codes.{plain}
use Rattle.cube.specs.Condensed.{listed}

unfoldable pub lists_of : ℕ → List ℕ → List (List ℕ)
lists_of zero ls = []
lists_of (suc n) ls = take (get_or ls 0 0) (drop 1 ls) ∷ lists_of n (drop 71 ls)

abbrev pub Short : ℕ → List ℕ → Type 0
Short n ls = (i : ℕ) → i < n → get_or ls (i * 71) 0 ≤ 70

abbrev pub Empty : ℕ → List ℕ → Type 0
Empty n ls = (i : ℕ) → i < n → get_or ls (i * 71) 0 ≡ 0

abbrev pub Fit : List (List ℕ) → Type 0
Fit ls = (l : List ℕ) → l ∈ ls → length l ≤ 70

unfoldable pub noted : ℕ → List ℕ → List (List ℕ) → List (List ℕ)
noted s [] ls = ls
noted s (x ∷ l) ls = noted s l (set ls x (get_or ls x [] ++ s ∷ []))

unfoldable pub our_lists : ℕ → List (List ℕ) → List (List ℕ)
our_lists d xs = map (listed (plain d) xs) xs
