-- Examples over nodes, from the definitions by computation.
use mathlib.Core.Path.{◌≡◌, refl}
use mathlib.Core.List.{List, [], ◌∷◌, map, flat_map}
use Prim.Native.Nat.{ℕ}
use lib.IntN.{pos}
use lib.ListN.{length}
use Rattle.lists.specs.Lists.{below}
use Rattle.cube.specs.declared.Total.{Total}
use Rattle.cube.specs.Measure.{sums, Row}
use Rattle.cube.specs.Codes.{ALL}
use Rattle.cube.specs.Cube.{cuboid, existing, total, grouped, cells, complete}
use Rattle.cube.specs.Condensed.{base, normal, no_record, found, proper, single, listed, reach, shared, common, normals, ours, lookup}
use Rattle.family_nodes.specs.Nodes.{node_count, number_of, levels_of}
use Rattle.family_nodes.specs.Families.{Levels, families}

-- three, two and one levels below ALL, 24 nodes: node 21 has levels 1, 2, 1
abbrev figure : List ℕ
figure = 4 ∷ 3 ∷ 2 ∷ []

pub figure_6 : (node_count figure ≡ 24) × (levels_of figure 21 ≡ 1 ∷ 2 ∷ 1 ∷ []) × (number_of figure (1 ∷ 2 ∷ 1 ∷ []) ≡ 21)
figure_6 = (refl, refl, refl)

-- every node is the number of its levels
pub figure-all : map (λ n. number_of figure (levels_of figure n)) (below 24) ≡ below 24
figure-all = refl

-- the greatest number of nodes is reached: six dimensions of three levels
pub most-nodes : node_count (4 ∷ 4 ∷ 4 ∷ 4 ∷ 4 ∷ 4 ∷ []) ≡ 4096
most-nodes = refl

-- two dimensions: three chips in two families of chips, and two ports. Six nodes: 0 chip and port, 1 family and port, 2 port, 3 chip, 4 family, 5 all.
abbrev chips : List Levels
chips = (record { size = 2; table = 0 ∷ 0 ∷ 1 ∷ [] } ∷ []) ∷ [] ∷ []

abbrev many : List ℕ → ℕ → ℕ → Row Total
many x s n = record { codes = x; total = record { sum = pos s; count = n } }

abbrev rows : List (Row Total)
rows = many (0 ∷ 0 ∷ []) 5 1 ∷ many (1 ∷ 0 ∷ []) 7 1 ∷ many (2 ∷ 1 ∷ []) 9 1 ∷ []

-- the third row is alone in its family, and alone at its port; the others share theirs
pub chip-entries : ours (families chips) sums rows
    ≡ base (many (0 ∷ 0 ∷ []) 5 1) (3 ∷ []) ∷ base (many (1 ∷ 0 ∷ []) 7 1) (3 ∷ []) ∷ base (many (2 ∷ 1 ∷ []) 9 1) (4 ∷ 2 ∷ [])
    ∷ normal (many (5 ∷ ALL ∷ ALL ∷ []) 21 3) ∷ normal (many (4 ∷ 0 ∷ ALL ∷ []) 12 2) ∷ normal (many (2 ∷ ALL ∷ 0 ∷ []) 12 2) ∷ normal (many (1 ∷ 0 ∷ 0 ∷ []) 12 2) ∷ []
unfolding cuboid existing total grouped cells complete proper single listed reach shared common normals ours flat_map
chip-entries = refl

-- questions: family 0 at port 0; family 1; family 1 at port 0
pub chip_answers : map (λ c. lookup (families chips) c (ours (families chips) sums rows)) ((1 ∷ 0 ∷ 0 ∷ []) ∷ (4 ∷ 1 ∷ ALL ∷ []) ∷ (1 ∷ 1 ∷ 0 ∷ []) ∷ [])
    ≡ found 6 (record { sum = pos 12; count = 2 }) ∷ found 2 (record { sum = pos 9; count = 1 }) ∷ no_record ∷ []
unfolding cuboid existing total grouped cells complete proper single listed reach shared common normals ours flat_map
chip_answers = refl

pub chip-cells : length (complete (families chips) sums rows) ≡ 13
unfolding cuboid existing total grouped cells complete flat_map
chip-cells = refl
