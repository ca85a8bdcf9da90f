-- The level fields and their stops, by computation.
use mathlib.Core.Path.{◌≡◌, refl}
use mathlib.Core.List.{List, [], ◌∷◌, ◌++◌, map, flat_map}
use Prim.Native.Nat.{ℕ}
use lib.ListN.{replicate}
use Rattle.fields.specs.Words.{word_at, words_at, words_bytes}
use Rattle.fields_walk.specs.Parsed.{Parsed, stop, got, many}
use Rattle.fields_walk.specs.Fields.{room, word, field}
use Rattle.family_nodes.specs.Families.{Level, Levels}
use Rattle.family_fields.specs.Shape.{level, levels, towers, levelled}
use Rattle.family_fields.specs.Places.{tables, nodes_of, levels_at}

-- three chips in two families, two ports: their level counts are 2 and 1
abbrev chips : List Levels
chips = (record { size = 2; table = 0 ∷ 0 ∷ 1 ∷ [] } ∷ []) ∷ [] ∷ []

abbrev fields : List ℕ
fields = words_bytes (2 ∷ 1 ∷ 2 ∷ 0 ∷ 0 ∷ 1 ∷ [])

pub reads-chips : levelled (3 ∷ 2 ∷ []) fields ≡ got chips []
unfolding levelled towers levels level field word room many word_at words_bytes
reads-chips = refl

-- its one table begins behind the two level counts, with its size at place 8
pub chips-at : (tables (2 ∷ 1 ∷ []) ≡ 1) × (nodes_of (2 ∷ 1 ∷ []) ≡ 6) × (levels_at fields (3 ∷ 2 ∷ []) (2 ∷ 1 ∷ []) (8 ∷ []) ≡ chips)
unfolding word_at words_at words_bytes
chips-at = (refl, refl, refl)

-- level counts 0 and 5; a count missing though an earlier one is whole; a level's size 0 and 65,536; an entry not below the next size; a table cut
pub stops : map (λ ws. levelled (3 ∷ 2 ∷ []) (words_bytes ws)) (
    (0 ∷ 1 ∷ [])
    ∷ (1 ∷ 5 ∷ [])
    ∷ (2 ∷ [])
    ∷ (2 ∷ 1 ∷ 0 ∷ [])
    ∷ (2 ∷ 1 ∷ 65536 ∷ [])
    ∷ (2 ∷ 1 ∷ 2 ∷ 0 ∷ 2 ∷ [])
    ∷ (2 ∷ 1 ∷ 2 ∷ 0 ∷ 0 ∷ [])
    ∷ [])
    ≡ stop 21 ∷ stop 21 ∷ stop 2 ∷ stop 21 ∷ stop 21 ∷ stop 21 ∷ stop 2 ∷ []
unfolding levelled towers levels level field word room many word_at words_bytes
stops = refl

-- six dimensions of one code each: of four levels they have 15,625 nodes, and of three 4,096; 22 waits for the last table, and 21 there comes first
abbrev shape : ℕ → ℕ → List ℕ → Parsed (List Levels)
shape n k last = levelled (replicate 6 1) (words_bytes (replicate 6 n ++ (flat_map (λ (m : ℕ). 1 ∷ 0 ∷ []) (replicate k 0) ++ last)))

abbrev alone : Level
alone = record { size = 1; table = 0 ∷ [] }

pub nodes : (shape 4 17 (1 ∷ 0 ∷ []) ≡ stop 22) × (shape 4 17 (1 ∷ 1 ∷ []) ≡ stop 21) × (shape 4 17 (1 ∷ []) ≡ stop 2) × (shape 3 11 (1 ∷ 0 ∷ []) ≡ got (replicate 6 (alone ∷ alone ∷ [])) [])
unfolding levelled towers levels level field word room many word_at words_bytes flat_map
nodes = (refl, refl, refl, refl)
