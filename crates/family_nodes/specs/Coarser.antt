-- The nodes one level coarser than a node: how a row's list is found node by node.
--
--   rises hs n          what is to be added to n for each node that is one level coarser in one dimension: the factors of the dimensions that are not at ALL
--   ending ts xs n x    codes x are single on node n, and on none of those one level coarser
use Rattle.std.specs.Prelude.{Bool, not, ◌&&◌, List, [], ◌∷◌, map, ℕ, suc, ◌+◌, ◌*◌, ◌/◌, ◌%◌, ltb}
use Rattle.lists.specs.Lists.{every, only}
use Rattle.cube.specs.Condensed.{single}
use Rattle.family_nodes.specs.Families.{Levels, heights, families}

abbrev pub rises : List ℕ → ℕ → List ℕ
rises [] n = []
rises (h ∷ hs) n = only (ltb (suc (n % h)) h) 1 (map (λ s. h * s) (rises hs (n / h)))

unfoldable pub ending : List Levels → List (List ℕ) → ℕ → List ℕ → Bool
ending ts xs n x = single (families ts) xs n x && every (λ s. not (single (families ts) xs (n + s) x)) (rises (heights ts) n)
