-- The lists of nodes of rows, as bits: 4,096 bits for each row, which are four blocks of 32 words.
--
--   has_node listed x m     row x has node m
--   nodes_of listed x k     its nodes below k, by falling number
--   Noted rows node ..     node is noted for the rows; all else is as it was
use Rattle.std.specs.Prelude.{◌≡◌, Bool, ◌&&◌, ◌||◌, List, ℕ, ◌+◌, ◌*◌, ◌/◌, ◌%◌, ◌<◌, eqb, length}
use Rattle.lists.specs.Lists.{some, keep, below}
use Rattle.rows_bits.specs.Rowsets.{has}
use Rattle.rows_alone.specs.Alone.{words_of}

unfoldable pub has_node : List ℕ → ℕ → ℕ → Bool
has_node listed x m = has (words_of listed (x * 4 + m / 1024)) (m % 1024)

unfoldable pub nodes_of : List ℕ → ℕ → ℕ → List ℕ
nodes_of listed x k = keep (has_node listed x) (below k)

pub record Noted (rows : List ℕ) (node : ℕ) (listed listed₂ : List ℕ) : Type 0 where
  pub size : length listed₂ ≡ length listed
  pub each : (x m : ℕ) → m < 4096 → has_node listed₂ x m ≡ (some (eqb x) rows && eqb m node) || has_node listed x m
