-- The rows that are single on each node, as sets of rows: the words of node m stand at 32 * m.
--
--   passed_over alone hs node x   row x is in the words of a node that is one level coarser in one dimension
--   raised alone node f hs q x   the same from a dimension on, whose factor is f and whose levels are those of q
--   Kept rows alone alone₂ k     the words of node k have these rows, and those of the others are as they were
use Rattle.std.specs.Prelude.{◌≡◌, ◌≢◌, Bool, false, ◌&&◌, ◌||◌, List, [], ◌∷◌, ℕ, ◌+◌, ◌*◌, ◌/◌, ◌%◌, ltb}
use Rattle.lists.specs.Lists.{some}
use Rattle.rows_bits.specs.Rowsets.{has}
use Rattle.rows_alone.specs.Alone.{words_of}
use Rattle.family_nodes.specs.Coarser.{rises}

unfoldable pub passed_over : List ℕ → List ℕ → ℕ → ℕ → Bool
passed_over alone hs node x = some (λ s. has (words_of alone (node + s)) x) (rises hs node)

unfoldable pub raised : List ℕ → ℕ → ℕ → List ℕ → ℕ → ℕ → Bool
raised alone node f [] q x = false
raised alone node f (h ∷ hs) q x = (ltb (q % h + 1) h && has (words_of alone (node + f)) x) || raised alone node (f * h) hs (q / h) x

pub record Kept (rows alone alone₂ : List ℕ) (k : ℕ) : Type 0 where
  pub here : (x : ℕ) → has (words_of alone₂ k) x ≡ has rows x
  pub others : (t : ℕ) → t ≢ k → words_of alone₂ t ≡ words_of alone t
