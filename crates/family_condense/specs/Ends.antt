-- Rows condensed by nodes, from the codes of n rows at each level.
--
--   alone_at .. m x      row x shares its codes at the levels of node m with no other row
--   ends_at .. m x       and it shares those of each node one level coarser: node m is in the list of row x
--   proper k            the nodes below k other than node 0, by falling number
--   groups_of .. m       how many groups of two rows or more the rows form at node m
--   groups_in .. l       the same of all nodes of a list
--   Coarsens ..         rows that are alike at a node are so at each coarser one
--   Known .. node       the words of the nodes from a number on have the rows that are alone there
--   TakenIn ..          new rows at a node: it is noted for them, and the words of the node have these and the rows that were passed over
--   Lists .. node       the nodes from a number on that are in the lists of rows are noted, and no others
use Rattle.std.specs.Prelude.{◌≡◌, ◌≢◌, Bool, true, not, ◌&&◌, ◌||◌, List, [], ◌∷◌, ℕ, ◌+◌, ◌≤◌, ◌<◌, eqb, leb}
use Rattle.lists.specs.Lists.{keep, below, every, some}
use Rattle.rows_bits.specs.Rowsets.{has}
use Rattle.rows_slots.specs.Slots.{crowds, shares, packed}
use Rattle.rows_crowds.specs.Crowds.{ends}
use Rattle.rows_alone.specs.Alone.{words_of}
use Rattle.family_nodes.specs.Nodes.{node_count, finer}
use Rattle.family_nodes.specs.Coarser.{rises}
use Rattle.family_slots.specs.Slots.{node_key}
use Rattle.family_lists.specs.Lists.{has_node, Noted}

unfoldable pub proper : ℕ → List ℕ
proper k = keep (λ m. not (eqb m 0)) (below k)

module _ (columns : List ℕ) (n : ℕ) (hs : List ℕ) where
  unfoldable pub alone_at : ℕ → ℕ → Bool
  alone_at m x = not (shares 2 (node_key columns n hs m) n x)

  unfoldable pub ends_at : ℕ → ℕ → Bool
  ends_at m x = alone_at m x && every (λ s. not (alone_at (m + s) x)) (rises hs m)

  unfoldable pub groups_of : ℕ → ℕ
  groups_of m = ends (packed (crowds 2 (node_key columns n hs m) n))

  unfoldable pub groups_in : List ℕ → ℕ
  groups_in [] = 0
  groups_in (m ∷ l) = groups_of m + groups_in l

  pub record Coarsens : Type 0 where
    pub coarser : (m k : ℕ) → m < node_count hs → k < node_count hs → finer hs m k ≡ true → (x y : ℕ) → x < n → y < n
        → node_key columns n hs m x ≡ node_key columns n hs m y → node_key columns n hs k x ≡ node_key columns n hs k y

  pub record Known (alone : List ℕ) (node : ℕ) : Type 0 where
    pub each : (m : ℕ) → node ≤ m → m < node_count hs → (x : ℕ) → x < n → has (words_of alone m) x ≡ alone_at m x

  pub record Lists (listed : List ℕ) (node : ℕ) : Type 0 where
    pub each : (m : ℕ) → m < node_count hs → (x : ℕ) → x < n → has_node listed x m ≡ leb node m && ends_at m x

pub record TakenIn (new passed : List ℕ) (node : ℕ) (alone alone₂ listed listed₂ : List ℕ) : Type 0 where
  pub noted : Noted new node listed listed₂
  pub here : (x : ℕ) → has (words_of alone₂ node) x ≡ some (eqb x) new || has passed x
  pub others : (t : ℕ) → t ≢ node → words_of alone₂ t ≡ words_of alone t
