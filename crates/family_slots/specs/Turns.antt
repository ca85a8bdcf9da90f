-- Nodes one after the other by falling number: from one to the next, the level of one dimension falls by one, and the dimensions before it go from level 0 to ALL.
--
--   Heights hs           numbers of levels with ALL: at most 8 dimensions of 2 to 5 levels, and at most 4,096 nodes
--   turn_at hs m          the dimension whose level falls from node m to the next: the first that is not at level 0
--   turn_column c hs m    the number of the column of the level to which it falls, where each dimension has four columns and those of the first start at number c
--   topped hs j node     the node with ALL in the first j dimensions, and with the levels of a node in the others
--   parent hs node       the node whose groups are carried over to those of a node: ALL up to the dimension whose level fell
use Rattle.std.specs.Prelude.{cond, List, [], ◌∷◌, ℕ, zero, suc, ◌+◌, ◌-◌, ◌*◌, ◌/◌, ◌%◌, ◌≤◌, eqb, length}
use Rattle.lists.specs.Lists.{◌∈◌}
use Rattle.family_nodes.specs.Nodes.{node_count}

pub record Heights (hs : List ℕ) : Type 0 where
  pub dims : length hs ≤ 8
  pub some : (h : ℕ) → h ∈ hs → 2 ≤ h
  pub most : (h : ℕ) → h ∈ hs → h ≤ 5
  pub few : node_count hs ≤ 4096

abbrev pub turn_at : List ℕ → ℕ → ℕ
turn_at [] m = 0
turn_at (h ∷ hs) m = cond (eqb (m % h) 0) (suc (turn_at hs (m / h))) 0

abbrev pub turn_column : ℕ → List ℕ → ℕ → ℕ
turn_column c [] m = c
turn_column c (h ∷ hs) m = cond (eqb (m % h) 0) (turn_column (c + 4) hs (m / h)) (c + (m % h - 1))

abbrev pub topped : List ℕ → ℕ → ℕ → ℕ
topped hs zero node = node
topped [] (suc j) node = node
topped (h ∷ hs) (suc j) node = h - 1 + h * topped hs j (node / h)

abbrev pub parent : List ℕ → ℕ → ℕ
parent hs node = topped hs (suc (turn_at hs (suc node))) node
