-- The groups of rows under nodes. `columns` has the codes of n rows at each level: four columns for each dimension, as many as it has levels in use.
--
--   level_code ..         the code of row x at level l of a dimension of h levels whose columns start at number c: ALL at the highest
--   codes_at ..           its codes at the levels of number q, in dimensions whose columns start at number c
--   node_key ..           its codes at the levels of a node
--   Held ..              slot k has the groups that the rows form by their codes at the levels of a node
--   Stack ..             for each dimension j the slot that at j names has the groups of the node topped up to it
--   Started ..           so it is at the node of the highest number, whatever the columns have; and r rows do not share their key there
--   Put ..               slot k has the entries l, and the others have what they had
--   Pointed ..           at names slot k for each dimension up to k, and what it did for the others
--   Small columns        each word is a code or ALL
use Rattle.std.specs.Prelude.{◌≡◌, ◌≢◌, cond, List, [], ◌∷◌, ℕ, suc, ◌+◌, ◌-◌, ◌/◌, ◌%◌, ◌≤◌, ◌<◌, ltb, length, get_or, take}
use Rattle.cube.specs.Codes.{ALL}
use Rattle.rows_slots.specs.Slots.{crowds, loners, packed}
use Rattle.rows_columns.specs.Columns.{part}
use Rattle.family_nodes.specs.Nodes.{node_count}
use Rattle.family_slots.specs.Turns.{topped}

module _ (columns : List ℕ) (n : ℕ) where
  abbrev pub level_code : ℕ → ℕ → ℕ → ℕ → ℕ
  level_code c h l x = cond (ltb (suc l) h) (get_or (part (c + l) n columns) x 0) ALL

  abbrev pub codes_at : ℕ → List ℕ → ℕ → ℕ → List ℕ
  codes_at c [] q x = []
  codes_at c (h ∷ hs) q x = level_code c h (q % h) x ∷ codes_at (c + 4) hs (q / h) x

  unfoldable pub node_key : List ℕ → ℕ → ℕ → List ℕ
  node_key hs node x = codes_at 0 hs node x

pub record Held (least n : ℕ) (columns hs : List ℕ) (node : ℕ) (store sizes : List ℕ) (k : ℕ) : Type 0 where
  pub few : get_or sizes k 0 ≤ n
  pub slot : part k (get_or sizes k 0) store ≡ packed (crowds least (node_key columns n hs node) n)

pub record Stack (least n : ℕ) (columns hs : List ℕ) (node : ℕ) (store sizes at : List ℕ) : Type 0 where
  pub low : (j : ℕ) → j ≤ length hs → j ≤ get_or at j 0
  pub high : (j : ℕ) → j ≤ length hs → get_or at j 0 ≤ length hs
  pub held : (j : ℕ) → j ≤ length hs → Held least n columns hs (topped hs j node) store sizes (get_or at j 0)

pub record Started (least n : ℕ) (hs store sizes at lone : List ℕ) (r : ℕ) : Type 0 where
  pub stack : (columns : List ℕ) → Stack least n columns hs (node_count hs - 1) store sizes at
  pub left : (columns : List ℕ) → take r lone ≡ loners least (node_key columns n hs (node_count hs - 1)) n

pub record Put (l store sizes store₂ sizes₂ : List ℕ) (k : ℕ) : Type 0 where
  pub size : get_or sizes₂ k 0 ≡ length l
  pub here : part k (get_or sizes₂ k 0) store₂ ≡ l
  pub kept : (t : ℕ) → t ≢ k → get_or sizes₂ t 0 ≡ get_or sizes t 0
  pub others : (t m : ℕ) → t ≢ k → m ≤ 1024 → part t m store₂ ≡ part t m store

pub record Pointed (at at₂ : List ℕ) (k : ℕ) : Type 0 where
  pub here : (j : ℕ) → j ≤ k → get_or at₂ j 0 ≡ k
  pub others : (j : ℕ) → k < j → get_or at₂ j 0 ≡ get_or at j 0

abbrev pub Small : List ℕ → Type 0
Small columns = (i : ℕ) → get_or columns i 0 < 65536
