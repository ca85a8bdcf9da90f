-- The groups of rows at a node are its shared cells, or all its cells; and the lists that are noted are ours.
use mathlib.Core.Path.{◌≡◌, refl, sym, ap, ap₂, ◌∙◌}
use mathlib.Core.Bool.{Bool, true, not, ◌&&◌, not-not}
use mathlib.Core.List.Memᴰ
use mathlib.Core.List.{List, [], ◌∷◌, map, flat_map}
use Prim.Native.Nat.{ℕ, ◌+◌, ◌≤◌, ◌<◌}
use native.Mathlib.Omega.{arith}
use lib.Dec.{eqb, leb}
use lib.ListN.{length, length-map, length-append}
use borrow.Author.Tests.{eq-eqb}
use Rattle.lists.specs.Lists.{◌∈◌, keep, every, below}
use Rattle.lists.specs.Order.{earlier, same}
use Rattle.lists.proofs.Members.{at_in, keep_in, keep_same, below_in, below_of}
use Rattle.lists.proofs.Order.{earlier_skip}
use Rattle.cube.specs.Cube.{cuboid}
use Rattle.cube.specs.Condensed.{proper as properOf, single, listed, shared, common, Base}
use Rattle.rows.specs.Rows.{row_at}
use Rattle.rows_order.specs.Index.{arranged}
use Rattle.rows_runs.specs.Runs.{runs}
use Rattle.rows_runs.proofs.Runs.{runs_same}
use Rattle.rows_slots.specs.Slots.{large, peer, crowds, shares}
use Rattle.rows_slots.proofs.Entries.{crowds-below}
use Rattle.rows_crowds.proofs.First.{arranged-same}
use Rattle.rows_crowds.proofs.Left.{ends-packed}
use Rattle.family_nodes.specs.Nodes.{node_count}
use Rattle.family_nodes.specs.Families.{Levels, heights, families}
use Rattle.family_nodes.specs.Coarser.{rises, ending}
use Rattle.family_nodes.proofs.Laws.{some-levels, families-laws}
use Rattle.family_nodes.proofs.Coarser.{rises-coarser}
use Rattle.family_nodes.proofs.Promises.{list_is}
use Rattle.family_slots.specs.Slots.{node_key}
use Rattle.family_condense.specs.Ends.{proper, alone_at, ends_at, groups_of, groups_in}
use Rattle.family_cells.specs.Levelled.{Levelled}
use Rattle.family_cells.proofs.Keys.{key-coarse}
use Rattle.family_cells.proofs.Groups.{shares-single, crowds-cuboid, crowds-shared}

every-among : {A : Type 0} (p q : A → Bool) (l : List A) → ((x : A) → x ∈ l → p x ≡ q x) → every p l ≡ every q l
every-among p q [] h = refl
every-among p q (x ∷ l) h = ap₂ ◌&&◌ (h x (Memᴰ.head refl)) (every-among p q l (λ y m. h y (Memᴰ.tail m)))

module _ {ts : List Levels} {xs : List (List ℕ)} {columns : List ℕ} (w : Levelled ts xs columns) (b : Base (families ts) xs) where
  abbrev n : ℕ
  n = length xs

  abbrev hs : List ℕ
  hs = heights ts

  abbrev keys : ℕ → ℕ → List ℕ
  keys = node_key columns n hs

  -- ---- the cell of a row at a node: the node in front of its codes

  abbrev celled : ℕ → ℕ → List ℕ
  celled m i = m ∷ keys m i

  celled_is : (m i : ℕ) → i < n → celled m i ≡ (families ts).cell m (row_at xs i)
  celled_is m i h = ap (λ (l : List ℕ). m ∷ l) (key-coarse w b.valid i h m)

  celled-order : (m x y : ℕ) → earlier (keys m x) (keys m y) ≡ earlier (celled m x) (celled m y)
  celled-order m x y = sym (earlier_skip m m (keys m x) (keys m y) refl)

  arranged-celled : (m : ℕ) → arranged (keys m) n ≡ arranged (celled m) n
  arranged-celled m = arranged-same (keys m) (celled m) n (λ x y i j. celled-order m x y)

  crowds-celled : (least m : ℕ) → crowds least (keys m) n ≡ crowds least (celled m) n
  unfolding crowds
  crowds-celled least m =
      ap (keep (large least)) (ap (runs (keys m)) (arranged-celled m) ∙ runs_same (keys m) (celled m) (arranged (celled m) n) (λ x y i j. celled-order m x y))

  shares-celled : (m x : ℕ) → shares 2 (keys m) n x ≡ shares 2 (celled m) n x
  unfolding shares
  shares-celled m x =
      let own : eqb m m ≡ true = eq-eqb m m refl in
      ap (λ (l : List ℕ). leb 2 (length l)) (ap (keep (peer (keys m) x)) (arranged-celled m)
      ∙ keep_same (peer (keys m) x) (peer (celled m) x) (arranged (celled m) n) (λ y i. sym (ap (λ (t : Bool). t && same (keys m x) (keys m y)) own)))

  module _ (m : ℕ) (k : m < node_count hs) where
    node : m ∈ below (node_count hs)
    node = below_of (node_count hs) k

    -- the groups of two rows or more are the shared cells, and all groups the cells
    pub node-shared : map (λ r. m ∷ keys m r.first) (crowds 2 (keys m) n) ≡ shared (families ts) xs m
    node-shared = ap (map (λ r. m ∷ keys m r.first)) (crowds-celled 2 m) ∙ crowds-shared (families ts) (families-laws ts) xs b m node (celled m) (celled_is m)

    pub node-cuboid : map (λ r. m ∷ keys m r.first) (crowds 1 (keys m) n) ≡ cuboid (families ts) xs m
    node-cuboid = ap (map (λ r. m ∷ keys m r.first)) (crowds-celled 1 m) ∙ crowds-cuboid (families ts) (families-laws ts) xs b m node (celled m) (celled_is m)

    -- a row is alone just if it is single
    pub alone-single : (x : ℕ) → x < n → alone_at columns n hs m x ≡ single (families ts) xs m (row_at xs x)
    unfolding alone_at
    alone-single x h =
        ap not (shares-celled m x ∙ shares-single (families ts) (families-laws ts) xs b m node (celled m) (celled_is m) x h) ∙ not-not (single (families ts) xs m (row_at xs x))

    pub groups-shared : n ≤ 1024 → groups_of columns n hs m ≡ length (shared (families ts) xs m)
    unfolding groups_of
    groups-shared few =
        ends-packed (crowds 2 (keys m) n) (λ y i. omega (arith, crowds-below (keys m) n 2 few y i, few))
        ∙ sym (length-map (crowds 2 (keys m) n) (λ r. m ∷ keys m r.first)) ∙ ap length node-shared

  -- ---- our lists

  ends-ending : (m x : ℕ) → m < node_count hs → x < n → ends_at columns n hs m x ≡ ending ts xs m (row_at xs x)
  unfolding ends_at ending
  ends-ending m x k h = ap₂ ◌&&◌ (alone-single m k x h)
      (every-among (λ s. not (alone_at columns n hs (m + s) x)) (λ s. not (single (families ts) xs (m + s) (row_at xs x))) (rises hs m)
      (λ s i. ap not (alone-single (m + s) (rises-coarser hs m s (some-levels ts) k i).1 x h)))

  pub ends-listed : (x : ℕ) → x < n → keep (λ m. ends_at columns n hs m x) (proper (node_count hs)) ≡ listed (families ts) xs (row_at xs x)
  unfolding proper properOf
  ends-listed x h =
      keep_same (λ m. ends_at columns n hs m x) (λ m. ending ts xs m (row_at xs x)) (proper (node_count hs)) (λ m i. ends-ending m x (below_in (node_count hs) (keep_in (λ s. not (eqb s 0)) (below (node_count hs)) i).0) h)
      ∙ sym (list_is ts xs (row_at xs x) (b.valid (row_at xs x) (at_in [] xs x h)))

  -- ---- how many cells rows share

  groups-flat : n ≤ 1024 → (l : List ℕ) → ((m : ℕ) → m ∈ l → m < node_count hs) → groups_in columns n hs l ≡ length (flat_map (shared (families ts) xs) l)
  unfolding groups_in flat_map
  groups-flat few [] f = refl
  groups-flat few (m ∷ l) f =
      ap₂ ◌+◌ (groups-shared m (f m (Memᴰ.head refl)) few) (groups-flat few l (λ k i. f k (Memᴰ.tail i)))
      ∙ sym (length-append (shared (families ts) xs m) (flat_map (shared (families ts) xs) l))

  pub groups-common : n ≤ 1024 → groups_in columns n hs (proper (node_count hs)) ≡ length (common (families ts) xs)
  unfolding common proper properOf
  groups-common few = groups-flat few (proper (node_count hs)) (λ m i. below_in (node_count hs) (keep_in (λ s. not (eqb s 0)) (below (node_count hs)) i).0)
