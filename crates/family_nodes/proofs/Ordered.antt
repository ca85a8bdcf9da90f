-- The complete cube over families goes by falling node, then by codes.
use mathlib.Core.Path.{◌≡◌, sym, ◌∙◌}
use mathlib.Core.Logic.{◌≢◌}
use mathlib.Core.Bool.{true, or-true}
use mathlib.Core.List.Memᴰ
use mathlib.Core.List.{List}
use Prim.Native.Nat.{ℕ, ◌<◌}
use native.Mathlib.Omega.{arith}
use lib.ListN.{length}
use borrow.Author.Tests.{lt-ltb, eq-eqb}
use Rattle.lists.specs.Lists.{◌∈◌, below}
use Rattle.lists.specs.Order.{Rising, earlier}
use Rattle.lists.proofs.Members.{below_length}
use Rattle.lists.proofs.Pairwise.{pairwise_flat, pairwise_map, pairwise_imp}
use Rattle.lists.proofs.Pigeonhole.{fewest}
use Rattle.cube.specs.Measure.{Measure, Row, codes_of}
use Rattle.cube.specs.Lattice.{Lattice}
use Rattle.cube.specs.Cube.{existing, filled, cells, complete}
use Rattle.cube.specs.Condensed.{proper, listed}
use Rattle.cube.specs.Table.{Table}
use Rattle.cube.proofs.Nodes.{proper_in, proper-few}
use Rattle.cube.proofs.Smallest.{listed_in, listed-distinct}
use Rattle.cube.proofs.Existing.{existing_in, existing-rising}
use Rattle.cube.proofs.Folding.{coded}
use Rattle.family_nodes.specs.Nodes.{node_count}
use Rattle.family_nodes.specs.Families.{Levels, heights, node, families, listed_by_node}
use Rattle.family_nodes.proofs.Laws.{families-laws, falling}

module _ {A : Type 0} (p q : Row A) where
  one_node : node p.codes ≡ node q.codes → earlier p.codes q.codes ≡ true → listed_by_node p q ≡ true
  one_node e h = rw (eq-eqb (node p.codes) (node q.codes) e, h, or-true)

  two-nodes : node q.codes < node p.codes → listed_by_node p q ≡ true
  two-nodes h = rw (lt-ltb (node q.codes) (node p.codes) h)

module _ (ts : List Levels) {A : Type 0} (M : Measure A) (rows : List (Row A)) (t : Table (length ts) rows) where
  abbrev L : Lattice
  L = families ts

  abbrev k : ℕ
  k = node_count (heights ts)

  node-cells : {r : Row A} {s : ℕ} → s ∈ below k → r ∈ cells L M rows s → node r.codes ≡ s
  unfolding cells
  node-cells {r} {s} h m =
      let q = Memᴰ.of_map (filled L M rows) (existing L (codes_of rows) s) m in
      rw (← q.2) (existing_in L (families-laws ts) (codes_of rows) (coded (length ts) rows t) h q.1).1

  cells-rising : (s : ℕ) → s ∈ below k → Rising listed_by_node (cells L M rows s)
  unfolding cells
  cells-rising s h = pairwise_imp (λ p q. earlier p.codes q.codes ≡ true) (λ p q. listed_by_node p q ≡ true) (cells L M rows s)
      (λ p q i j e. one_node p q (node-cells h i ∙ sym (node-cells h j)) e)
      (pairwise_map (λ p q. earlier p.codes q.codes ≡ true) (filled L M rows) (existing L (codes_of rows) s) (existing-rising L (codes_of rows) s))

  pub complete-rising : Rising listed_by_node (complete L M rows)
  unfolding complete
  complete-rising = pairwise_flat (λ p q. listed_by_node p q ≡ true) (cells L M rows) (below k) cells-rising
      (pairwise_imp (λ s u. u < s) (λ s u. (p q : Row A) → p ∈ cells L M rows s → q ∈ cells L M rows u → listed_by_node p q ≡ true) (below k)
      (λ s u i j h p q m n. two-nodes p q (rw (node-cells i m, node-cells j n) h))
      (falling k))

-- Our list of a row has fewer nodes than there are, and node 0 is none of them.
pub listed-few : (ts : List Levels) (xs : List (List ℕ)) (x : List ℕ) → length (listed (families ts) xs x) < node_count (heights ts)
listed-few ts xs x =
    let L = families ts in
    let W = families-laws ts in
    omega (arith, fewest (listed L xs x) (proper L) (listed-distinct L W xs x) (λ s m. (listed_in L W xs x m).0), proper-few L W, below_length (node_count (heights ts)))

pub listed_above : (ts : List Levels) (xs : List (List ℕ)) (x : List ℕ) {n : ℕ} → n ∈ listed (families ts) xs x → n ≢ 0
listed_above ts xs x m = (proper_in (families ts) (families-laws ts) (listed_in (families ts) (families-laws ts) xs x m).0).1
