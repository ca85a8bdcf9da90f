-- Groups counted, node by node.
use mathlib.Core.Path.{◌≡◌, refl, sym, ap, ◌∙◌}
use mathlib.Core.Bool.{not}
use mathlib.Core.List.{List, [], ◌∷◌}
use Prim.Native.Nat.{ℕ, zero, suc, ◌+◌, ◌*◌, ◌≤◌}
use native.Mathlib.Omega.{arith}
use lib.Dec.{eqb}
use lib.ListN.{length, length-append}
use borrow.Author.Tests.{ne_eqb}
use Rattle.lists.specs.Lists.{below}
use Rattle.lists.proofs.Members.{keep-length}
use Rattle.rows_runs.specs.Runs.{Run, members}
use Rattle.rows_slots.specs.Slots.{flat, crowds}
use Rattle.rows_slots.proofs.Entries.{crowds-below, flat-few}
use Rattle.rows_crowds.proofs.Left.{ends-packed}
use Rattle.family_nodes.specs.Nodes.{node_count}
use Rattle.family_slots.specs.Slots.{node_key}
use Rattle.family_condense.specs.Ends.{proper, groups_of, groups_in}

-- ---- the nodes still to come

pub proper-next : (m : ℕ) → 1 ≤ m → proper (suc m) ≡ m ∷ proper m
unfolding proper
proper-next m h = rw (ne_eqb m 0 (λ e. omega (arith, e, h)))

pub proper-one : proper 1 ≡ []
unfolding proper
proper-one = refl

below_length : (k : ℕ) → length (below k) ≡ k
below_length zero = refl
below_length (suc k) = ap suc (below_length k)

proper-length : (k : ℕ) → length (proper k) ≤ k
unfolding proper
proper-length k = omega (arith, below_length k, keep-length (λ m. not (eqb m 0)) (below k))

runs-few : (rs : List Run) → length rs ≤ length (flat rs)
runs-few [] = omega arith
runs-few (r ∷ rs) = omega (arith, runs-few rs, length-append (members r) (flat rs))

module _ (columns : List ℕ) (n : ℕ) (hs : List ℕ) (few : n ≤ 1024) where
  groups-few : (m : ℕ) → groups_of columns n hs m ≤ 1024
  unfolding groups_of
  groups-few m =
      let keys = node_key columns n hs m in
      omega (arith, ends-packed (crowds 2 keys n) (λ y i. omega (arith, crowds-below keys n 2 few y i, few)), runs-few (crowds 2 keys n), flat-few keys n 2 few, few)

  groups-most : (l : List ℕ) → groups_in columns n hs l ≤ 1024 * length l
  unfolding groups_in
  groups-most [] = omega arith
  groups-most (m ∷ l) = omega (arith, groups-few m, groups-most l)

module _ (columns : List ℕ) (n : ℕ) (hs : List ℕ) where
  -- the cells of the nodes that had their turn, with those still to come, are all
  pub record Counting (cells node : ℕ) : Type 0 where
    pub whole : cells + groups_in columns n hs (proper node) ≡ groups_in columns n hs (proper (node_count hs))

  pub counting_start : {r : ℕ} (last : ℕ) → 1 ≤ last → suc last ≡ node_count hs → r ≡ groups_of columns n hs last → Counting r last
  unfolding groups_in
  counting_start last h e q = record { whole = ap (λ z. z + groups_in columns n hs (proper last)) q ∙ ap (groups_in columns n hs) (sym (proper-next last h) ∙ ap proper e) }

  module _ {cells node : ℕ} (c : Counting cells node) where
    pub counting-few : n ≤ 1024 → node_count hs ≤ 4096 → cells ≤ 4194304
    counting-few few h = omega (arith, c.whole, groups-most columns n hs few (proper (node_count hs)), proper-length (node_count hs), h)

    pub counting_more : {r : ℕ} (m : ℕ) → 1 ≤ m → suc m ≡ node → r ≡ groups_of columns n hs m → Counting (cells + r) m
    unfolding groups_in
    counting_more m h e q = record {
      whole = omega (arith, q, c.whole, ap (groups_in columns n hs) (ap proper (sym e) ∙ proper-next m h));
    }

    pub counting-done : node ≡ 1 → cells ≡ groups_in columns n hs (proper (node_count hs))
    unfolding groups_in
    counting-done e = omega (arith, c.whole, ap (groups_in columns n hs) (ap proper e ∙ proper-one))
