-- One node more: what is known of it, and the lists.
use mathlib.Core.Path.{◌≡◌, refl, sym, ap, ap₂, subst, ◌∙◌}
use mathlib.Core.Bool.{Bool, true, false, not, ◌&&◌, ◌||◌, false≢true, or-false}
use mathlib.Core.List.{List}
use Prim.Native.Nat.{ℕ, suc, ◌+◌, ◌-◌, ◌*◌, ◌/◌, ◌≤◌, ◌<◌}
use native.Mathlib.Omega.{arith}
use lib.Dec.{eqb, leb}
use lib.ListN.{get_or}
use borrow.Author.Tests.{eqb-true, eqb-false, eq-eqb, le-leb, lt-leb, leb-true, leb-false}
use Rattle.lists.specs.Lists.{some, every, keep, below}
use Rattle.lists.proofs.Tests.{cases, truth, refuted, some_in, some_of, every_of}
use Rattle.lists.proofs.Members.{at_in, keep_in, keep_of, keep_same, below_in}
use Rattle.rows_deals.specs.Deals.{Names, Zeros}
use Rattle.rows_bits.specs.Rowsets.{has, stays}
use Rattle.rows_order.specs.Index.{arranged}
use Rattle.rows_order.proofs.Arranged.{arranged_in, arranged_of}
use Rattle.rows_slots.specs.Slots.{shares, loners, lone_rows}
use Rattle.rows_slots.proofs.Stable.{keep_and}
use Rattle.rows_slots.proofs.Whole.{zero_at}
use Rattle.rows_columns.specs.Columns.{part}
use Rattle.rows_crowds.specs.Crowds.{ends}
use Rattle.rows_alone.specs.Alone.{words_of}
use Rattle.family_nodes.specs.Nodes.{node_count}
use Rattle.family_nodes.specs.Coarser.{rises}
use Rattle.family_nodes.proofs.Nodes.{Some, count-pos}
use Rattle.family_nodes.proofs.Coarser.{rises-coarser}
use Rattle.family_slots.specs.Turns.{Heights, parent}
use Rattle.family_slots.specs.Slots.{node_key, Stack}
use Rattle.family_slots.proofs.Stacked.{tall}
use Rattle.family_alone.specs.Alone.{passed_over}
use Rattle.family_lists.specs.Lists.{has_node, nodes_of}
use Rattle.family_lists.proofs.Listing.{node-none}
use Rattle.family_condense.specs.Ends.{alone_at, ends_at, proper, groups_of, Coarsens, Known, Lists, TakenIn}
use Rattle.family_condense.proofs.Alone.{new-ends, new_alone, new_in}

module _ {columns : List ℕ} {n : ℕ} {hs : List ℕ} {node : ℕ} {new passed alone alone₂ listed listed₂ : List ℕ} (t : TakenIn new passed node alone alone₂ listed listed₂) where
  pub known_next : Known columns n hs alone (suc node) → ((x : ℕ) → x < n → some (eqb x) new || has passed x ≡ alone_at columns n hs node x) → Known columns n hs alone₂ node
  known_next w f = record {
    each = λ m h k x i. cases (truth (eqb m node))
        (λ q. subst (λ (z : ℕ). has (words_of alone₂ z) x ≡ alone_at columns n hs z x) (sym (eqb-true m node q)) (t.here x ∙ f x i))
        (λ q. let d = eqb-false m node q in ap (λ (l : List ℕ). has l x) (t.others m d) ∙ w.each m (omega (arith, h, d)) k x i);
  }

  pub lists-next : node < 4096 → node_count hs ≤ 4096 → Lists columns n hs listed (suc node) → ((x : ℕ) → x < n → some (eqb x) new ≡ ends_at columns n hs node x) → Lists columns n hs listed₂ node
  lists-next few most w f = record {
    each = λ m k x i. t.noted.each x m (omega (arith, k, most)) ∙ ap (λ b. (some (eqb x) new && eqb m node) || b) (w.each m k x i) ∙ cases (truth (eqb m node)) (own m x i) (other m x);
  }
    where
      own : (m x : ℕ) → x < n → eqb m node ≡ true → (some (eqb x) new && eqb m node) || (leb (suc node) m && ends_at columns n hs m x) ≡ leb node m && ends_at columns n hs m x
      own m x i q =
          let e = eqb-true m node q in
          let low : leb (suc node) m ≡ false = lt-leb (suc node) m (omega (arith, e)) in
          let high : leb node m ≡ true = le-leb node m (omega (arith, e)) in
          ap₂ (λ a b. (some (eqb x) new && a) || (b && ends_at columns n hs m x)) q low ∙ simple (some (eqb x) new) ∙ f x i ∙ ap (λ z. ends_at columns n hs z x) (sym e) ∙ sym (ap (λ b. b && ends_at columns n hs m x) high)
        where
          simple : (b : Bool) → (b && true) || false ≡ b
          simple true = refl
          simple false = refl

      other : (m x : ℕ) → eqb m node ≡ false → (some (eqb x) new && eqb m node) || (leb (suc node) m && ends_at columns n hs m x) ≡ leb node m && ends_at columns n hs m x
      other m x q =
          let d = eqb-false m node q in
          let same : leb (suc node) m ≡ leb node m = cases (truth (leb node m))
          (λ u. le-leb (suc node) m (omega (arith, leb-true node m u, d)) ∙ sym u)
          (λ u. lt-leb (suc node) m (omega (arith, leb-false node m u)) ∙ sym u) in
          ap₂ (λ a b. (some (eqb x) new && a) || (b && ends_at columns n hs m x)) q same ∙ gone (some (eqb x) new) (leb node m && ends_at columns n hs m x)
        where
          gone : (b c : Bool) → (b && false) || c ≡ c
          gone true c = refl
          gone false c = refl

-- ---- at first nothing is known, and no list has a node

no_node : (listed : List ℕ) → Zeros listed → (x m : ℕ) → has_node listed x m ≡ false
no_node listed z x m = node-none listed x (m / 32) m (zero_at listed (x * 128 + m / 32) z) refl

module _ (columns : List ℕ) (n : ℕ) (hs : List ℕ) where
  pub known-none : (alone : List ℕ) (node : ℕ) → node_count hs ≤ node → Known columns n hs alone node
  known-none alone node h = record { each = λ m i k x j. absurd (omega (arith, h, i, k)) }

  pub lists-none : (listed : List ℕ) (node : ℕ) → node_count hs ≤ node → Zeros listed → Lists columns n hs listed node
  lists-none listed node h z = record {
    each = λ m k x i. no_node listed z x m ∙ sym (ap (λ b. b && ends_at columns n hs m x) (lt-leb node m (omega (arith, h, k))));
  }

  -- ---- the node of the highest number

  module _ (p : Some hs) where
    pub first-in : (x : ℕ) → x < n → some (eqb x) (loners 2 (node_key columns n hs (node_count hs - 1)) n) ≡ alone_at columns n hs (node_count hs - 1) x
    unfolding loners alone_at
    first-in x h =
        let keys = node_key columns n hs (node_count hs - 1) in
        let test : ℕ → Bool = λ y. not (shares 2 keys n y) in
        cases (truth (test x))
        (λ t. some_of (eqb x) {l = keep test (arranged keys n)} (keep_of test (arranged_of keys n h) t) (eq-eqb x x refl) ∙ sym t)
        (λ t. refuted (λ u. let r = some_in (eqb x) (keep test (arranged keys n)) u in
        false≢true (sym t ∙ subst (λ (z : ℕ). test z ≡ true) (sym (eqb-true x r.0 r.2)) (keep_in test (arranged keys n) r.1).1)) ∙ sym t)

    pub first_ends : (x : ℕ) → alone_at columns n hs (node_count hs - 1) x ≡ ends_at columns n hs (node_count hs - 1) x
    unfolding ends_at
    first_ends x =
        let k = node_count hs - 1 in
        let all : every (λ s. not (alone_at columns n hs (k + s) x)) (rises hs k) ≡ true = every_of (λ s. not (alone_at columns n hs (k + s) x)) (rises hs k)
        (λ s m. absurd (omega (arith, (rises-coarser hs k s p (omega (arith, count-pos hs p)) m).0, (rises-coarser hs k s p (omega (arith, count-pos hs p)) m).1))) in
        sym (ap (λ b. alone_at columns n hs k x && b) all ∙ plain (alone_at columns n hs k x))
      where
        plain : (b : Bool) → b && true ≡ b
        plain true = refl
        plain false = refl

  -- ---- when all nodes but node 0 had their turn

  pub lists-done : (listed : List ℕ) → Lists columns n hs listed 1 → (x : ℕ) → x < n → nodes_of listed x (node_count hs) ≡ keep (λ m. ends_at columns n hs m x) (proper (node_count hs))
  unfolding nodes_of proper
  lists-done listed w x h =
      keep_same (has_node listed x) (λ m. ends_at columns n hs m x && not (eqb m 0)) (below (node_count hs)) (λ m i. w.each m (below_in (node_count hs) i) x h ∙ turn m (ends_at columns n hs m x))
      ∙ sym (keep_and (λ m. ends_at columns n hs m x) (λ m. not (eqb m 0)) (below (node_count hs)))
    where
      swap : (a b : Bool) → a && b ≡ b && a
      swap true true = refl
      swap true false = refl
      swap false true = refl
      swap false false = refl

      some-node : (m : ℕ) → leb 1 m ≡ not (eqb m 0)
      some-node m = cases (truth (eqb m 0))
          (λ t. lt-leb 1 m (omega (arith, eqb-true m 0 t)) ∙ sym (ap not t))
          (λ t. le-leb 1 m (omega (arith, eqb-false m 0 t)) ∙ sym (ap not t))

      turn : (m : ℕ) (b : Bool) → leb 1 m && b ≡ b && not (eqb m 0)
      turn m b = swap (leb 1 m) b ∙ ap (λ c. b && c) (some-node m)

-- ---- the first node and the next

module _ {columns : List ℕ} {n : ℕ} {hs : List ℕ} {node : ℕ} {new passed alone alone₂ listed listed₂ : List ℕ} (w : Heights hs) (t : TakenIn new passed node alone alone₂ listed listed₂) where
  pub first_taken : suc node ≡ node_count hs → new ≡ loners 2 (node_key columns n hs (node_count hs - 1)) n → ((x : ℕ) → has passed x ≡ false) → Zeros listed
      → Known columns n hs alone₂ node × Lists columns n hs listed₂ node
  first_taken e is-new none z =
      let k : node_count hs - 1 ≡ node = omega (arith, e) in
      let in-new : (x : ℕ) → x < n → some (eqb x) new ≡ alone_at columns n hs node x = λ x h. ap (λ (l : List ℕ). some (eqb x) l) is-new ∙ first-in columns n hs (tall w) x h ∙ ap (λ m. alone_at columns n hs m x) k in
      let ends : (x : ℕ) → alone_at columns n hs node x ≡ ends_at columns n hs node x = λ x. subst (λ m. alone_at columns n hs m x ≡ ends_at columns n hs m x) k (first_ends columns n hs (tall w) x) in (
        known_next t (known-none columns n hs alone (suc node) (omega (arith, e))) (λ x h. ap (λ b. some (eqb x) new || b) (none x) ∙ or-false (some (eqb x) new) ∙ in-new x h),
        lists-next t (omega (arith, e, w.few)) w.few (lists-none columns n hs listed (suc node) (omega (arith, e)) z) (λ x h. in-new x h ∙ ends x),
      )

  pub next-taken : suc node < node_count hs → Coarsens columns n hs → Known columns n hs alone (suc node) → Lists columns n hs listed (suc node)
      → new ≡ keep (stays passed) (lone_rows 2 (node_key columns n hs (parent hs node)) (node_key columns n hs node) n) → ((x : ℕ) → has passed x ≡ passed_over alone hs node x)
      → Known columns n hs alone₂ node × Lists columns n hs listed₂ node
  next-taken k c known lists is-new told = (
    known_next t known (λ x h. ap (λ (l : List ℕ). some (eqb x) l || has passed x) is-new ∙ new_alone (tall w) k c known passed told x h),
    lists-next t (omega (arith, k, w.few)) w.few lists (λ x h. ap (λ (l : List ℕ). some (eqb x) l) is-new ∙ new-ends (tall w) k c known passed told x h),
  )

pub new-names : {columns : List ℕ} {n : ℕ} {hs alone : List ℕ} {node : ℕ} → n ≤ 1024 → Heights hs → suc node < node_count hs → Coarsens columns n hs → Known columns n hs alone (suc node) → (passed : List ℕ) → ((x : ℕ) → has passed x ≡ passed_over alone hs node x)
    → Names (keep (stays passed) (lone_rows 2 (node_key columns n hs (parent hs node)) (node_key columns n hs node) n)) 1024
new-names {columns} {n} {hs} {alone} {node} few w k c known passed told i h =
    omega (arith, (new_in (tall w) k c known passed told (at_in 0 (keep (stays passed) (lone_rows 2 (node_key columns n hs (parent hs node)) (node_key columns n hs node) n)) i h)).0, few)

pub loners-names : (least : ℕ) (keys : ℕ → List ℕ) (n : ℕ) → n ≤ 1024 → Names (loners least keys n) 1024
unfolding loners
loners-names least keys n few i h = omega (arith, arranged_in keys n (keep_in (λ x. not (shares least keys n x)) (arranged keys n) (at_in 0 (loners least keys n) i h)).0, few)

-- ---- the slot of the node in hand

module _ {n : ℕ} {columns hs : List ℕ} {node : ℕ} {store sizes at : List ℕ} (few : n ≤ 1024) (w : Heights hs) (s : Stack 2 n columns hs node store sizes at) where
  pub here-few : (get_or at 0 0 < 9) × (get_or sizes (get_or at 0 0) 0 ≤ 1024)
  here-few = (omega (arith, s.high 0 (omega arith), w.dims), omega (arith, (s.held 0 (omega arith)).few, few))

  pub here-groups : ends (part (get_or at 0 0) (get_or sizes (get_or at 0 0) 0) store) ≡ groups_of columns n hs node
  unfolding groups_of
  here-groups = ap ends (s.held 0 (omega arith)).slot
