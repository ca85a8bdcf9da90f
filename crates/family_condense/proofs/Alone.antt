-- At a node whose coarser ones are known: rows may be passed over, those that come out alone have the node in their list, and both together are the rows that are alone there.
use mathlib.Core.Path.{◌≡◌, refl, sym, ap, subst, ◌∙◌}
use mathlib.Core.Bool.{Bool, true, false, not, ◌&&◌, ◌||◌, false≢true, or-true}
use mathlib.Core.List.Memᴰ
use mathlib.Core.List.{List, [], ◌∷◌}
use Prim.Native.Nat.{ℕ, suc, ◌+◌, ◌<◌}
use native.Mathlib.Omega.{arith}
use lib.Dec.{eqb}
use borrow.Author.Tests.{eq-eqb, eqb-true, not-true}
use Rattle.lists.specs.Lists.{◌∈◌, some, every, keep}
use Rattle.lists.proofs.Tests.{cases, truth, both, both_of, refuted, some_in, some_of}
use Rattle.lists.proofs.Members.{keep_in, keep_of}
use Rattle.rows_bits.specs.Rowsets.{has, stays}
use Rattle.rows_order.specs.Index.{arranged}
use Rattle.rows_order.proofs.Arranged.{arranged_in, arranged_of}
use Rattle.rows_slots.specs.Slots.{shares, parted, lone_rows}
use Rattle.rows_alone.specs.Alone.{words_of}
use Rattle.family_nodes.specs.Nodes.{node_count, finer}
use Rattle.family_nodes.specs.Coarser.{rises}
use Rattle.family_nodes.proofs.Nodes.{Some}
use Rattle.family_nodes.proofs.Coarser.{rises-coarser, rises-below}
use Rattle.family_slots.specs.Turns.{parent}
use Rattle.family_slots.specs.Slots.{node_key}
use Rattle.family_alone.specs.Alone.{passed_over}
use Rattle.family_condense.specs.Ends.{alone_at, ends_at, Coarsens, Known}
use Rattle.family_condense.proofs.Coarser.{parent-finer, parent-lt, parent-other, shares-coarser}

some-among : {A : Type 0} (p q : A → Bool) (l : List A) → ((x : A) → x ∈ l → p x ≡ q x) → some p l ≡ some q l
some-among p q [] h = refl
some-among p q (x ∷ l) h = ap (λ b. b || some p l) (h x (Memᴰ.head refl)) ∙ ap (λ b. q x || b) (some-among p q l (λ y m. h y (Memᴰ.tail m)))

every-none : {A : Type 0} (p : A → Bool) (l : List A) → every (λ x. not (p x)) l ≡ not (some p l)
every-none p [] = refl
every-none p (x ∷ l) = cases (truth (p x)) (λ t. rw t) (λ t. rw t (every-none p l))

module _ {columns : List ℕ} {n : ℕ} {hs alone : List ℕ} {node : ℕ} (p : Some hs) (k : suc node < node_count hs) (c : Coarsens columns n hs) (w : Known columns n hs alone (suc node)) where
  abbrev sharing : ℕ → ℕ → Bool
  sharing m x = shares 2 (node_key columns n hs m) n x

  abbrev single : ℕ → ℕ → Bool
  single m x = alone_at columns n hs m x

  here : node < node_count hs
  here = omega (arith, k)

  -- a node one level coarser is known
  passed_is : (x : ℕ) → x < n → passed_over alone hs node x ≡ some (λ s. single (node + s) x) (rises hs node)
  unfolding passed_over
  passed_is x h = some-among (λ s. has (words_of alone (node + s)) x) (λ s. single (node + s) x) (rises hs node)
      (λ s m. let r = rises-coarser hs node s p here m in w.each (node + s) (omega (arith, r.0)) r.1 x h)

  -- a row that is alone at a coarser node is so at a node that holds it
  alone-finer : (m q : ℕ) → m < node_count hs → q < node_count hs → finer hs m q ≡ true → (x : ℕ) → x < n → single q x ≡ true → single m x ≡ true
  unfolding alone_at
  alone-finer m q i j f x h t = cases (truth (sharing m x))
      (λ u. absurd (false≢true (sym (ap not (shares-coarser c m q i j f x h u)) ∙ t)))
      (λ u. ap not u)

  -- a row that is passed over is alone
  passed_alone : (x : ℕ) → x < n → passed_over alone hs node x ≡ true → single node x ≡ true
  passed_alone x h t =
      let r = some_in (λ s. single (node + s) x) (rises hs node) (sym (passed_is x h) ∙ t) in
      let q = rises-coarser hs node r.0 p here r.1 in
      alone-finer node (node + r.0) here q.1 q.2 x h r.2

  -- and so is one that is alone at the parent
  parent-passed : (x : ℕ) → x < n → single (parent hs node) x ≡ true → passed_over alone hs node x ≡ true
  parent-passed x h t =
      let r = rises-below hs node (parent hs node) p here (parent-lt hs node p k) (parent-finer hs node p k) (parent-other hs node p k) in
      let q = rises-coarser hs node r.0 p here r.1 in
      passed_is x h ∙ some_of (λ s. single (node + s) x) r.1 (alone-finer (node + r.0) (parent hs node) q.1 (parent-lt hs node p k) r.2 x h t)

  module _ (passed : List ℕ) (told : (x : ℕ) → has passed x ≡ passed_over alone hs node x) where
    pub alone-sound : (x : ℕ) → x < n → sharing node x ≡ true → stays passed x ≡ true
    unfolding alone_at
    alone-sound x h t = ap not (told x ∙ refuted (λ u. false≢true (sym (ap not t) ∙ passed_alone x h u)))

    -- the rows that come out alone
    abbrev new : List ℕ
    new = keep (stays passed) (lone_rows 2 (node_key columns n hs (parent hs node)) (node_key columns n hs node) n)

    pub new_in : {x : ℕ} → x ∈ new → (x < n) × (passed_over alone hs node x ≡ false) × (single node x ≡ true)
    unfolding lone_rows alone_at
    new_in {x} m =
        let r = keep_in (stays passed) (lone_rows 2 (node_key columns n hs (parent hs node)) (node_key columns n hs node) n) m in
        let q = keep_in (parted 2 (node_key columns n hs (parent hs node)) (node_key columns n hs node) n) (arranged (node_key columns n hs node) n) r.0 in
        let b = both (sharing (parent hs node) x) (not (sharing node x)) q.1 in
        (arranged_in (node_key columns n hs node) n q.0, sym (told x) ∙ not-true (has passed x) r.1, b.1)

    new_of : {x : ℕ} → x < n → passed_over alone hs node x ≡ false → single node x ≡ true → x ∈ new
    unfolding lone_rows alone_at
    new_of {x} h t u =
        let s : sharing (parent hs node) x ≡ true = cases (truth (sharing (parent hs node) x)) (λ v. v) (λ v. absurd (false≢true (sym t ∙ parent-passed x h (ap not v)))) in
        keep_of (stays passed) (keep_of (parted 2 (node_key columns n hs (parent hs node)) (node_key columns n hs node) n) (arranged_of (node_key columns n hs node) n h) (both_of s u)) (ap not (told x ∙ t))

    new-some : (x : ℕ) → x < n → some (eqb x) new ≡ single node x && not (passed_over alone hs node x)
    new-some x h = cases (truth (single node x))
        (λ t. cases (truth (passed_over alone hs node x))
        (λ u. refuted (λ v. none v (λ i. false≢true (sym (new_in i).1 ∙ u))) ∙ sym (rw (t, u) refl))
        (λ u. some_of (eqb x) {l = new} (new_of h u t) (eq-eqb x x refl) ∙ sym (rw (t, u) refl)))
        (λ t. refuted (λ v. none v (λ i. false≢true (sym t ∙ (new_in i).2))) ∙ sym (ap (λ b. b && not (passed_over alone hs node x)) t))
      where
        none : some (eqb x) new ≡ true → (x ∈ new → ⊥) → ⊥
        none v f = let r = some_in (eqb x) new v in f (subst (λ (z : ℕ). z ∈ new) (sym (eqb-true x r.0 r.2)) r.1)

    pub new-ends : (x : ℕ) → x < n → some (eqb x) new ≡ ends_at columns n hs node x
    unfolding ends_at
    new-ends x h =
        new-some x h ∙ ap (λ b. single node x && not b) (passed_is x h)
        ∙ ap (λ b. single node x && b) (sym (every-none (λ s. single (node + s) x) (rises hs node)))

    pub new_alone : (x : ℕ) → x < n → some (eqb x) new || has passed x ≡ single node x
    new_alone x h =
        ap (λ b. b || has passed x) (new-some x h) ∙ ap (λ b. (single node x && not (passed_over alone hs node x)) || b) (told x)
        ∙ cases (truth (passed_over alone hs node x))
        (λ t. rw t (or-true (single node x && false)) ∙ sym (passed_alone x h t))
        (λ t. rw t (plain (single node x)))
      where
        plain : (b : Bool) → (b && true) || false ≡ b
        plain true = refl
        plain false = refl
