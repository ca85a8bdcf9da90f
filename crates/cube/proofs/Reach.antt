-- The cells that a list of nodes stands for, and that no list for the same cells is shorter than ours.
use mathlib.Core.Path.{◌≡◌, sym}
use mathlib.Core.Logic.{◌⊎◌, inl, inr, ◌↔◌}
use mathlib.Core.Bool.{Bool, true, ◌||◌, or-true}
use mathlib.Core.List.Memᴰ
use mathlib.Core.List.{List}
use Prim.Native.Nat.{ℕ, ◌≤◌}
use lib.Dec.{eqb}
use lib.ListN.{length}
use borrow.Author.Tests.{eq-eqb, eqb-true}
use Rattle.lists.specs.Lists.{◌∈◌, some, keep}
use Rattle.lists.proofs.Tests.{cases, either, some_in, some_of}
use Rattle.lists.proofs.Members.{keep_in, keep_of}
use Rattle.lists.proofs.Pigeonhole.{fewest}
use Rattle.cube.specs.Lattice.{Lattice, Laws}
use Rattle.cube.specs.Condensed.{listed, reach}
use Rattle.cube.proofs.Nodes.{proper_in, holds_antisym, one_node}
use Rattle.cube.proofs.Smallest.{listed_in, listed-distinct, listed-least}

module _ (L : Lattice) (W : Laws L) where
  -- node s is one of those that list l stands for
  abbrev pub Reached : List ℕ → ℕ → Type 0
  Reached l s = (s ≡ L.finest) ⊎ ((t : ℕ) × (t ∈ l) × (L.holds s t ≡ true))

  abbrev reached : List ℕ → ℕ → Bool
  reached l s = eqb s L.finest || some (L.holds s) l

  pub reach_in : (x l c : List ℕ) → c ∈ reach L x l → (s : ℕ) × (s ∈ L.nodes) × (c ≡ L.cell s x) × Reached l s
  unfolding reach
  reach_in x l c m =
      let r = Memᴰ.of_map (λ s. L.cell s x) (keep (reached l) L.nodes) m in
      let t = keep_in (reached l) L.nodes r.1 in (
        r.0,
        t.0,
        sym r.2,
        cases (either (eqb r.0 L.finest) (some (L.holds r.0) l) t.1)
            (λ e. inl (eqb-true r.0 L.finest e))
            (λ e. inr (some_in (L.holds r.0) l e)),
      )

  pub reach_of : (x l : List ℕ) {s : ℕ} → s ∈ L.nodes → Reached l s → L.cell s x ∈ reach L x l
  unfolding reach
  reach_of x l {s} h q = Memᴰ.map (λ s. L.cell s x) (keep_of (reached l) h (cases q
      (λ e. rw (eq-eqb s L.finest e))
      (λ t. rw (some_of (L.holds s) t.1 t.2, or-true))))

  pub reach-set : (x l : List ℕ) {s : ℕ} → L.valid x → s ∈ L.nodes → L.cell s x ∈ reach L x l → Reached l s
  reach-set x l {s} k h m =
      let r = reach_in x l (L.cell s x) m in
      let e : s ≡ r.0 = one_node L W x x k k h r.1 r.2 in
      rw e r.3

  -- Any list that stands for the same cells as ours has at least as many nodes.
  module _ (xs : List (List ℕ)) (x : List ℕ) (k : L.valid x) (l : List ℕ) (h : (s : ℕ) → s ∈ l → s ∈ L.nodes)
      (alike : (c : List ℕ) → (c ∈ reach L x (listed L xs x)) ↔ (c ∈ reach L x l)) where
    theirs : {m : ℕ} → m ∈ listed L xs x → m ∈ l
    theirs {m} i =
        let p = proper_in L W (listed_in L W xs x i).0 in
        cases (reach-set x l k p.0 ((alike (L.cell m x)).0 (reach_of x (listed L xs x) p.0 (inr (m, i, W.holds_refl m)))))
        (λ e. absurd (p.1 e))
        (λ t. let u = h t.0 t.1 in
        cases (reach-set x (listed L xs x) k u ((alike (L.cell t.0 x)).1 (reach_of x l u (inr (t.0, t.1, W.holds_refl t.0)))))
        (λ e. absurd (p.1 (holds_antisym L W p.0 W.finest_in (rw e at t.2) (W.finest_holds m))))
        (λ n. let q : m ≡ n.0 = listed-least L W xs x i n.1 (W.holds_trans m t.0 n.0 t.2 n.2) in
        Memᴰ.cast (holds_antisym L W p.0 u t.2 (rw (← q) at n.2)) t.1))

    pub shortest_list : length (listed L xs x) ≤ length l
    shortest_list = fewest (listed L xs x) l (listed-distinct L W xs x) (λ m i. theirs i)
