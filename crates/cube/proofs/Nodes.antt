-- The nodes of a lattice other than the finest, and the node of a cell.
use mathlib.Core.Path.{◌≡◌, sym, ◌∙◌, ap}
use mathlib.Core.Logic.{◌≢◌}
use mathlib.Core.Bool.{true, false, not, false≢true}
use mathlib.Core.List.Memᴰ
use mathlib.Core.List.{List, ◌∷◌}
use Prim.Native.Nat.{ℕ, ◌<◌}
use lib.Dec.{eqb}
use lib.ListN.{length}
use borrow.Author.Tests.{ne_eqb, eqb-false, not-true}
use Rattle.lists.specs.Lists.{◌∈◌, Pairwise}
use Rattle.lists.proofs.Tests.{cases}
use Rattle.lists.proofs.Members.{keep_in, keep_of}
use Rattle.lists.proofs.Pairwise.{pairwise_keep, pairwise_imp, pairwise_either}
use Rattle.lists.proofs.Pigeonhole.{fewest}
use Rattle.cube.specs.Lattice.{Lattice, Laws}
use Rattle.cube.specs.Condensed.{proper}

-- an earlier node is another, and does not hold a later one
abbrev pub Before : Lattice → ℕ → ℕ → Type 0
Before L e s = (e ≢ s) × (L.holds e s ≡ false)

module _ (L : Lattice) (W : Laws L) where
  pub proper_in : {s : ℕ} → s ∈ proper L → (s ∈ L.nodes) × (s ≢ L.finest)
  unfolding proper
  proper_in {s} m =
      let r = keep_in (λ t. not (eqb t L.finest)) L.nodes m in
      (r.0, eqb-false s L.finest (not-true (eqb s L.finest) r.1))

  pub proper_of : {s : ℕ} → s ∈ L.nodes → s ≢ L.finest → s ∈ proper L
  unfolding proper
  proper_of {s} h n = keep_of (λ t. not (eqb t L.finest)) h (rw (ne_eqb s L.finest n))

  pub proper-order : Pairwise (Before L) (proper L)
  unfolding proper
  proper-order = pairwise_keep (Before L) (λ t. not (eqb t L.finest)) L.nodes W.order

  -- fewer than all nodes
  pub proper-few : length (proper L) < length L.nodes
  proper-few = fewest (L.finest ∷ proper L) L.nodes
      (λ s m e. (proper_in m).1 (sym e), pairwise_imp (Before L) ◌≢◌ (proper L) (λ s t m n q. q.0) proper-order)
      (λ s m. cases (Memᴰ.cases_cons m) (λ e. Memᴰ.cast e W.finest_in) (λ i. (proper_in i).0))

  pub holds_antisym : {s t : ℕ} → s ∈ L.nodes → t ∈ L.nodes → L.holds s t ≡ true → L.holds t s ≡ true → s ≡ t
  holds_antisym i j e f = cases (pairwise_either (Before L) W.order i j) (λ q. q)
      (λ q. absurd (cases q (λ a. false≢true (sym a.1 ∙ e)) (λ a. false≢true (sym a.1 ∙ f))))

  -- a cell has one node
  pub one_node : {s t : ℕ} (x y : List ℕ) → L.valid x → L.valid y → s ∈ L.nodes → t ∈ L.nodes → L.cell s x ≡ L.cell t y → s ≡ t
  one_node {s} {t} x y k l i j e = sym (W.node_cell s x k i) ∙ ap L.node_of e ∙ W.node_cell t y l j
