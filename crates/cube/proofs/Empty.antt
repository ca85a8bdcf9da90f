-- An empty table has one cell, that of all rows, with the total of no rows, held as one normal entry. With a row, every cell needs one.
use mathlib.Core.Path.{◌≡◌, refl, sym, ◌∙◌, ap}
use mathlib.Core.Logic.{◌≢◌, inl, ◌↔◌}
use mathlib.Core.Bool.{true}
use mathlib.Core.List.Memᴰ
use mathlib.Core.List.{List, [], ◌∷◌, ◌++◌, flat_map, append-nil}
use Prim.Native.Nat.{ℕ, ◌≤◌}
use native.Mathlib.Omega.{arith}
use lib.ListN.{length}
use borrow.Author.Tests.{eq-eqb, ne_eqb}
use Rattle.lists.specs.Lists.{◌∈◌, Distinct}
use Rattle.lists.proofs.Tests.{cases}
use Rattle.lists.proofs.Members.{flat-same}
use Rattle.lists.proofs.Order.{same_refl}
use Rattle.lists.proofs.Pairwise.{pairwise_imp}
use Rattle.cube.specs.Measure.{Measure, Row}
use Rattle.cube.specs.Lattice.{Lattice, Laws}
use Rattle.cube.specs.Cube.{Exists, total, grouped, cells, complete}
use Rattle.cube.specs.Condensed.{normal, found, lookup, common, normals, ours}
use Rattle.cube.proofs.Nodes.{Before}
use Rattle.cube.proofs.Existing.{cells-rows, existing-none}
use Rattle.cube.proofs.Normals.{common_in}

no_member : {A : Type 0} (l : List A) → ((x : A) → x ∈ l → ⊥) → l ≡ []
no_member [] h = refl
no_member (x ∷ l) h = absurd (h x (Memᴰ.head refl))

flat-none : {A B : Type 0} (f : A → List B) (l : List A) → ((y : A) → y ∈ l → f y ≡ []) → flat_map f l ≡ []
unfolding flat_map
flat-none f [] h = refl
flat-none f (y ∷ l) h = rw (h y (Memᴰ.head refl)) (flat-none f l (λ z m. h z (Memᴰ.tail m)))

-- where one member alone gives anything
flat-one : {A B : Type 0} (f : A → List B) {x : A} (l : List A) → Distinct l → x ∈ l → ((y : A) → y ≢ x → f y ≡ []) → flat_map f l ≡ f x
unfolding flat_map
flat-one f [] d m h = absurd (Memᴰ.not-nil m)
flat-one f {x} (y ∷ l) d (Memᴰ.head e) h =
    ap (λ r. f y ++ r) (flat-none f l (λ z i. h z (λ q. d.0 z i (sym (q ∙ e))))) ∙ append-nil (f y) ∙ ap f (sym e)
flat-one f {x} (y ∷ l) d (Memᴰ.tail m) h = rw (h y (λ q. d.0 x m q)) (flat-one f l d.1 m h)

-- with a row
pub exists_rows : (L : Lattice) (x : List ℕ) (xs : List (List ℕ)) (c : List ℕ) → Exists L (x ∷ xs) c ↔ ((y : List ℕ) × (y ∈ x ∷ xs) × (L.falls c y ≡ true))
exists_rows L x xs c = (λ h. cases h (λ r. r) (λ m. absurd (Memᴰ.not-nil m)), inl)

pub complete-rows : (L : Lattice) {A : Type 0} (M : Measure A) (rows : List (Row A)) → 1 ≤ length rows → complete L M rows ≡ flat_map (grouped L M rows) L.nodes
unfolding complete
complete-rows L M rows h = flat-same (cells L M rows) (grouped L M rows) L.nodes (λ s m. cells-rows L M rows s h)

-- without one
module _ (L : Lattice) (W : Laws L) {A : Type 0} (M : Measure A) where
  abbrev empty : Row A
  empty = record { codes = L.whole; total = M.none }

  cells_at : cells L M [] (L.node_of L.whole) ≡ empty ∷ []
  unfolding cells total
  cells_at = rw (existing-none L (L.node_of L.whole), eq-eqb (L.node_of L.whole) (L.node_of L.whole) refl)

  cells-off : (s : ℕ) → s ≢ L.node_of L.whole → cells L M [] s ≡ []
  unfolding cells
  cells-off s n = rw (existing-none L s, ne_eqb (L.node_of L.whole) s (λ e. n (sym e)))

  pub complete-none : complete L M [] ≡ empty ∷ []
  unfolding complete
  complete-none =
      flat-one (cells L M []) L.nodes (pairwise_imp (Before L) ◌≢◌ L.nodes (λ s t i j q. q.0) W.order) W.whole_in cells-off
      ∙ cells_at

  common-none : common L [] ≡ []
  common-none = no_member (common L []) (λ c m. omega (arith, common_in L W [] (record { valid = λ x i. absurd (Memᴰ.not-nil i); distinct = tt }) m))

  pub normals-none : normals L [] ≡ L.whole ∷ []
  unfolding normals
  normals-none = rw common-none

  pub ours-none : ours L M [] ≡ normal empty ∷ []
  unfolding ours total
  ours-none = rw normals-none

  pub lookup-none : lookup L L.whole (ours L M []) ≡ found 0 M.none
  lookup-none = rw (ours-none, same_refl L.whole)
