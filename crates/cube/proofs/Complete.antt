-- The complete cube has each cell that exists, once, with its total; the plain one goes by lattice order, then by codes.
use mathlib.Core.Path.{◌≡◌, refl, ◌∙◌, ap}
use mathlib.Core.Logic.{◌↔◌}
use mathlib.Core.Bool.{true}
use mathlib.Core.List.Memᴰ
use mathlib.Core.List.{List}
use Prim.Native.Nat.{ℕ}
use lib.ListN.{length}
use Rattle.lists.specs.Lists.{◌∈◌}
use Rattle.lists.specs.Order.{Rising, earlier}
use Rattle.lists.proofs.Members.{flat_in, flat_of}
use Rattle.lists.proofs.Pairwise.{pairwise_map}
use Rattle.lattice.specs.Sets.{sets}
use Rattle.lattice.proofs.Sets.{sets-rising}
use Rattle.cube.specs.Measure.{Measure, Row, codes_of}
use Rattle.cube.specs.Lattice.{Lattice, Laws}
use Rattle.cube.specs.Codes.{set-of, plain}
use Rattle.cube.specs.Cube.{Exists, cuboid, existing, total, filled, cells, complete}
use Rattle.cube.specs.Table.{Table, listed_before}
use Rattle.cube.proofs.Codes.{plain_laws, coded-length, length-cell}
use Rattle.cube.proofs.Cells.{cuboid_in}
use Rattle.cube.proofs.Existing.{existing_in, existing_of, existing-rising, exists_node}
use Rattle.cube.proofs.Folding.{coded}
use Rattle.cube.proofs.CellOrder.{keys-rising}

-- a cell of a set has a code, or ALL, for each dimension
pub cuboid-wide : {A : Type 0} (d : ℕ) (rows : List (Row A)) → Table d rows → (s : ℕ) {c : List ℕ} → c ∈ cuboid (plain d) (codes_of rows) s → length c ≡ d
cuboid-wide d rows t s m =
    let p = cuboid_in (plain d) (codes_of rows) s m in
    ap length p.2 ∙ length-cell s p.0 ∙ coded-length d p.0 (coded d rows t p.0 p.1)

module _ (L : Lattice) {A : Type 0} (M : Measure A) (rows : List (Row A)) where
  pub cells_in : {r : Row A} (s : ℕ) → r ∈ cells L M rows s → (r.codes ∈ existing L (codes_of rows) s) × (r.total ≡ total L M rows r.codes)
  unfolding cells
  cells_in s m = let q = Memᴰ.of_map (filled L M rows) (existing L (codes_of rows) s) m in rw (← q.2) (q.1, refl)

  cells-codes : (s : ℕ) → Rising (λ p q. earlier p.codes q.codes) (cells L M rows s)
  unfolding cells
  cells-codes s = pairwise_map (λ p q. earlier p.codes q.codes ≡ true) (filled L M rows) (existing L (codes_of rows) s) (existing-rising L (codes_of rows) s)

module _ (L : Lattice) (W : Laws L) {A : Type 0} (M : Measure A) (rows : List (Row A)) (v : (x : List ℕ) → x ∈ codes_of rows → L.valid x) where
  pub complete_iff : (r : Row A) → (r ∈ complete L M rows) ↔ (Exists L (codes_of rows) r.codes × (r.total ≡ total L M rows r.codes))
  unfolding complete cells
  complete_iff r = (
    λ m. let f = flat_in (cells L M rows) L.nodes m in
        let g = cells_in L M rows f.0 f.2 in
        ((existing_in L W (codes_of rows) v f.1 g.0).0, g.1),
    λ h. let c = existing_of L W (codes_of rows) v h.0 refl in
        let e : r ≡ filled L M rows r.codes = ap (λ (a : A). record { codes = r.codes; total = a }) h.1 in
        flat_of (cells L M rows) (exists_node L W (codes_of rows) v h.0) (Memᴰ.cast e (Memᴰ.map (filled L M rows) c)),
  )

module _ {A : Type 0} (M : Measure A) (d : ℕ) (rows : List (Row A)) (t : Table d rows) where
  set-cells : (s : ℕ) (r : Row A) → s ∈ sets d → r ∈ cells (plain d) M rows s → set-of r.codes ≡ s
  set-cells s r h m = (existing_in (plain d) (plain_laws d) (codes_of rows) (coded d rows t) h (cells_in (plain d) M rows s m).0).1

  pub complete-rising : Rising listed_before (complete (plain d) M rows)
  unfolding complete
  complete-rising = keys-rising (λ r. r.codes) (cells (plain d) M rows) (sets d) (sets-rising d) (λ s h. cells-codes (plain d) M rows s) set-cells
