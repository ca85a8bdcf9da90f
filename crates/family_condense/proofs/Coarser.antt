-- The parent of a node is coarser; a row that shares its codes at a node shares those at each coarser one.
use mathlib.Core.Path.{◌≡◌, refl, sym, ap, subst}
use mathlib.Core.Logic.{◌≢◌}
use mathlib.Core.Bool.{true}
use mathlib.Core.List.{List, [], ◌∷◌}
use Prim.Native.Nat.{ℕ, zero, suc, ◌-◌, ◌+◌, ◌*◌, ◌/◌, ◌%◌, ◌≤◌, ◌<◌}
use native.Mathlib.Nat.{mod-lt, mul_comm, div-lt_iff_lt-mul}
use native.Mathlib.Omega.{arith}
use lib.ListN.{length}
use borrow.Author.Tests.{leb-true, le-leb}
use Rattle.lists.specs.Order.{same}
use Rattle.lists.proofs.Order.{same-eq, same_refl}
use Rattle.rows_order.proofs.Arranged.{alike, arranged-keep}
use Rattle.rows_order.proofs.Numbers.{numbers, numbers_in}
use Rattle.rows_slots.specs.Slots.{shares}
use Rattle.rows_slots.proofs.Stable.{keep_fewer}
use Rattle.family_nodes.specs.Nodes.{node_count, levels_of, no_higher, finer}
use Rattle.family_nodes.proofs.Nodes.{Some, fore, rest, digit, quotient_lt, higher_of, finer-refl, finer-le}
use Rattle.family_slots.specs.Turns.{turn_at, topped, parent}
use Rattle.family_slots.specs.Slots.{node_key}
use Rattle.family_slots.proofs.Turns.{turned}
use Rattle.family_condense.specs.Ends.{Coarsens}

-- ---- a node topped is coarser

topped-finer : (hs : List ℕ) (j q : ℕ) → Some hs → finer hs q (topped hs j q) ≡ true
topped-finer hs zero q p = finer-refl hs q
topped-finer [] (suc j) q p = refl
topped-finer (h ∷ hs) (suc j) q p =
    let t = topped hs j (q / h) in
    let g = digit (h - 1) h t (omega (arith, fore p)) in
    let low : q % h ≤ (h - 1 + h * t) % h = omega (arith, g.0, mod-lt q (fore p)) in
    higher_of (q % h) ((h - 1 + h * t) % h) (levels_of hs (q / h)) (levels_of hs ((h - 1 + h * t) / h)) low
    (subst (λ m. no_higher (levels_of hs (q / h)) (levels_of hs m) ≡ true) (sym g.1) (topped-finer hs j (q / h) (rest p)))

topped-lt : (hs : List ℕ) (j q : ℕ) → Some hs → q < node_count hs → topped hs j q < node_count hs
topped-lt hs zero q p k = k
topped-lt [] (suc j) q p k = k
topped-lt (h ∷ hs) (suc j) q p k =
    let t = topped hs j (q / h) in
    let g = digit (h - 1) h t (omega (arith, fore p)) in
    let i : (h - 1 + h * t) / h < node_count hs = subst (λ m. m < node_count hs) (sym g.1) (topped-lt hs j (q / h) (rest p) (quotient_lt h (node_count hs) q (fore p) k)) in
    let b : h - 1 + h * t < node_count hs * h = (div-lt_iff_lt-mul {k = h} {x = h - 1 + h * t} {y = node_count hs} (fore p)).0 i in
    omega (arith, b, mul_comm (node_count hs) h)

module _ (hs : List ℕ) (node : ℕ) (p : Some hs) (k : suc node < node_count hs) where
  pub parent-finer : finer hs node (parent hs node) ≡ true
  parent-finer = topped-finer hs (suc (turn_at hs (suc node))) node p

  pub parent-lt : parent hs node < node_count hs
  parent-lt = topped-lt hs (suc (turn_at hs (suc node))) node p (omega (arith, k))

  pub parent-other : node ≢ parent hs node
  parent-other e =
      let i = suc (turn_at hs (suc node)) in
      let up : parent hs node ≡ topped hs i (suc node) = (turned hs node p k).above i (omega arith) in
      omega (arith, e, up, finer-le hs (suc node) (topped hs i (suc node)) p k (topped-finer hs i (suc node) p))

-- ---- rows that share

shares-up : (n least : ℕ) (long short : ℕ → List ℕ) → ((x y : ℕ) → x < n → y < n → long x ≡ long y → short x ≡ short y) → (x : ℕ) → x < n → shares least long n x ≡ true → shares least short n x ≡ true
unfolding shares
shares-up n least long short f x h t =
    let a = ap length (arranged-keep long (long x) n) in
    let b = ap length (arranged-keep short (short x) n) in
    le-leb least _ (omega (
      arith,
      leb-true least _ t,
      a,
      b,
      keep_fewer (alike long (long x)) (alike short (short x)) (numbers n)
          (λ y m q. subst (λ (c : List ℕ). same (short x) c ≡ true) (f x y h (numbers_in n m) (same-eq (long x) (long y) q)) (same_refl (short x))),
    ))

pub shares-coarser : {columns : List ℕ} {n : ℕ} {hs : List ℕ} → Coarsens columns n hs → (m k : ℕ) → m < node_count hs → k < node_count hs → finer hs m k ≡ true → (x : ℕ) → x < n
    → shares 2 (node_key columns n hs m) n x ≡ true → shares 2 (node_key columns n hs k) n x ≡ true
shares-coarser {columns} {n} {hs} c m k i j f = shares-up n 2 (node_key columns n hs m) (node_key columns n hs k) (c.coarser m k i j f)
