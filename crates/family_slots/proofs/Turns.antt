-- From a node to the next by falling number.
use mathlib.Core.Path.{◌≡◌, refl, sym, ap, subst, ◌∙◌}
use mathlib.Core.Bool.{Bool, true, false, cond}
use mathlib.Core.List.Memᴰ
use mathlib.Core.List.{List, [], ◌∷◌}
use Prim.Native.Nat.{ℕ, zero, suc, ◌+◌, ◌-◌, ◌*◌, ◌/◌, ◌%◌, ◌≤◌, ◌<◌}
use native.Mathlib.Nat.{mod-lt, div-add-mod, mul-suc}
use native.Mathlib.Omega.{arith}
use lib.Dec.{eqb}
use native.Mathlib.Numerals.{add-one}
use lib.ListN.{length, get_or, drop, drop_of_length-le}
use lib.Seq.{drop-cons}
use borrow.Author.Tests.{eqb-true, eqb-false, eq-eqb, ne_eqb}
use Rattle.lists.specs.Lists.{◌∈◌}
use Rattle.lists.proofs.Tests.{cases, truth}
use Rattle.family_nodes.specs.Nodes.{node_count}
use Rattle.family_nodes.proofs.Nodes.{Some, fore, rest, digit, count-pos, quotient_lt}
use Rattle.family_slots.specs.Turns.{turn_at, turn_column, topped}

-- ---- the first dimension of node m = n + 1: its level falls, or it goes from level 0 to ALL

module _ (h n : ℕ) (one : 1 ≤ h) where
  abbrev m : ℕ
  m = suc n

  -- the level falls
  pub falls : eqb (m % h) 0 ≡ false → (n % h ≡ m % h - 1) × (n / h ≡ m / h) × (suc (n % h) < h)
  falls t =
      let low : 1 ≤ m % h = omega (arith, eqb-false (m % h) 0 t) in
      let high = mod-lt m one in
      let e : n ≡ m % h - 1 + h * (m / h) = omega (arith, div-add-mod m h, low) in
      let g = digit (m % h - 1) h (m / h) (omega (arith, low, high)) in
      let r : n % h ≡ m % h - 1 = ap (λ z. z % h) e ∙ g.0 in
      (r, ap (λ z. z / h) e ∙ g.1, omega (arith, r, low, high))

  -- it goes to ALL, and the other dimensions go to their next node
  pub wraps : eqb (m % h) 0 ≡ true → (n % h ≡ h - 1) × (suc (n / h) ≡ m / h)
  wraps t =
      let zero-level : m % h ≡ 0 = eqb-true (m % h) 0 t in
      let some : 1 ≤ m / h = above (m / h) (omega (arith, div-add-mod m h, zero-level)) in
      let s : suc (m / h - 1) ≡ m / h = omega (arith, some) in
      let f : h * suc (m / h - 1) ≡ h * (m / h) = ap (λ z. h * z) s in
      let e : n ≡ h - 1 + h * (m / h - 1) = omega (arith, div-add-mod m h, zero-level, mul-suc h (m / h - 1), f, one) in
      let g = digit (h - 1) h (m / h - 1) (omega (arith, one)) in
      (ap (λ z. z % h) e ∙ g.0, ap suc (ap (λ z. z / h) e ∙ g.1) ∙ s)
    where
      above : (q : ℕ) → h * q ≡ m → 1 ≤ q
      above zero e = absurd (omega (arith, e))
      above (suc q) e = omega arith

-- ---- what changes

pub record Turned (hs : List ℕ) (n : ℕ) : Type 0 where
  pub within : turn_at hs (suc n) < length hs
  pub same : (j : ℕ) → j ≤ turn_at hs (suc n) → topped hs j n ≡ n
  pub above : (j : ℕ) → turn_at hs (suc n) < j → topped hs j n ≡ topped hs j (suc n)

-- the dimension and the column, by whether the first dimension is at level 0
abbrev pub at_next : ℕ → List ℕ → ℕ → Bool → ℕ
at_next h hs m b = cond b (suc (turn_at hs (m / h))) 0

abbrev pub column-next : ℕ → ℕ → List ℕ → ℕ → Bool → ℕ
column-next c h hs m b = cond b (turn_column (c + 4) hs (m / h)) (c + (m % h - 1))

pub turned : (hs : List ℕ) (n : ℕ) → Some hs → suc n < node_count hs → Turned hs n
turned [] n p k = absurd (omega (arith, k))
turned (h ∷ hs) n p k = cases (truth (eqb (suc n % h) 0)) (later (λ q. turned hs q (rest p))) first
  where
    first : eqb (suc n % h) 0 ≡ false → Turned (h ∷ hs) n
    first t =
        let z : turn_at (h ∷ hs) (suc n) ≡ 0 = ap (at_next h hs (suc n)) t in
        let f = falls h n (fore p) t in
        record {
          within = omega (arith, z);
          same = λ j i. none j (omega (arith, z, i));
          above = λ j i. up j f.1 (omega (arith, z, i));
        }
      where
        none : (j : ℕ) → j ≤ 0 → topped (h ∷ hs) j n ≡ n
        none zero i = refl
        none (suc j) i = absurd (omega (arith, i))

        up : (j : ℕ) → n / h ≡ suc n / h → 0 < j → topped (h ∷ hs) j n ≡ topped (h ∷ hs) j (suc n)
        up zero e i = absurd (omega (arith, i))
        up (suc j) e i = ap (λ q. h - 1 + h * topped hs j q) e

    later : ((q : ℕ) → suc q < node_count hs → Turned hs q) → eqb (suc n % h) 0 ≡ true → Turned (h ∷ hs) n
    later ih t =
        let w = wraps h n (fore p) t in
        let r = ih (n / h) (subst (λ z. z < node_count hs) (sym w.1) (quotient_lt h (node_count hs) (suc n) (fore p) k)) in
        let z : turn_at (h ∷ hs) (suc n) ≡ suc (turn_at hs (suc (n / h))) = ap (at_next h hs (suc n)) t ∙ ap (λ q. suc (turn_at hs q)) (sym w.1) in
        let e : h - 1 + h * (n / h) ≡ n = omega (arith, w.0, div-add-mod n h) in
        record {
          within = omega (arith, z, r.within);
          same = λ j i. below j e r.same (omega (arith, z, i));
          above = λ j i. up j w.1 r.above (omega (arith, z, i));
        }
      where
        below : (j : ℕ) → h - 1 + h * (n / h) ≡ n → ((j : ℕ) → j ≤ turn_at hs (suc (n / h)) → topped hs j (n / h) ≡ n / h) → j ≤ suc (turn_at hs (suc (n / h))) → topped (h ∷ hs) j n ≡ n
        below zero e f i = refl
        below (suc j) e f i = ap (λ q. h - 1 + h * q) (f j (omega (arith, i))) ∙ e

        up : (j : ℕ) → suc (n / h) ≡ suc n / h → ((j : ℕ) → turn_at hs (suc (n / h)) < j → topped hs j (n / h) ≡ topped hs j (suc (n / h))) → suc (turn_at hs (suc (n / h))) < j → topped (h ∷ hs) j n ≡ topped (h ∷ hs) j (suc n)
        up zero e f i = absurd (omega (arith, i))
        up (suc j) e f i = ap (λ q. h - 1 + h * q) (f j (omega (arith, i)) ∙ ap (topped hs j) e)

-- ---- the last node is topped everywhere

pub last-count : (h c : ℕ) → 1 ≤ h → 1 ≤ c → h * c - 1 ≡ h - 1 + h * (c - 1)
last-count h c some one =
    let s : suc (c - 1) ≡ c = omega (arith, one) in
    let f : h * suc (c - 1) ≡ h * c = ap (λ z. h * z) s in
    omega (arith, mul-suc h (c - 1), f, some)

pub topped-last : (hs : List ℕ) (j : ℕ) → Some hs → topped hs j (node_count hs - 1) ≡ node_count hs - 1
topped-last hs zero p = refl
topped-last [] (suc j) p = refl
topped-last (h ∷ hs) (suc j) p =
    let c = node_count hs in
    let t = last-count h c (fore p) (count-pos hs (rest p)) in
    let g = digit (h - 1) h (c - 1) (omega (arith, fore p)) in
    ap (λ z. h - 1 + h * topped hs j (z / h)) t ∙ ap (λ q. h - 1 + h * topped hs j q) g.1 ∙ ap (λ q. h - 1 + h * q) (topped-last hs j (rest p)) ∙ sym t

-- ---- the column is one of those of the dimensions

pub column-few : (c : ℕ) (hs : List ℕ) (m : ℕ) → ((h : ℕ) → h ∈ hs → (1 ≤ h) × (h ≤ 5)) → 1 ≤ m → m < node_count hs → turn_column c hs m < c + 4 * length hs
column-few c [] m p l k = absurd (omega (arith, l, k))
column-few c (h ∷ hs) m p l k = cases (truth (eqb (m % h) 0)) (later (λ q. column-few (c + 4) hs q (λ g i. p g (Memᴰ.tail i)))) first
  where
    one : 1 ≤ h
    one = (p h (Memᴰ.head refl)).0

    first : eqb (m % h) 0 ≡ false → turn_column c (h ∷ hs) m < c + 4 * suc (length hs)
    first t = let e : turn_column c (h ∷ hs) m ≡ c + (m % h - 1) = ap (column-next c h hs m) t in omega (arith, e, mod-lt m one, (p h (Memᴰ.head refl)).1, eqb-false (m % h) 0 t)

    later : ((q : ℕ) → 1 ≤ q → q < node_count hs → turn_column (c + 4) hs q < c + 4 + 4 * length hs) → eqb (m % h) 0 ≡ true → turn_column c (h ∷ hs) m < c + 4 * suc (length hs)
    later ih t =
        let e : turn_column c (h ∷ hs) m ≡ turn_column (c + 4) hs (m / h) = ap (column-next c h hs m) t in
        let some : 1 ≤ m / h = above (m / h) (omega (arith, div-add-mod m h, eqb-true (m % h) 0 t)) in
        omega (arith, e, ih (m / h) some (quotient_lt h (node_count hs) m one k))
      where
        above : (q : ℕ) → h * q ≡ m → 1 ≤ q
        above zero q = absurd (omega (arith, q, l))
        above (suc q) e = omega arith

-- ---- dimension by dimension

module _ (hs : List ℕ) (d q : ℕ) (k : d < length hs) where
  abbrev h : ℕ
  h = get_or hs d 0

  pub at_on : q % h ≡ 0 → turn_at (drop d hs) q ≡ suc (turn_at (drop (d + 1) hs) (q / h))
  at_on e = rw (add-one, drop-cons hs d 0 k) (ap (at_next h (drop (suc d) hs) q) (eq-eqb (q % h) 0 e))

  pub at_off : (q % h ≡ 0 → ⊥) → turn_at (drop d hs) q ≡ 0
  at_off e = rw (drop-cons hs d 0 k) (ap (at_next h (drop (suc d) hs) q) (ne_eqb (q % h) 0 e))

  pub column-on : (c : ℕ) → q % h ≡ 0 → turn_column c (drop d hs) q ≡ turn_column (c + 4) (drop (d + 1) hs) (q / h)
  column-on c e = rw (add-one, drop-cons hs d 0 k) (ap (column-next c h (drop (suc d) hs) q) (eq-eqb (q % h) 0 e))

  pub column-off : (c : ℕ) → (q % h ≡ 0 → ⊥) → turn_column c (drop d hs) q ≡ c + (q % h - 1)
  column-off c e = rw (drop-cons hs d 0 k) (ap (column-next c h (drop (suc d) hs) q) (ne_eqb (q % h) 0 e))

pub at-end : (hs : List ℕ) (d q : ℕ) → length hs ≤ d → turn_at (drop d hs) q ≡ 0
at-end hs d q k = rw (drop_of_length-le hs {i = d} k) refl

pub column-end : (c : ℕ) (hs : List ℕ) (d q : ℕ) → length hs ≤ d → turn_column c (drop d hs) q ≡ c
column-end c hs d q k = rw (drop_of_length-le hs {i = d} k) refl
