-- Slots written, and the slots of one node from those of the node before.
use mathlib.Core.Path.{◌≡◌, sym, ap, subst, ◌∙◌}
use mathlib.Core.Logic.{◌≢◌}
use mathlib.Core.Bool.{true}
use mathlib.Core.List.{List, ◌++◌}
use Prim.Native.Nat.{ℕ, suc, ◌+◌, ◌-◌, ◌*◌, ◌≤◌, ◌<◌}
use native.Mathlib.Numerals.{add-one}
use native.Mathlib.Omega.{arith}
use lib.Dec.{eqb, leb}
use lib.ListN.{length, get_or, take, drop, set, length-set}
use lib.Seq.{get_or-set_same, get_or-set_other, length-take-le, take-append-le, take_all}
use borrow.Author.Tests.{eqb-true, eqb-false, leb-true, leb-false}
use Rattle.lists.proofs.Tests.{cases, truth}
use Rattle.lists.proofs.Members.{at_in}
use Rattle.rows_deals.specs.Deals.{Names, Zeros}
use Rattle.rows_order.proofs.Numbers.{numbers, numbers_in}
use Rattle.rows_slots.specs.Slots.{crowds, packed, code_in, slot_from, lone_from}
use Rattle.rows_slots.proofs.Entries.{slot-length, flat-few}
use Rattle.rows_columns.specs.Columns.{part}
use Rattle.rows_columns.proofs.Parts.{part-here, part-other}
use Rattle.family_nodes.specs.Nodes.{node_count}
use Rattle.family_nodes.proofs.Nodes.{Some}
use Rattle.family_slots.specs.Turns.{Heights, turn_at, topped, parent}
use Rattle.family_slots.specs.Slots.{node_key, Held, Stack, Started, Put, Pointed}
use Rattle.family_slots.proofs.Turns.{Turned, turned, topped-last}
use Rattle.family_slots.proofs.Keys.{node-last}
use Rattle.family_slots.proofs.One.{slot-one, lone-one}

pub tall : {hs : List ℕ} → Heights hs → Some hs
tall w h m = omega (arith, w.some h m)

-- ---- a slot is written

module _ (l store sizes p : List ℕ) (s a k len : ℕ) (low : s < 9) (room : 9216 ≤ length store) (places : 9 ≤ length sizes)
    (ea : a ≡ s * 1024) (ek : length p ≡ k) (whole : k ≡ 1024) (small : len ≤ 1024) (g : take len p ≡ l) where
  fits : a + k ≤ length store
  fits = omega (arith, ea, whole, low, room)

  here : get_or (set sizes s len) s 0 ≡ len
  here = get_or-set_same sizes s len 0 (omega (arith, low, places))

  pub written : Put l store sizes (take a store ++ (p ++ drop k (drop a store))) (set sizes s len) s
  written = record {
    size = here ∙ sym (length-take-le len p (omega (arith, small, ek, whole))) ∙ ap length g;
    here = rw here (part-here store p s a k ea ek (omega (arith, whole)) fits len (omega (arith, small, whole)) ∙ g);
    kept = λ t q. get_or-set_other sizes s t len 0 q;
    others = λ t m q h. part-other store p s a k ea ek (omega (arith, whole)) fits t m h q;
  }

-- ---- slots named one dimension after the other

pub record Pointing (at₀ at : List ℕ) (k j : ℕ) : Type 0 where
  pub below : j ≤ k + 1
  pub size : length at ≡ length at₀
  pub done : (i : ℕ) → i < j → get_or at i 0 ≡ k
  pub left : (i : ℕ) → j ≤ i → get_or at i 0 ≡ get_or at₀ i 0

module _ {at₀ at : List ℕ} {k j : ℕ} (p : Pointing at₀ at k j) where
  pub pointing-more : j < k + 1 → k < length at₀ → Pointing at₀ (set at j k) k (j + 1)
  pointing-more h room = record {
    below = omega (arith, h);
    size = rw (← p.size) (length-set at j k);
    done = λ i l. cases (truth (eqb i j))
        (λ t. let e = eqb-true i j t in rw e (get_or-set_same at j k 0 (omega (arith, h, room, p.size))))
        (λ t. let n = eqb-false i j t in get_or-set_other at j i k 0 n ∙ p.done i (omega (arith, l, n)));
    left = λ i l. let n : i ≢ j = λ e. omega (arith, e, l) in get_or-set_other at j i k 0 n ∙ p.left i (omega (arith, l));
  }

  pub pointing-done : k + 1 ≤ j → Pointed at₀ at k
  pointing-done h = record { here = λ i l. p.done i (omega (arith, l, h)); others = λ i l. p.left i (omega (arith, l, p.below)) }

-- ---- the groups of a node in a slot

packed-few : (least n : ℕ) (keys : ℕ → List ℕ) → n ≤ 1024 → length (packed (crowds least keys n)) ≤ n
packed-few least n keys few = omega (arith, slot-length keys n least few, flat-few keys n least few)

module _ {least n : ℕ} {columns hs : List ℕ} {node : ℕ} {l store sizes store₂ sizes₂ : List ℕ} {k : ℕ} (few : n ≤ 1024) (p : Put l store sizes store₂ sizes₂ k) where
  held-here : l ≡ packed (crowds least (node_key columns n hs node) n) → Held least n columns hs node store₂ sizes₂ k
  held-here e = record { few = omega (arith, p.size, ap length e, packed-few least n (node_key columns n hs node) few); slot = p.here ∙ e }

  held-other : (t : ℕ) → t ≢ k → Held least n columns hs node store sizes t → Held least n columns hs node store₂ sizes₂ t
  held-other t q h = record {
    few = omega (arith, p.kept t q, h.few);
    slot = ap (λ (m : ℕ). part t m store₂) (p.kept t q) ∙ p.others t (get_or sizes t 0) q (omega (arith, h.few, few)) ∙ h.slot;
  }

-- ---- the first node

pub started : {least n : ℕ} {hs store sizes store₂ sizes₂ at at₂ order lone : List ℕ} (marks : List ℕ) {r : ℕ} → n ≤ 1024 → 1 ≤ least → least ≤ 2 → Heights hs → order ≡ numbers n → Zeros marks
    → Put (slot_from (code_in marks) least true order) store sizes store₂ sizes₂ (length hs) → Pointed at at₂ (length hs) → take r lone ≡ lone_from (code_in marks) least true order
    → Started least n hs store₂ sizes₂ at₂ lone r
started {least} {n} {hs} {store} {sizes} {store₂} {sizes₂} {at} {at₂} {order} {lone} marks {r} few low high w all zeros p q left = record {
  stack = λ columns. record {
    low = λ j h. omega (arith, q.here j h, h);
    high = λ j h. omega (arith, q.here j h);
    held = λ j h. subst (Held least n columns hs (topped hs j last) store₂ sizes₂) (sym (q.here j h))
        (held-here few p (ap (slot_from (code_in marks) least true) all ∙ slot-one (node_key columns n hs (topped hs j last)) (alike columns j) n marks zeros least low high));
  };
  left = λ columns. left ∙ ap (lone_from (code_in marks) least true) all ∙ lone-one (node_key columns n hs last) (node-last columns n hs (tall w)) n marks zeros least low high;
}
  where
    last : ℕ
    last = node_count hs - 1

    alike : (columns : List ℕ) (j x y : ℕ) → node_key columns n hs (topped hs j last) x ≡ node_key columns n hs (topped hs j last) y
    alike columns j x y = subst (λ (m : ℕ). node_key columns n hs m x ≡ node_key columns n hs m y) (sym (topped-last hs j (tall w))) (node-last columns n hs (tall w) x y)

-- ---- the next node

module _ {least n : ℕ} {columns hs : List ℕ} {node : ℕ} {store sizes at : List ℕ} (few : n ≤ 1024) (w : Heights hs) (k : suc node < node_count hs) (s : Stack least n columns hs (suc node) store sizes at) where
  abbrev dim : ℕ
  dim = turn_at hs (suc node)

  turn : Turned hs node
  turn = turned hs node (tall w) k

  pub next-dim : dim < length hs
  next-dim = turn.within

  pub next-above : (dim + 1 ≤ get_or at (dim + 1) 0) × (get_or at (dim + 1) 0 ≤ length hs)
  next-above = (s.low (dim + 1) (omega (arith, next-dim)), s.high (dim + 1) (omega (arith, next-dim)))

  pub next-old : Held least n columns hs (parent hs node) store sizes (get_or at (dim + 1) 0)
  next-old =
      let e : topped hs (dim + 1) (suc node) ≡ parent hs node = sym (turn.above (dim + 1) (omega arith)) ∙ ap (λ (j : ℕ). topped hs j node) (add-one dim) in
      subst (λ (m : ℕ). Held least n columns hs m store sizes (get_or at (dim + 1) 0)) e (s.held (dim + 1) (omega (arith, next-dim)))

  pub next-stack : {l store₂ sizes₂ at₂ : List ℕ} → Put l store sizes store₂ sizes₂ dim → Pointed at at₂ dim → l ≡ packed (crowds least (node_key columns n hs node) n) → Stack least n columns hs node store₂ sizes₂ at₂
  next-stack {l} {store₂} {sizes₂} {at₂} p q e = record {
    low = λ j h. cases (truth (leb j dim)) (λ t. omega (arith, q.here j (leb-true j dim t), leb-true j dim t)) (λ t. omega (arith, q.others j (leb-false j dim t), s.low j h));
    high = λ j h. cases (truth (leb j dim)) (λ t. omega (arith, q.here j (leb-true j dim t), next-dim)) (λ t. omega (arith, q.others j (leb-false j dim t), s.high j h));
    held = λ j h. cases (truth (leb j dim)) (below j) (λ t. above j h (leb-false j dim t));
  }
    where
      below : (j : ℕ) → leb j dim ≡ true → Held least n columns hs (topped hs j node) store₂ sizes₂ (get_or at₂ j 0)
      below j t =
          let i = leb-true j dim t in
          subst (λ (m : ℕ). Held least n columns hs m store₂ sizes₂ (get_or at₂ j 0)) (sym (turn.same j i)) (subst (Held least n columns hs node store₂ sizes₂) (sym (q.here j i)) (held-here few p e))

      above : (j : ℕ) → j ≤ length hs → dim < j → Held least n columns hs (topped hs j node) store₂ sizes₂ (get_or at₂ j 0)
      above j h i =
          let other : get_or at j 0 ≢ dim = λ z. omega (arith, z, s.low j h, i) in
          subst (λ (m : ℕ). Held least n columns hs m store₂ sizes₂ (get_or at₂ j 0)) (sym (turn.above j i))
          (subst (Held least n columns hs (topped hs j (suc node)) store₂ sizes₂) (sym (q.others j i)) (held-other few p (get_or at j 0) other (s.held j h)))

-- ---- the front of what is lent

pub front : (l m : List ℕ) (k : ℕ) → length l ≡ k → take k (l ++ m) ≡ l
front l m k e = take-append-le k l m (omega (arith, e)) ∙ take_all k l (omega (arith, e))

pub numbers-names : (n k : ℕ) → n ≤ k → Names (numbers n) k
numbers-names n k h i l = omega (arith, numbers_in n (at_in 0 (numbers n) i l), h)
