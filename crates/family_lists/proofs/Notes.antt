-- A node noted for one row after the other.
use mathlib.Core.Path.{◌≡◌, refl, sym, ap, ap₂, ◌∙◌}
use mathlib.Core.Logic.{◌≢◌}
use mathlib.Core.Bool.{Bool, true, false, ◌&&◌, ◌||◌}
use mathlib.Core.List.{List, [], ◌∷◌, ◌++◌}
use Prim.Native.Nat.{ℕ, ◌+◌, ◌*◌, ◌/◌, ◌%◌, ◌≤◌, ◌<◌}
use native.Mathlib.Omega.{arith}
use lib.Dec.{eqb}
use lib.ListN.{length, get_or, take, drop}
use borrow.Author.Tests.{eqb-true, eqb-false, eq-eqb, ne_eqb}
use Rattle.lists.specs.Lists.{some}
use Rattle.lists.proofs.Tests.{cases, truth}
use Rattle.rows_bits.specs.Rowsets.{has}
use Rattle.rows_alone.specs.Alone.{words_of}
use Rattle.rows_lists.proofs.Lists.{some_next, some-done}
use Rattle.family_alone.proofs.Blocks.{block_here, block-other}
use Rattle.family_lists.specs.Lists.{has_node, Noted}

-- ---- one row

module _ (l p : List ℕ) (row node a k : ℕ) (few : node < 4096) (ea : a ≡ (row * 4 + node / 1024) * 32) (whole : k ≡ 32) (ek : length p ≡ k)
    (room : (row * 4 + node / 1024) * 32 + 32 ≤ length l) (told : (y : ℕ) → has p y ≡ eqb (node % 1024) y || has (words_of l (row * 4 + node / 1024)) y) where
  abbrev s : ℕ
  s = row * 4 + node / 1024

  abbrev over : List ℕ
  over = take a l ++ (p ++ drop k (drop a l))

  pub noted_one : (x m : ℕ) → m < 4096 → has_node over x m ≡ (some (eqb x) (row ∷ []) && eqb m node) || has_node l x m
  unfolding has_node
  noted_one x m h = cases (truth (eqb (x * 4 + m / 1024) s))
      (λ t. let e : x * 4 + m / 1024 ≡ s = eqb-true (x * 4 + m / 1024) s t in
      ap (λ (w : List ℕ). has w (m % 1024)) (ap (words_of over) e ∙ block_here l p s a k ea whole ek room) ∙ told (m % 1024)
      ∙ ap₂ ◌||◌ (own e) (ap (λ (z : ℕ). has (words_of l z) (m % 1024)) (sym e)))
      (λ t. let n = eqb-false (x * 4 + m / 1024) s t in
      ap (λ (w : List ℕ). has w (m % 1024)) (block-other l p s a k ea whole ek room (x * 4 + m / 1024) n)
      ∙ ap (λ (b : Bool). b || has (words_of l (x * 4 + m / 1024)) (m % 1024)) (sym (other n)))
    where
      own : x * 4 + m / 1024 ≡ s → eqb (node % 1024) (m % 1024) ≡ (eqb x row || false) && eqb m node
      own e = cases (truth (eqb m node))
          (λ t. let q = eqb-true m node t in
          eq-eqb (node % 1024) (m % 1024) (omega (arith, q)) ∙ sym (ap₂ (λ (a b : Bool). (a || false) && b) (eq-eqb x row (omega (arith, e, q))) t))
          (λ t. let q = eqb-false m node t in
          ne_eqb (node % 1024) (m % 1024) (λ z. q (omega (arith, z, e, h, few))) ∙ sym (ap (λ (b : Bool). (eqb x row || false) && b) t ∙ no (eqb x row || false)))
        where
          no : (b : Bool) → b && false ≡ false
          no true = refl
          no false = refl

      other : x * 4 + m / 1024 ≢ s → (eqb x row || false) && eqb m node ≡ false
      other n = cases (truth (eqb x row))
          (λ t. ap₂ (λ (a b : Bool). (a || false) && b) t (ne_eqb m node (λ q. n (omega (arith, q, eqb-true x row t)))))
          (λ t. ap (λ (b : Bool). (b || false) && eqb m node) t)

-- ---- one row after the other: those before place i have the node

pub record Noting (rows : List ℕ) (node : ℕ) (old l : List ℕ) (i : ℕ) : Type 0 where
  pub below : i ≤ length rows
  pub size : length l ≡ length old
  pub each : (x m : ℕ) → m < 4096 → (some (eqb x) (drop i rows) && eqb m node) || has_node l x m ≡ (some (eqb x) rows && eqb m node) || has_node old x m

or-both : (a b c d : Bool) → (b && c) || ((a || false) && c || d) ≡ (a || b) && c || d
or-both true true true d = refl
or-both true true false d = refl
or-both true false true d = refl
or-both true false false d = refl
or-both false true true d = refl
or-both false true false d = refl
or-both false false true d = refl
or-both false false false d = refl

module _ {rows : List ℕ} {node : ℕ} {old l : List ℕ} {i : ℕ} (n : Noting rows node old l i) where
  pub noting_more : {l₂ : List ℕ} → i < length rows → Noted (get_or rows i 0 ∷ []) node l l₂ → Noting rows node old l₂ (i + 1)
  noting_more {l₂} h t = record {
    below = omega (arith, h);
    size = t.size ∙ n.size;
    each = λ x m k.
        ap (λ (b : Bool). (some (eqb x) (drop (i + 1) rows) && eqb m node) || b) (t.each x m k)
        ∙ or-both (eqb x (get_or rows i 0)) (some (eqb x) (drop (i + 1) rows)) (eqb m node) (has_node l x m)
        ∙ ap (λ (b : Bool). b && eqb m node || has_node l x m) (sym (some_next (eqb x) rows i h))
        ∙ n.each x m k;
  }

  pub noting_done : length rows ≤ i → Noted rows node old l
  noting_done h = record {
    size = n.size;
    each = λ x m k. ap (λ (b : Bool). b && eqb m node || has_node l x m) (sym (some-done (eqb x) rows i h)) ∙ n.each x m k;
  }
