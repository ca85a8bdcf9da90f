-- The codes of rows at a node, headed by those of the column to which a level fell.
use mathlib.Core.Path.{◌≡◌, refl, sym, ap, ap₂, subst, ◌∙◌}
use mathlib.Core.Bool.{Bool, true, false, cond, ◌&&◌, ◌||◌}
use mathlib.Core.List.{List, [], ◌∷◌}
use Prim.Native.Nat.{ℕ, suc, ◌+◌, ◌-◌, ◌*◌, ◌/◌, ◌%◌, ◌≤◌, ◌<◌}
use native.Mathlib.Nat.{div-add-mod}
use native.Mathlib.Omega.{arith}
use lib.Dec.{eqb, ltb}
use lib.ListN.{get_or}
use borrow.Author.Tests.{lt-ltb, le-ltb}
use Rattle.lists.specs.Order.{earlier}
use Rattle.lists.proofs.Tests.{cases, truth}
use Rattle.lists.proofs.Order.{earlier_skip}
use Rattle.cube.specs.Codes.{ALL}
use Rattle.rows_columns.specs.Columns.{part}
use Rattle.rows_carry.specs.Carried.{Headed}
use Rattle.family_nodes.specs.Nodes.{node_count}
use Rattle.family_nodes.proofs.Nodes.{Some, fore, rest, digit, count-pos, quotient_lt}
use Rattle.family_slots.specs.Turns.{turn_at, turn_column, topped, parent}
use Rattle.family_slots.specs.Slots.{level_code, codes_at, node_key}
use Rattle.family_slots.proofs.Turns.{last-count, falls, wraps, at_next, column-next}

-- a code that two lists share in the second place does not count
skip-second : (a b c : ℕ) (x y : List ℕ) → earlier (a ∷ c ∷ x) (b ∷ c ∷ y) ≡ earlier (a ∷ x) (b ∷ y)
skip-second a b c x y = ap (λ (t : Bool). ltb a b || (eqb a b && t)) (earlier_skip c c x y refl)

module _ (columns : List ℕ) (n : ℕ) where
  abbrev codes : ℕ → List ℕ → ℕ → ℕ → List ℕ
  codes = codes_at columns n

  -- the highest level shows ALL
  code-top : (c h x : ℕ) → 1 ≤ h → level_code columns n c h (h - 1) x ≡ ALL
  code-top c h x one = ap (λ (t : Bool). cond t (get_or (part (c + (h - 1)) n columns) x 0) ALL) (le-ltb (suc (h - 1)) h (omega (arith, one)))

  code-low : (c h l x : ℕ) → suc l < h → level_code columns n c h l x ≡ get_or (part (c + l) n columns) x 0
  code-low c h l x k = ap (λ (t : Bool). cond t (get_or (part (c + l) n columns) x 0) ALL) (lt-ltb (suc l) h k)

  -- the first dimension at ALL, the others at the levels of q
  codes-top : (c h : ℕ) (hs : List ℕ) (q x : ℕ) → 1 ≤ h → codes c (h ∷ hs) (h - 1 + h * q) x ≡ ALL ∷ codes (c + 4) hs q x
  codes-top c h hs q x one =
      let g = digit (h - 1) h q (omega (arith, one)) in
      ap (λ l. level_code columns n c h l x ∷ codes (c + 4) hs ((h - 1 + h * q) / h) x) g.0
      ∙ ap (λ r. level_code columns n c h (h - 1) x ∷ codes (c + 4) hs r x) g.1
      ∙ ap (λ a. a ∷ codes (c + 4) hs q x) (code-top c h x one)

  -- row x before row y by the code in column i and by the codes topped up to dimension j
  abbrev before : ℕ → List ℕ → ℕ → ℕ → ℕ → ℕ → ℕ → Bool
  before c hs node x y i j = earlier (get_or (part i n columns) x 0 ∷ codes c hs (topped hs (suc j) node) x) (get_or (part i n columns) y 0 ∷ codes c hs (topped hs (suc j) node) y)

  headed-codes : (c : ℕ) (hs : List ℕ) (node : ℕ) → Some hs → suc node < node_count hs → (x y : ℕ)
      → before c hs node x y (turn_column c hs (suc node)) (turn_at hs (suc node)) ≡ earlier (codes c hs node x) (codes c hs node y)
  headed-codes c [] node p k x y = absurd (omega (arith, k))
  headed-codes c (h ∷ hs) node p k x y = cases (truth (eqb (suc node % h) 0)) (later (λ q l. headed-codes (c + 4) hs q (rest p) l x y)) first
    where
      first : eqb (suc node % h) 0 ≡ false → before c (h ∷ hs) node x y (turn_column c (h ∷ hs) (suc node)) (turn_at (h ∷ hs) (suc node)) ≡ earlier (codes c (h ∷ hs) node x) (codes c (h ∷ hs) node y)
      first t =
          let f = falls h node (fore p) t in
          let top : (z : ℕ) → codes c (h ∷ hs) (h - 1 + h * (node / h)) z ≡ ALL ∷ codes (c + 4) hs (node / h) z = λ z. codes-top c h hs (node / h) z (fore p) in
          let a : ℕ → ℕ = λ z. get_or (part (c + (suc node % h - 1)) n columns) z 0 in
          let own : (z : ℕ) → level_code columns n c h (node % h) z ≡ a z = λ z. code-low c h (node % h) z f.2 ∙ ap (λ l. get_or (part (c + l) n columns) z 0) f.0 in
          ap (λ (u : Bool). before c (h ∷ hs) node x y (column-next c h hs (suc node) u) (at_next h hs (suc node) u)) t
          ∙ ap₂ (λ (u v : List ℕ). earlier (a x ∷ u) (a y ∷ v)) (top x) (top y)
          ∙ skip-second (a x) (a y) ALL (codes (c + 4) hs (node / h) x) (codes (c + 4) hs (node / h) y)
          ∙ sym (ap₂ (λ (u v : ℕ). earlier (u ∷ codes (c + 4) hs (node / h) x) (v ∷ codes (c + 4) hs (node / h) y)) (own x) (own y))

      later : ((q : ℕ) → suc q < node_count hs → before (c + 4) hs q x y (turn_column (c + 4) hs (suc q)) (turn_at hs (suc q)) ≡ earlier (codes (c + 4) hs q x) (codes (c + 4) hs q y))
          → eqb (suc node % h) 0 ≡ true → before c (h ∷ hs) node x y (turn_column c (h ∷ hs) (suc node)) (turn_at (h ∷ hs) (suc node)) ≡ earlier (codes c (h ∷ hs) node x) (codes c (h ∷ hs) node y)
      later rec t =
          let w = wraps h node (fore p) t in
          let q = topped hs (suc (turn_at hs (suc node / h))) (node / h) in
          let top : (z : ℕ) → codes c (h ∷ hs) (h - 1 + h * q) z ≡ ALL ∷ codes (c + 4) hs q z = λ z. codes-top c h hs q z (fore p) in
          let e : h - 1 + h * (node / h) ≡ node = omega (arith, w.0, div-add-mod node h) in
          let own : (z : ℕ) → codes c (h ∷ hs) node z ≡ ALL ∷ codes (c + 4) hs (node / h) z = λ z. subst (λ m. codes c (h ∷ hs) m z ≡ ALL ∷ codes (c + 4) hs (node / h) z) e (codes-top c h hs (node / h) z (fore p)) in
          let ih = rec (node / h) (subst (λ z. z < node_count hs) (sym w.1) (quotient_lt h (node_count hs) (suc node) (fore p) k)) in
          let a : ℕ → ℕ = λ z. get_or (part (turn_column (c + 4) hs (suc node / h)) n columns) z 0 in
          ap (λ (u : Bool). before c (h ∷ hs) node x y (column-next c h hs (suc node) u) (at_next h hs (suc node) u)) t
          ∙ ap₂ (λ (u v : List ℕ). earlier (a x ∷ u) (a y ∷ v)) (top x) (top y)
          ∙ skip-second (a x) (a y) ALL (codes (c + 4) hs q x) (codes (c + 4) hs q y)
          ∙ subst (λ m. before (c + 4) hs (node / h) x y (turn_column (c + 4) hs m) (turn_at hs m) ≡ earlier (codes (c + 4) hs (node / h) x) (codes (c + 4) hs (node / h) y)) w.1 ih
          ∙ sym (ap₂ earlier (own x) (own y) ∙ earlier_skip ALL ALL (codes (c + 4) hs (node / h) x) (codes (c + 4) hs (node / h) y) refl)

  pub node-headed : (hs : List ℕ) (node : ℕ) → Some hs → suc node < node_count hs → Headed n (part (turn_column 0 hs (suc node)) n columns) (node_key columns n hs (parent hs node)) (node_key columns n hs node)
  unfolding node_key
  node-headed hs node p k = record { order = λ x y i j. headed-codes 0 hs node p k x y }

  -- ---- the last node tells no rows apart

  codes-last : (c : ℕ) (hs : List ℕ) → Some hs → (x y : ℕ) → codes c hs (node_count hs - 1) x ≡ codes c hs (node_count hs - 1) y
  codes-last c [] p x y = refl
  codes-last c (h ∷ hs) p x y =
      let e = last-count h (node_count hs) (fore p) (count-pos hs (rest p)) in
      ap (λ m. codes c (h ∷ hs) m x) e ∙ codes-top c h hs (node_count hs - 1) x (fore p) ∙ ap (λ (l : List ℕ). ALL ∷ l) (codes-last (c + 4) hs (rest p) x y)
      ∙ sym (ap (λ m. codes c (h ∷ hs) m y) e ∙ codes-top c h hs (node_count hs - 1) y (fore p))

  pub node-last : (hs : List ℕ) → Some hs → (x y : ℕ) → node_key columns n hs (node_count hs - 1) x ≡ node_key columns n hs (node_count hs - 1) y
  unfolding node_key
  node-last hs p x y = codes-last 0 hs p x y
