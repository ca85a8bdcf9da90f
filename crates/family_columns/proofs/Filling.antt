-- The columns of a dimension, level by level.
use mathlib.Core.Path.{◌≡◌, refl, sym, ap, subst, ◌∙◌}
use mathlib.Core.Logic.{◌≢◌}
use mathlib.Core.List.{List, [], map, map-map}
use Prim.Native.Nat.{ℕ, suc, ◌+◌, ◌*◌, ◌/◌, ◌≤◌, ◌<◌}
use native.Mathlib.Omega.{arith}
use lib.Dec.{eqb, ltb}
use lib.ListN.{length, get_or, take, length-map, get_or-eq_default}
use borrow.Author.Tests.{eqb-true, eqb-false, ltb-true, ltb-false}
use Rattle.lists.specs.Lists.{◌∈◌}
use Rattle.lists.proofs.Tests.{cases, truth}
use Rattle.lists.proofs.Members.{at_in, map_same}
use Rattle.lists.proofs.Places.{map_at}
use Rattle.fields.specs.Words.{word_at, words_at}
use Rattle.rows.specs.Rows.{row_at}
use Rattle.rows_order.specs.Index.{code_at, column_of}
use Rattle.rows_columns.specs.Columns.{part}
use Rattle.family_nodes.specs.Families.{lift}
use Rattle.family_fields.specs.Places.{size_at, tower_at, Stands}
use Rattle.family_slots.specs.Slots.{Small}
use Rattle.family_columns.specs.Raised.{entry_of, raised, PutInto, dimension_codes, Dimension}
use Rattle.family_columns.proofs.Lifting.{lift-next, size-next, lift-below, size_small}

pub record Filling (s : List ℕ) (z : ℕ) (ps : List ℕ) (d : ℕ) (xs : List (List ℕ)) (columns₀ codes columns : List ℕ) (below l : ℕ) : Type 0 where
  pub upto : l ≤ length ps
  pub long : length codes ≡ length xs
  pub are : codes ≡ dimension_codes s z ps d l xs
  pub top : below ≡ size_at s z (take l ps)
  pub done : Dimension s z ps d xs columns₀ columns l

-- rows and the levels of a dimension, within the limits
pub record Given (s : List ℕ) (z : ℕ) (ps : List ℕ) (d : ℕ) (xs : List (List ℕ)) : Type 0 where
  pub few : length xs ≤ 1024
  pub three : length ps ≤ 3
  pub most : z ≤ 65535
  pub stands : Stands s z ps
  pub range : (x : List ℕ) → x ∈ xs → code_at d x < z

module _ {s : List ℕ} {z : ℕ} {ps : List ℕ} {d : ℕ} {xs : List (List ℕ)} (given : Given s z ps d xs) where
  abbrev t : ℕ → ℕ → ℕ
  t l a = lift (tower_at s z ps) l a

  -- a code at a level is below its size
  codes-below : (l k : ℕ) → l ≤ length ps → k < length xs → get_or (dimension_codes s z ps d l xs) k 0 < size_at s z (take l ps)
  unfolding dimension_codes
  codes-below l k h g = rw (map_at (λ x. t l (code_at d x)) [] 0 xs k g) (lift-below s z ps l (code_at d (row_at xs k)) given.stands h (given.range (row_at xs k) (at_in [] xs k g)))

  codes-long : (l : ℕ) → length (dimension_codes s z ps d l xs) ≡ length xs
  unfolding dimension_codes
  codes-long l = length-map xs (λ x. t l (code_at d x))

  codes-small : (l : ℕ) → l ≤ length ps → Small (dimension_codes s z ps d l xs)
  codes-small l h k = cases (truth (ltb k (length xs)))
      (λ u. omega (arith, codes-below l k h (ltb-true k (length xs) u), size_small s z ps l given.most given.stands))
      (λ u. let e : get_or (dimension_codes s z ps d l xs) k 0 ≡ 0 = get_or-eq_default (dimension_codes s z ps d l xs) 0 {n = k} (omega (arith, codes-long l, ltb-false k (length xs) u)) in omega (arith, e))

  -- the codes of a level put into its column
  put-level : {columns₀ columns columns₂ codes : List ℕ} {l : ℕ} (c : ℕ) → c ≡ d * 4 + l → l ≤ length ps → codes ≡ dimension_codes s z ps d l xs → Small columns → ((j : ℕ) → j < l → part (d * 4 + j) (length xs) columns ≡ dimension_codes s z ps d j xs)
      → ((u : ℕ) → u / 4 ≢ d → part u (length xs) columns ≡ part u (length xs) columns₀) → length columns ≡ length columns₀ → PutInto codes columns columns₂ c → Dimension s z ps d xs columns₀ columns₂ l
  put-level {columns₀} {columns} {columns₂} {codes} {l} c is h e f before others same p =
      let long : length codes ≡ length xs = ap length e ∙ codes-long l in
      record {
        size = p.size ∙ same;
        column = λ j g. cases (truth (eqb j l))
            (λ u. let q = eqb-true j l u in
            ap (λ (i : ℕ). part (d * 4 + i) (length xs) columns₂) q ∙ ap (λ (i : ℕ). part i (length xs) columns₂) (sym is) ∙ ap (λ (i : ℕ). part c i columns₂) (sym long) ∙ p.here ∙ e ∙ ap (λ (i : ℕ). dimension_codes s z ps d i xs) (sym q))
            (λ u. let n = eqb-false j l u in p.others (d * 4 + j) (length xs) (λ q. n (omega (arith, q, is))) given.few ∙ before j (omega (arith, g, n)));
        others = λ u q. p.others u (length xs) (λ v. q (omega (arith, v, is, h, given.three))) given.few ∙ others u q;
        small = p.small f (subst Small (sym e) (codes-small l h));
      }

  pub filling_start : {columns columns₂ codes : List ℕ} (c : ℕ) → c ≡ d * 4 → codes ≡ column_of d xs → Small columns → PutInto codes columns columns₂ c → Filling s z ps d xs columns₂ codes columns₂ z 0
  unfolding column_of dimension_codes
  filling_start {columns} {columns₂} {codes} c is e f p = record {
    upto = omega arith;
    long = ap length e ∙ length-map xs (code_at d);
    are = e;
    top = refl;
    done = let r = put-level {l = 0} c (omega (arith, is)) (omega arith) e f (λ j g. absurd (omega (arith, g))) (λ u q. refl) refl p in record { size = refl; column = r.column; others = λ u q. refl; small = r.small };
  }

  module _ {columns₀ codes columns : List ℕ} {below l : ℕ} (w : Filling s z ps d xs columns₀ codes columns below l) where
    pub filling_range : (k : ℕ) → k < length codes → get_or codes k 0 < below
    filling_range k h = rw (w.are, w.top) (codes-below l k w.upto (omega (arith, h, w.long)))

    module _ (h : l < length ps) where
      next-codes : raised s below (get_or ps l 0 + 4) codes ≡ dimension_codes s z ps d (suc l) xs
      unfolding raised dimension_codes
      next-codes =
          ap (λ (b : ℕ). map (entry_of (words_at s b (get_or ps l 0 + 4))) codes) w.top ∙ ap (map (entry_of (words_at s (size_at s z (take l ps)) (get_or ps l 0 + 4)))) w.are
          ∙ map-map (entry_of (words_at s (size_at s z (take l ps)) (get_or ps l 0 + 4))) (λ x. t l (code_at d x)) xs
          ∙ map_same (λ x. entry_of (words_at s (size_at s z (take l ps)) (get_or ps l 0 + 4)) (t l (code_at d x))) (λ x. t (suc l) (code_at d x)) xs (λ x m. sym (lift-next s z ps l (code_at d x) h))

      pub filling_more : {codes₂ columns₂ : List ℕ} (c : ℕ) → c ≡ d * 4 + l + 1 → codes₂ ≡ raised s below (get_or ps l 0 + 4) codes → PutInto codes₂ columns columns₂ c → Filling s z ps d xs columns₀ codes₂ columns₂ (word_at s (get_or ps l 0)) (l + 1)
      filling_more {codes₂} {columns₂} c is e p =
          let one : suc l ≡ l + 1 = omega arith in
          let are : codes₂ ≡ dimension_codes s z ps d (suc l) xs = e ∙ next-codes in
          subst (Filling s z ps d xs columns₀ codes₂ columns₂ (word_at s (get_or ps l 0))) one record {
            upto = omega (arith, h);
            long = ap length are ∙ codes-long (suc l);
            are = are;
            top = sym (size-next s z ps l h);
            done = put-level c (omega (arith, is)) (omega (arith, h)) are w.done.small (λ j g. w.done.column j (omega (arith, g))) w.done.others w.done.size p;
          }

    -- with what the column of level 0 was put into
    pub filling_done : {first columns₁ : List ℕ} (c : ℕ) → length ps ≤ l → c ≡ d * 4 → PutInto first columns₁ columns₀ c → Dimension s z ps d xs columns₁ columns (length ps)
    filling_done {first} {columns₁} c h is p =
        let e : l ≡ length ps = omega (arith, h, w.upto) in
        subst (Dimension s z ps d xs columns₁ columns) e record {
          size = w.done.size ∙ p.size;
          column = w.done.column;
          others = λ u q. w.done.others u q ∙ p.others u (length xs) (λ v. q (omega (arith, v, is))) given.few;
          small = w.done.small;
        }
