-- A set fixes another just if neighbours in the order of the set do: rows that agree on the set stand side by side there.
use mathlib.Core.Path.{◌≡◌, sym, ap, ap₂, ◌∙◌}
use mathlib.Core.Bool.{Bool, true, false, false≢true}
use mathlib.Core.List.{List, []}
use Prim.Native.Nat.{ℕ, zero, suc, ◌+◌, ◌-◌, ◌≤◌, ◌<◌}
use native.Mathlib.Omega.{arith}
use lib.Dec.{eqb, ltb}
use lib.ListN.{get_or}
use borrow.Author.Tests.{eqb-true, eqb-false, ltb-true, ltb-false}
use Rattle.std.specs.List.{list_all, range_with_len}
use Rattle.lists.specs.Lists.{◌∈◌}
use Rattle.lists.specs.Order.{earlier}
use Rattle.lists.proofs.Tests.{cases, truth, refuted}
use Rattle.lists.proofs.Members.{at_in, in_at}
use Rattle.lists.proofs.Places.{pairwise_at}
use Rattle.lists.proofs.Order.{by_codes}
use Rattle.cube.specs.Codes.{cell, agree, plain}
use Rattle.cube.specs.Keys.{fixes}
use Rattle.cube.proofs.Codes.{agree_refl, agree-cell}
use Rattle.cube.proofs.Keys.{fixes-in, fixes_of}
use Rattle.rows.specs.Rows.{cut, row_at}
use Rattle.rows.proofs.Rows.{cut-length}
use Rattle.rows_order.specs.Index.{key, Indexed}
use Rattle.rows_runs.proofs.Indexed.{indexed_ordered, indexed_below, indexed_of}
use Rattle.call_keys.specs.Laid.{follows}
use Rattle.call_fixes.proofs.Follows.{agree_of, agree_sym, agree_trans, follows-apart, follows_as}

-- the row at a place of the index
abbrev pub placed : List (List ℕ) → List ℕ → ℕ → List ℕ
placed xs index k = row_at xs (get_or index k 0)

-- of the rows at the first k places, those that agree on set s agree on set t
pub record FixedTo (xs : List (List ℕ)) (index : List ℕ) (s t k : ℕ) : Type 0 where
  pub each : (i j : ℕ) → i < j → j < k → agree s (placed xs index i) (placed xs index j) ≡ true → agree t (placed xs index i) (placed xs index j) ≡ true

pub fixed_none : (xs : List (List ℕ)) (index : List ℕ) (s t : ℕ) → FixedTo xs index s t 1
fixed_none xs index s t = record { each = λ i j h g. absurd (omega arith) }

module _ {rows dims s : ℕ} {ws index : List ℕ} (x : Indexed rows dims s ws index) where
  abbrev xs : List (List ℕ)
  xs = cut dims rows ws

  abbrev at : ℕ → List ℕ
  at = placed xs index

  -- rows between rows that agree on the set agree with them
  between : (i j k : ℕ) → i < j → j < k → k < rows → agree s (at i) (at k) ≡ true → agree s (at j) (at k) ≡ true
  unfolding key
  between i j k h g l e =
      let c = agree-cell s (at i) (at k) e in
      let R : ℕ → ℕ → Type 0 = λ y z. earlier (cell s (row_at xs z)) (cell s (row_at xs y)) ≡ false in
      let p = pairwise_at 0 R index i j (indexed_ordered x) h (omega (arith, x.places)) in
      let q = pairwise_at 0 R index j k (indexed_ordered x) g (omega (arith, x.places)) in
      agree_of s (at j) (at k) (by_codes.total (cell s (at j)) (cell s (at k)) (rw c at p) q)

  at_row : (k : ℕ) → k < rows → at k ∈ xs
  at_row k h = at_in [] xs (get_or index k 0) (rw cut-length (indexed_below x k h))

  row-at : {y : List ℕ} → y ∈ xs → (k : ℕ) × (k < rows) × (at k ≡ y)
  row-at m =
      let r = in_at [] m in
      let h : r.0 < rows = omega (arith, r.1, cut-length dims rows ws) in
      let p = in_at 0 (indexed_of x h) in
      (p.0, omega (arith, p.1, x.places), ap (row_at xs) p.2 ∙ r.2)

  module _ (t : ℕ) {k : ℕ} where
    -- one place more
    pub fixed_on : FixedTo xs index s t k → 1 ≤ k → k < rows → follows s t (at (k - 1)) (at k) ≡ true → FixedTo xs index s t (k + 1)
    fixed_on m a h f = record {
      each = λ i j g l e. cases (truth (eqb j k))
          (λ q. let z = eqb-true j k q in rw z (last i (omega arith) (rw z at e)))
          (λ q. m.each i j g (omega (arith, l, eqb-false j k q)) e);
    }
      where
        then : agree s (at (k - 1)) (at k) ≡ true → agree t (at (k - 1)) (at k) ≡ true
        then b = sym (follows_as s t (at (k - 1)) (at k) b) ∙ f

        last : (i : ℕ) → i < k → agree s (at i) (at k) ≡ true → agree t (at i) (at k) ≡ true
        last i g e = cases (truth (eqb i (k - 1)))
            (λ q. let z = eqb-true i (k - 1) q in rw z (then (rw z at e)))
            (λ q. let n : i < k - 1 = omega (arith, eqb-false i (k - 1) q) in
            let b = between i (k - 1) k n (omega arith) h e in
            let c = agree_trans s (at i) (at k) (at (k - 1)) e (agree_sym s (at (k - 1)) (at k) b) in
            agree_trans t (at i) (at (k - 1)) (at k) (m.each i (k - 1) n (omega arith) c) (then b))

    -- all places
    pub fixed_all : FixedTo xs index s t k → rows ≤ k → fixes (plain dims) xs s t ≡ true
    fixed_all m h = fixes_of (plain dims) xs s t (λ y z n o a.
        let p = row-at n in
        let q = row-at o in
        let b : agree s (at p.0) (at q.0) ≡ true = ap₂ (agree s) p.2 q.2 ∙ a in
        ap₂ (agree t) (sym p.2) (sym q.2) ∙ pair p.0 q.0 p.1 q.1 b)
      where
        pair : (i j : ℕ) → i < rows → j < rows → agree s (at i) (at j) ≡ true → agree t (at i) (at j) ≡ true
        pair i j g l b = cases (truth (ltb i j))
            (λ e. m.each i j (ltb-true i j e) (omega arith) b)
            (λ e. cases (truth (ltb j i))
            (λ f. agree_sym t (at j) (at i) (m.each j i (ltb-true j i f) (omega arith) (agree_sym s (at i) (at j) b)))
            (λ f. let z : i ≡ j = omega (arith, ltb-false i j e, ltb-false j i f) in rw z (agree_refl t (at j))))

    -- neighbours that do not
    pub fixed_off : 1 ≤ k → k < rows → follows s t (at (k - 1)) (at k) ≡ false → fixes (plain dims) xs s t ≡ false
    fixed_off a h f = refuted (λ e. false≢true (sym f ∙ go e))
      where
        go : fixes (plain dims) xs s t ≡ true → follows s t (at (k - 1)) (at k) ≡ true
        go e = cases (truth (agree s (at (k - 1)) (at k)))
            (λ b. follows_as s t (at (k - 1)) (at k) b ∙ fixes-in (plain dims) xs s t e (at_row (k - 1) (omega arith)) (at_row k h) b)
            (follows-apart s t (at (k - 1)) (at k))

  -- whether the row at a place follows the row in front of it
  abbrev pub next : ℕ → ℕ → Bool
  next t k = follows s t (at (k - 1)) (at k)

  -- the pairs from place k on tell the rest
  pub fixed_rest : (t m k : ℕ) → FixedTo xs index s t k → 1 ≤ k → m ≡ rows - k → list_all (next t) (range_with_len k m) ≡ fixes (plain dims) xs s t
  fixed_rest t zero k m a e = sym (fixed_all t m (omega (arith, e)))
  fixed_rest t (suc n) k m a e = cases (truth (next t k))
      (λ f. rw f (fixed_rest t n (k + 1) (fixed_on t m a (omega (arith, e)) f) (omega arith) (omega (arith, e))))
      (λ f. rw f (sym (fixed_off t a (omega (arith, e)) f)))
