-- Rows that are groups by themselves may be left out of rows in order: the large groups stay, and so do the other rows that were not left out.
use mathlib.Core.Path.{◌≡◌, refl, sym, ap, ◌∙◌}
use mathlib.Core.Bool.{Bool, true, not}
use mathlib.Core.List.Memᴰ
use mathlib.Core.List.{List, [], ◌∷◌}
use Prim.Native.Nat.{ℕ, suc, ◌≤◌}
use native.Mathlib.Omega.{arith}
use lib.ListN.{length}
use borrow.Author.Tests.{leb-false}
use Rattle.lists.specs.Lists.{◌∈◌, keep}
use Rattle.lists.proofs.Tests.{cases, truth}
use Rattle.lists.proofs.Members.{keep-part, keep_in}
use Rattle.rows_runs.specs.Runs.{Run, members, runs}
use Rattle.rows_order.specs.Few.{Ordered}
use Rattle.rows_runs.proofs.Runs.{runs-one, runs-join, runs_append}
use Rattle.rows_slots.specs.Slots.{flat, large}
use Rattle.rows_slots.proofs.Groups.{flat-runs, flat_keep}
use Rattle.rows_slots.proofs.Last.{not_self}
use Rattle.rows_slots.proofs.Rising.{Split, split_runs}

keep_swap : {A : Type 0} (p q : A → Bool) (l : List A) → keep p (keep q l) ≡ keep q (keep p l)
keep_swap p q [] = refl
keep_swap p q (x ∷ l) = cases (truth (p x))
    (λ s. cases (truth (q x)) (λ t. simp (s, t, keep_swap p q l)) (λ t. simp (s, t, keep_swap p q l)))
    (λ s. cases (truth (q x)) (λ t. simp (s, t, keep_swap p q l)) (λ t. simp (s, t, keep_swap p q l)))

-- ---- runs of runs

module _ (key : ℕ → List ℕ) where
  one-run : (x : ℕ) (m : List ℕ) → ((y : ℕ) → y ∈ m → key y ≡ key x) → runs key (x ∷ m) ≡ record { first = x; more = m } ∷ []
  unfolding runs
  one-run x [] h = runs-one key x
  one-run x (y ∷ m) h =
      let e = h y (Memᴰ.head refl) in
      runs-join key x y m m [] (not_self (key x) (key y) (sym e)) (one-run y m (λ z i. h z (Memᴰ.tail i) ∙ sym e))

  pub runs-again : (rs : List Run) → Split key rs → runs key (flat rs) ≡ rs
  unfolding runs
  runs-again [] s = refl
  runs-again (r ∷ rs) s =
      runs_append key (members r) (flat rs) (λ x y i j. rw (s.0 x i) (s.1 y j))
      ∙ rw (one-run r.first r.more (λ y i. s.0 y (Memᴰ.tail i)), runs-again rs s.2) refl

  -- rows that do not pass a test are groups by themselves
  module _ (least : ℕ) (high : least ≤ 2) (p : ℕ → Bool) (l : List ℕ) (o : Ordered key l) (h : (r : Run) → r ∈ runs key l → large least r ≡ true → (x : ℕ) → x ∈ members r → p x ≡ true) where
    abbrev test : Run → Bool
    test r = p r.first

    abbrev lone : Run → Bool
    lone r = not (large least r)

    alike : (r : Run) → r ∈ runs key l → (x : ℕ) → x ∈ members r → p x ≡ test r
    alike r m x i = cases (truth (large least r))
        (λ t. h r m t x i ∙ sym (h r m t r.first (Memᴰ.head refl)))
        (λ t. ap p (alone r.more (omega (arith, leb-false least (suc (length r.more)) t)) i))
      where
        alone : (m : List ℕ) → length m ≡ 0 → x ∈ r.first ∷ m → x ≡ r.first
        alone [] e j = Memᴰ.eq_of_singleton j
        alone (y ∷ m) e j = absurd (omega (arith, e))

    kept : runs key (keep p l) ≡ keep test (runs key l)
    kept = ap (runs key) (ap (keep p) (sym (flat-runs key l)) ∙ sym (flat_keep p test (runs key l) alike)) ∙ runs-again (keep test (runs key l)) (split_runs key test l o)

    pub large_kept : keep (large least) (runs key (keep p l)) ≡ keep (large least) (runs key l)
    large_kept = ap (keep (large least)) kept ∙ keep-part (large least) test (runs key l) (λ r m t. h r m t r.first (Memᴰ.head refl))

    pub small_kept : flat (keep lone (runs key (keep p l))) ≡ keep p (flat (keep lone (runs key l)))
    small_kept =
        ap (λ (rs : List Run). flat (keep lone rs)) kept ∙ ap flat (keep_swap lone test (runs key l))
        ∙ flat_keep p test (keep lone (runs key l)) (λ r m. alike r (keep_in lone (runs key l) m).0)
