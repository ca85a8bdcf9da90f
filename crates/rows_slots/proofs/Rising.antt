-- Runs of one key each, whose keys rise.
use mathlib.Core.Path.{◌≡◌, refl, sym, subst}
use mathlib.Core.Bool.{Bool, true}
use mathlib.Core.List.Memᴰ
use mathlib.Core.List.{List, [], ◌∷◌}
use Prim.Native.Nat.{ℕ}
use Rattle.lists.specs.Lists.{◌∈◌, keep, Pairwise}
use Rattle.lists.specs.Order.{earlier}
use Rattle.lists.proofs.Tests.{cases}
use Rattle.lists.proofs.Members.{keep_in}
use Rattle.lists.proofs.Pairwise.{pairwise_keep, pairwise_of_map}
use Rattle.lists.proofs.Order.{same-eq}
use Rattle.rows_order.specs.Index.{arranged}
use Rattle.rows_runs.specs.Runs.{Run, members, runs}
use Rattle.rows_order.specs.Few.{Ordered}
use Rattle.rows_order.proofs.Arranged.{alike, arranged_ordered}
use Rattle.rows_runs.proofs.Runs.{cell_of, runs-rising, runs-whole}
use Rattle.rows_slots.specs.Slots.{flat, large, crowds}

-- a row of runs is one of a run
pub flat_in : (rs : List Run) {y : ℕ} → y ∈ flat rs → (r : Run) × (r ∈ rs) × (y ∈ members r)
flat_in [] m = absurd (Memᴰ.not-nil m)
flat_in (r ∷ rs) m = cases (Memᴰ.append_cases (members r) m)
    (λ i. (r, Memᴰ.head refl, i))
    (λ i. let q = flat_in rs i in (q.0, Memᴰ.tail q.1, q.2))

module _ (key : ℕ → List ℕ) where
  abbrev pub Split : List Run → Type 0
  Split [] = Unit {0}
  Split (r ∷ rs) = ((x : ℕ) → x ∈ members r → key x ≡ key r.first) × ((y : ℕ) → y ∈ flat rs → earlier (key r.first) (key y) ≡ true) × Split rs

  split_of : (rs : List Run) → ((r : Run) → r ∈ rs → (x : ℕ) → x ∈ members r → key x ≡ key r.first) → Pairwise (λ r s. earlier (cell_of key r) (cell_of key s) ≡ true) rs → Split rs
  split_of [] h p = tt
  split_of (r ∷ rs) h p = (
    h r (Memᴰ.head refl),
    λ y m. let q = flat_in rs m in rw (h q.0 (Memᴰ.tail q.1) y q.2) (p.0 q.0 q.1),
    split_of rs (λ s m. h s (Memᴰ.tail m)) p.1,
  )

  pub split_runs : (q : Run → Bool) (l : List ℕ) → Ordered key l → Split (keep q (runs key l))
  split_runs q l o = split_of (keep q (runs key l))
      (λ r m x i. let w = runs-whole key l o (keep_in q (runs key l) m).0 in
      sym (same-eq (cell_of key r) (key x) (keep_in (alike key (cell_of key r)) l (subst (λ (z : List ℕ). x ∈ z) w i)).1))
      (pairwise_keep (λ r s. earlier (cell_of key r) (cell_of key s) ≡ true) q (runs key l)
      (pairwise_of_map (λ x y. earlier x y ≡ true) (cell_of key) (runs key l) (runs-rising key l o)))

-- the groups of rows do so
pub crowds-rise : (key : ℕ → List ℕ) (n least : ℕ) → Split key (crowds least key n)
unfolding crowds
crowds-rise key n least = split_runs key (large least) (arranged key n) (arranged_ordered key n)
