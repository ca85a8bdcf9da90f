-- Runs of rows: their rows, and the rows of large groups.
use mathlib.Core.Path.{◌≡◌, refl, sym, ap, subst, ◌∙◌}
use mathlib.Core.Bool.{Bool, not, false≢true}
use mathlib.Core.List.Memᴰ
use mathlib.Core.List.{List, [], ◌∷◌, ◌++◌}
use Prim.Native.Nat.{ℕ}
use lib.Dec.{leb}
use lib.ListN.{length}
use Rattle.lists.specs.Lists.{◌∈◌, keep}
use Rattle.lists.specs.Order.{earlier}
use Rattle.lists.proofs.Tests.{cases, truth}
use Rattle.lists.proofs.Members.{keep_in, keep_append, keep_all, keep-none}
use Rattle.lists.proofs.Order.{same-eq}
use Rattle.rows_order.specs.Index.{arranged}
use Rattle.rows_runs.specs.Runs.{Run, members, runs, attach}
use Rattle.rows_order.proofs.Arranged.{alike, arranged_ordered}
use Rattle.rows_runs.proofs.Runs.{cell_of, runs-whole}
use Rattle.rows_slots.specs.Slots.{flat, large, crowds, shares, loners}

-- ---- the rows of runs

attach-flat : (key : ℕ → List ℕ) (x : ℕ) (rs : List Run) → flat (attach key x rs) ≡ x ∷ flat rs
attach-flat key x [] = refl
attach-flat key x (r ∷ rs) = cases (truth (earlier (key x) (key r.first))) (λ t. rw t) (λ t. rw t)

pub flat-runs : (key : ℕ → List ℕ) (l : List ℕ) → flat (runs key l) ≡ l
unfolding runs
flat-runs key [] = refl
flat-runs key (x ∷ l) = attach-flat key x (runs key l) ∙ ap (λ (m : List ℕ). x ∷ m) (flat-runs key l)

-- a test of rows that a test of runs agrees with
pub flat_keep : (p : ℕ → Bool) (q : Run → Bool) (rs : List Run) → ((r : Run) → r ∈ rs → (x : ℕ) → x ∈ members r → p x ≡ q r) → flat (keep q rs) ≡ keep p (flat rs)
flat_keep p q [] h = refl
flat_keep p q (r ∷ rs) h =
    let rest = flat_keep p q rs (λ s m. h s (Memᴰ.tail m)) in
    let own = h r (Memᴰ.head refl) in
    cases (truth (q r))
    (λ t. rw t (ap (λ (m : List ℕ). members r ++ m) rest ∙ ap (λ (m : List ℕ). m ++ keep p (flat rs)) (sym (keep_all p (members r) (λ x m. own x m ∙ t))) ∙ sym (keep_append p (members r) (flat rs))))
    (λ t. rw t (rest ∙ ap (λ (m : List ℕ). m ++ keep p (flat rs)) (sym (keep-none p (members r) (λ x m u. false≢true (sym (own x m ∙ t) ∙ u)))) ∙ sym (keep_append p (members r) (flat rs))))

-- ---- rows of large groups

module _ (key : ℕ → List ℕ) (n least : ℕ) where
  pub shares-large : (r : Run) → r ∈ runs key (arranged key n) → (x : ℕ) → x ∈ members r → shares least key n x ≡ large least r
  unfolding shares
  shares-large r m x i =
      let w = runs-whole key (arranged key n) (arranged_ordered key n) m in
      let k : cell_of key r ≡ key x = same-eq (cell_of key r) (key x) (keep_in (alike key (cell_of key r)) (arranged key n) (subst (λ (l : List ℕ). x ∈ l) w i)).1 in
      ap (λ (l : List ℕ). leb least (length l)) (ap (λ (c : List ℕ). keep (alike key c) (arranged key n)) (sym k) ∙ sym w)

  pub crowds-flat : flat (crowds least key n) ≡ keep (shares least key n) (arranged key n)
  unfolding crowds
  crowds-flat = flat_keep (shares least key n) (large least) (runs key (arranged key n)) shares-large ∙ ap (keep (shares least key n)) (flat-runs key (arranged key n))

  pub loners-flat : flat (keep (λ r. not (large least r)) (runs key (arranged key n))) ≡ loners least key n
  unfolding loners
  loners-flat =
      flat_keep (λ x. not (shares least key n x)) (λ r. not (large least r)) (runs key (arranged key n)) (λ r m x i. ap not (shares-large r m x i))
      ∙ ap (keep (λ x. not (shares least key n x))) (flat-runs key (arranged key n))
