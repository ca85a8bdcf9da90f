-- Base rows that are single on a node; lemma 2.1 of source document 004.
use mathlib.Core.Path.{◌≡◌, sym, ◌∙◌}
use mathlib.Core.Logic.{◌≢◌}
use mathlib.Core.Bool.{Bool, true, false, not, ◌||◌, false≢true, or-true}
use mathlib.Core.List.{List}
use Prim.Native.Nat.{ℕ}
use borrow.Author.Tests.{not-false}
use Rattle.lists.specs.Lists.{◌∈◌}
use Rattle.lists.specs.Order.{same}
use Rattle.lists.proofs.Tests.{cases, truth, neither, every_in, every_of, every_not}
use Rattle.lists.proofs.Order.{same-eq, same_refl}
use Rattle.cube.specs.Lattice.{Lattice, Laws}
use Rattle.cube.specs.Condensed.{single}

module _ (L : Lattice) (xs : List (List ℕ)) (s : ℕ) (x : List ℕ) where
  abbrev test : List ℕ → Bool
  test y = not (L.agree s x y) || same x y

  -- whoever agrees with a single row is that row
  pub single-other : {y : List ℕ} → single L xs s x ≡ true → y ∈ xs → L.agree s x y ≡ true → x ≡ y
  unfolding single
  single-other {y} e m a = same-eq x y (rw a at (every_in test e m))

  pub single_of : ((y : List ℕ) → y ∈ xs → L.agree s x y ≡ true → x ≡ y) → single L xs s x ≡ true
  unfolding single
  single_of h = every_of test xs (λ y m. cases (truth (L.agree s x y))
      (λ a. rw (← h y m a, same_refl x, or-true))
      (λ a. rw a))

  -- a row that is not single agrees with another
  pub single_not : single L xs s x ≡ false → (y : List ℕ) × (y ∈ xs) × (L.agree s x y ≡ true) × (x ≢ y)
  unfolding single
  single_not e =
      let r = every_not test xs e in
      let t = neither (not (L.agree s x r.0)) (same x r.0) r.2 in
      (r.0, r.1, not-false (L.agree s x r.0) t.0, λ h. false≢true (sym t.1 ∙ (rw (← h) (same_refl x))))

-- A row single on a node is single on every node that holds it.
pub single_up : (L : Lattice) (W : Laws L) (xs : List (List ℕ)) (s t : ℕ) (x : List ℕ) → L.valid x → L.holds s t ≡ true → single L xs t x ≡ true → single L xs s x ≡ true
single_up L W xs s t x k h e = single_of L xs s x (λ y m a. single-other L xs t x e m (W.agree_down s t x y k h a))
