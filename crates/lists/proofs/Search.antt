-- The search by halving: at the start the test turns somewhere, each half that is dropped keeps it so, and at the end the place is known.
use mathlib.Core.Path.{◌≡◌, sym, ap, subst, ◌∙◌}
use mathlib.Core.Bool.{Bool, true, false, false≢true}
use mathlib.Core.List.{List}
use Prim.Native.Nat.{ℕ, suc, ◌+◌, ◌-◌, ◌≤◌, ◌<◌}
use native.Mathlib.Omega.{arith}
use lib.Dec.{eqb, ltb}
use lib.ListN.{length, get_or}
use borrow.Author.Tests.{eqb-true, eqb-false, ltb-true, ltb-false}
use Rattle.lists.specs.Lists.{◌∈◌}
use Rattle.lists.specs.Order.{Strict, Rising}
use Rattle.lists.specs.Search.{Between}
use Rattle.lists.proofs.Tests.{cases, truth, refuted}
use Rattle.lists.proofs.Members.{in_at}
use Rattle.lists.proofs.Places.{pairwise_at}

module _ (p : ℕ → Bool) (n : ℕ) where
  pub between_all : Between p n 0 n
  between_all = record { rise = omega arith; within = omega arith; passes = λ j e. absurd (omega (arith, e)); fails = λ h. absurd (omega (arith, h)) }

  module _ {low high : ℕ} (b : Between p n low high) where
    module _ (mid : ℕ) (g : low ≤ mid) (h : mid < high) where
      pub between_left : p mid ≡ false → Between p n low mid
      between_left e = record { rise = g; within = omega (arith, b.within); passes = b.passes; fails = λ l. e }

      pub between_right : p mid ≡ true → Between p n (mid + 1) high
      between_right e = record {
        rise = omega arith;
        within = b.within;
        passes = λ j q. let m : mid ≡ j = omega (arith, q) in subst (λ (i : ℕ). p i ≡ true) m e;
        fails = b.fails;
      }

    pub between_done : high ≤ low → Between p n low low
    between_done h = let e : high ≡ low = omega (arith, b.rise) in subst (Between p n low) e b

  -- where the test passes at every place before one at which it does, it passes at all before the place that was found
  pub between_below : ((j k : ℕ) → j < k → k < n → p k ≡ true → p j ≡ true) → {r : ℕ} → Between p n r r → (j : ℕ) → j < r → p j ≡ true
  between_below down {r} b j h = cases (truth (eqb (suc j) r))
      (λ q. b.passes j (eqb-true (suc j) r q))
      (λ q. let m : suc j < r = omega (arith, eqb-false (suc j) r q) in
      down j (r - 1) (omega arith) (omega (arith, b.within)) (b.passes (r - 1) (omega arith)))

-- in a list that rises strictly, the test whether a member comes before x turns at x
module _ {A : Type 0} (a : A) {less : A → A → Bool} (o : Strict less) {l : List A} (r : Rising less l) {x : A} (i : x ∈ l) (p : ℕ → Bool)
    (tests : (j : ℕ) → j < length l → p j ≡ less (get_or l j a) x) where
  rising_down : (j k : ℕ) → j < k → k < length l → p k ≡ true → p j ≡ true
  rising_down j k h m e =
      tests j (omega (arith, h, m)) ∙ o.trans (get_or l j a) (get_or l k a) x (pairwise_at a (λ y z. less y z ≡ true) l j k r h m) (sym (tests k m) ∙ e)

  pub rising-found : {k : ℕ} → Between p (length l) k k → (k < length l) × (get_or l k a ≡ x)
  rising-found {k} b =
      let j = in_at a i in
      let own : p j.0 ≡ false = tests j.0 j.1 ∙ refuted (λ e. o.irrefl x (rw j.2 at e)) in
      let h : k ≤ j.0 = cases (truth (ltb j.0 k))
      (λ q. absurd (false≢true (sym own ∙ between_below p (length l) rising_down b j.0 (ltb-true j.0 k q))))
      (ltb-false j.0 k) in
      let m : k < length l = omega (arith, h, j.1) in
      let g : j.0 ≤ k = cases (truth (ltb k j.0))
      (λ q. absurd (false≢true (sym (b.fails m) ∙ tests k m ∙ rw j.2 at (pairwise_at a (λ y z. less y z ≡ true) l k j.0 r (ltb-true k j.0 q) j.1))))
      (ltb-false k j.0) in
      let q : k ≡ j.0 = omega (arith, h, g) in
      (m, ap (λ (n : ℕ). get_or l n a) q ∙ j.2)
