-- Two rows: whether they agree on a set, by their order, and whether they agree on another if so.
use mathlib.Core.Path.{◌≡◌, refl, sym, ap, ◌∙◌}
use mathlib.Core.Bool.{true, false, false≢true}
use mathlib.Core.List.{List}
use Prim.Native.Nat.{ℕ}
use Rattle.lists.proofs.Tests.{cases, truth, refuted}
use Rattle.lists.proofs.Order.{same_refl}
use Rattle.cube.specs.Codes.{cell, agree}
use Rattle.cube.proofs.Codes.{agree-cell, agree_same}
use Rattle.rows_compare.specs.declared.Order.{Order}
use Rattle.rows_compare.specs.declared.Order.TheVariants.{Before, Equal, After}
use Rattle.rows_compare.specs.Compare.{compared, is_equal}
use Rattle.rows_compare.proofs.Parting.{compared-equal}
use Rattle.call_keys.specs.Laid.{follows}

-- ---- by their order

pub equal-agree : (s : ℕ) (x y : List ℕ) (o : Order) → compared s x y ≡ o → is_equal o ≡ agree s x y
equal-agree s x y o e = cases (truth (agree s x y))
    (λ a. ap is_equal (sym e ∙ (compared-equal s x y).1 a) ∙ sym a)
    (λ a. refuted (λ q. false≢true (sym a ∙ (compared-equal s x y).0 (e ∙ equal o q))) ∙ sym a)
  where
    equal : (o : Order) → is_equal o ≡ true → o ≡ Equal
    equal (Before i) q = absurd (false≢true q)
    equal Equal q = refl
    equal (After i) q = absurd (false≢true q)

-- ---- as their cells

pub agree_of : (s : ℕ) (x y : List ℕ) → cell s x ≡ cell s y → agree s x y ≡ true
agree_of s x y e = agree_same s x y ∙ rw e (same_refl (cell s y))

module _ (s : ℕ) (x y : List ℕ) where
  pub agree_sym : agree s x y ≡ true → agree s y x ≡ true
  agree_sym a = agree_of s y x (sym (agree-cell s x y a))

  pub agree_trans : (z : List ℕ) → agree s x y ≡ true → agree s y z ≡ true → agree s x z ≡ true
  agree_trans z a b = agree_of s x z (agree-cell s x y a ∙ agree-cell s y z b)

-- ---- on another set if on one

module _ (s t : ℕ) (x y : List ℕ) where
  pub follows-apart : agree s x y ≡ false → follows s t x y ≡ true
  unfolding follows
  follows-apart e = rw e

  pub follows_as : agree s x y ≡ true → follows s t x y ≡ agree t x y
  unfolding follows
  follows_as e = rw e
