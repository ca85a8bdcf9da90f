-- Two rows compared under a set, one dimension after the other.
use mathlib.Core.Path.{◌≡◌, refl, sym, ap, ◌∙◌}
use mathlib.Core.Bool.{true}
use mathlib.Core.List.{List}
use Prim.Native.Nat.{ℕ, suc, ◌+◌, ◌/◌, ◌%◌, ◌≤◌, ◌<◌}
use native.Mathlib.Numerals.{add-one}
use native.Mathlib.Omega.{arith}
use lib.ListN.{length, get_or, drop, drop_of_length-le}
use lib.Seq.{drop-cons}
use borrow.Author.Tests.{eq-eqb, lt-ltb, le-ltb}
use Rattle.cube.specs.Codes.{alike}
use Rattle.rows_compare.specs.declared.Order.{Order}
use Rattle.rows_compare.specs.declared.Order.TheVariants.{Before, Equal, After}
use Rattle.rows_compare.specs.Compare.{next, compared}
use Rattle.rows_compare.proofs.Parting.{parts-alike}

-- a dimension counted after the first k, counted from the first
abbrev pub further : ℕ → Order → Order
further k (Before i) = Before (k + i)
further k Equal = Equal
further k (After i) = After (k + i)

further_next : (k : ℕ) (p : Order) → further (suc k) p ≡ further k (next p)
further_next k (Before i) = let e : suc k + i ≡ k + suc i = omega arith in ap Before e
further_next k Equal = refl
further_next k (After i) = let e : suc k + i ≡ k + suc i = omega arith in ap After e

pub alike_in : (n a b : ℕ) → n % 2 ≡ 1 → a ≡ b → alike (n % 2) a b ≡ true
alike_in n a b h e = rw h (eq-eqb a b e)

pub compared-done : (set : ℕ) (xs ys : List ℕ) (k : ℕ) → length xs ≤ k → length ys ≤ k → further k (compared set (drop k xs) (drop k ys)) ≡ Equal
unfolding compared
compared-done set xs ys k h l = rw (drop_of_length-le xs h, drop_of_length-le ys l)

-- one dimension more: where the codes are alike, and where one is lower
module _ (set : ℕ) (xs ys : List ℕ) (k : ℕ) (h : k < length xs) (l : k < length ys) where
  pub compared_skip : alike (set % 2) (get_or xs k 0) (get_or ys k 0) ≡ true
      → further (k + 1) (compared (set / 2) (drop (k + 1) xs) (drop (k + 1) ys)) ≡ further k (compared set (drop k xs) (drop k ys))
  unfolding compared
  compared_skip e =
      let p = compared (set / 2) (drop (suc k) xs) (drop (suc k) ys) in
      rw (add-one k, drop-cons xs k 0, drop-cons ys k 0) (further_next k p ∙ ap (further k) (sym (parts-alike (set % 2) (get_or xs k 0) (get_or ys k 0) (next p) e)))

  pub compared_less : set % 2 ≡ 1 → get_or xs k 0 < get_or ys k 0 → further k (compared set (drop k xs) (drop k ys)) ≡ Before (k + 1)
  unfolding compared
  compared_less e g = rw (drop-cons xs k 0, drop-cons ys k 0, e, lt-ltb (get_or xs k 0) (get_or ys k 0) g)

  pub compared-more : set % 2 ≡ 1 → get_or ys k 0 < get_or xs k 0 → further k (compared set (drop k xs) (drop k ys)) ≡ After (k + 1)
  unfolding compared
  compared-more e g = rw (drop-cons xs k 0, drop-cons ys k 0, e, le-ltb (get_or xs k 0) (get_or ys k 0) (omega arith), lt-ltb (get_or ys k 0) (get_or xs k 0) g)
