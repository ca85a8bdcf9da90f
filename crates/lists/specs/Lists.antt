-- Lists of anything.
--
--   a ∈ l           a is a member of l
--   every p l       all members pass the test p
--   some p l        a member passes the test p
--   only b x l      x in front of l where the test b passed, l otherwise
--   keep p l        the members that pass the test p, in their order
--   Pairwise R l    each member is in the relation R to every later one
--   Distinct l      no member occurs twice
--   below n         the numbers below n, falling
--   joined ls       the lists ls, one behind the other
--   sum l           the total of numbers
use Rattle.std.specs.Prelude.{◌≢◌, Bool, true, false, ◌&&◌, ◌||◌, ℕ, zero, suc, ◌+◌}
use mathlib.Core.List.{List, [], ◌∷◌, flat_map, Memᴰ}

infix 50 ◌∈◌
abbrev pub ◌∈◌ : {A : Type 0} → A → List A → Type 0
a ∈ l = Memᴰ a l

module _ {A : Type 0} where
  abbrev pub every : (A → Bool) → List A → Bool
  every p [] = true
  every p (x ∷ l) = p x && every p l

  abbrev pub some : (A → Bool) → List A → Bool
  some p [] = false
  some p (x ∷ l) = p x || some p l

  abbrev pub only : Bool → A → List A → List A
  only true x l = x ∷ l
  only false x l = l

  abbrev pub keep : (A → Bool) → List A → List A
  keep p [] = []
  keep p (x ∷ l) = only (p x) x (keep p l)

  abbrev pub Pairwise : (A → A → Type 0) → List A → Type 0
  Pairwise R [] = Unit {0}
  Pairwise R (x ∷ l) = ((y : A) → y ∈ l → R x y) × Pairwise R l

  abbrev pub Distinct : List A → Type 0
  Distinct = Pairwise (λ x y. x ≢ y)

abbrev pub below : ℕ → List ℕ
below zero = []
below (suc n) = n ∷ below n

abbrev pub joined : {A : Type 0} → List (List A) → List A
joined ls = flat_map (λ l. l) ls

abbrev pub sum : List ℕ → ℕ
sum [] = 0
sum (n ∷ l) = n + sum l
