-- The order of lists of numbers, first number foremost, and lists that rise strictly by an order.
--
--   earlier x y     x comes before y: the first place at which they differ decides, and a list before its extensions
--   same x y        x and y are the same list
--   Strict less     what is asked of a strict total order
--   Rising less l   each member of l comes before every later one
--   place           one step of insert, by two tests
--   insert less x l x put into a rising list, which stays as it is where it has x
--   sort less l     the members of l, each once, in order
use Rattle.std.specs.Prelude.{◌≡◌, ◌≢◌, Bool, true, false, ◌&&◌, ◌||◌, List, [], ◌∷◌, ℕ, eqb, ltb}
use Rattle.lists.specs.Lists.{Pairwise}

abbrev pub earlier : List ℕ → List ℕ → Bool
earlier [] [] = false
earlier [] (b ∷ y) = true
earlier (a ∷ x) [] = false
earlier (a ∷ x) (b ∷ y) = ltb a b || (eqb a b && earlier x y)

abbrev pub same : List ℕ → List ℕ → Bool
same [] [] = true
same [] (b ∷ y) = false
same (a ∷ x) [] = false
same (a ∷ x) (b ∷ y) = eqb a b && same x y

pub record Strict {A : Type 0} (less : A → A → Bool) : Type 0 where
  pub trans : (x y z : A) → less x y ≡ true → less y z ≡ true → less x z ≡ true
  pub total : (x y : A) → less x y ≡ false → less y x ≡ false → x ≡ y
  pub irrefl : (x : A) → less x x ≢ true

module _ {A : Type 0} where
  -- x or y in front of the rest, by whether x comes before y and y before x; of two equal ones just one
  abbrev pub place : Bool → Bool → A → A → List A → List A → List A
  place true b x y l rest = x ∷ y ∷ l
  place false true x y l rest = y ∷ rest
  place false false x y l rest = y ∷ l

module _ {A : Type 0} (less : A → A → Bool) where
  abbrev pub Rising : List A → Type 0
  Rising = Pairwise (λ x y. less x y ≡ true)

  abbrev pub insert : A → List A → List A
  insert x [] = x ∷ []
  insert x (y ∷ l) = place (less x y) (less y x) x y l (insert x l)

  abbrev pub sort : List A → List A
  sort [] = []
  sort (x ∷ l) = insert x (sort l)
