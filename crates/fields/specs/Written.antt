-- Writing over the front of a lent list, for elements of any type.
--
--   written xs l        l with xs written over its front
--   written_at at xs l   l with xs written over it from the place at on
--   Wrote xs l m n      what every writer promises: it wrote xs over the front of l, which now is m, and n is how many it wrote
use Rattle.std.specs.Prelude.{◌≡◌, List, ◌++◌, ℕ, length, take, drop}

module _ {A : Type 0} where
  unfoldable pub written : List A → List A → List A
  written xs l = xs ++ drop (length xs) l

  unfoldable pub written_at : ℕ → List A → List A → List A
  written_at at xs l = take at l ++ written xs (drop at l)

  pub record Wrote (xs l m : List A) (n : ℕ) : Type 0 where
    pub count : n ≡ length xs
    pub same : length m ≡ length l
    pub list : m ≡ written xs l
