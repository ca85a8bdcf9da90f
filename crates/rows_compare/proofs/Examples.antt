-- Rows of source document 004 compared under each set of three dimensions, by computation.
use mathlib.Core.Path.{◌≡◌, refl, sym, ◌∙◌}
use mathlib.Core.Bool.{true, false, false≢true}
use mathlib.Core.List.{List, [], ◌∷◌, map}
use Prim.Native.Nat.{ℕ, zero, suc, ◌≤◌}
use native.Mathlib.Omega.{arith}
use Rattle.rows_compare.specs.declared.Order.{Order}
use Rattle.rows_compare.specs.declared.Order.TheVariants.{Before, Equal, After}
use Rattle.rows_compare.specs.Compare.{compared, has, added, Longer}

abbrev under_each : List ℕ → List ℕ → List Order
under_each x y = map (λ s. compared s x y) (0 ∷ 1 ∷ 2 ∷ 3 ∷ 4 ∷ 5 ∷ 6 ∷ 7 ∷ [])

last-before : under_each (4 ∷ 5 ∷ 1 ∷ []) (6 ∷ 5 ∷ 2 ∷ []) ≡ Equal ∷ Before 1 ∷ Equal ∷ Before 1 ∷ Before 3 ∷ Before 1 ∷ Before 3 ∷ Before 1 ∷ []
unfolding compared
last-before = refl

third_after : under_each (2 ∷ 3 ∷ 1 ∷ []) (1 ∷ 1 ∷ 1 ∷ []) ≡ Equal ∷ After 1 ∷ After 2 ∷ After 1 ∷ Equal ∷ After 1 ∷ After 2 ∷ After 1 ∷ []
unfolding compared
third_after = refl

-- an earlier dimension decides against a later one
parted-first : under_each (0 ∷ 2 ∷ 1 ∷ []) (0 ∷ 1 ∷ 2 ∷ []) ≡ Equal ∷ Equal ∷ After 2 ∷ After 2 ∷ Before 3 ∷ Before 3 ∷ After 2 ∷ After 2 ∷ []
unfolding compared
parted-first = refl

-- of all three dimensions, those that the first and third are without
second-added : map (has (added 7 5)) (0 ∷ 1 ∷ 2 ∷ 3 ∷ 4 ∷ []) ≡ false ∷ false ∷ true ∷ false ∷ false ∷ []
second-added = refl

-- the second and third dimension come after the first
has-none : (i : ℕ) → has 0 i ≡ false
has-none zero = refl
has-none (suc zero) = refl
has-none (suc (suc i)) = has-none (suc i)

first_longer : Longer 3 1 7
first_longer = record { below = omega arith; held = refl; later = λ i j h k. omega (arith, only-first i h, not_first j k) }
  where
    only-first : (i : ℕ) → has 1 i ≡ true → i ≡ 1
    only-first zero h = absurd (false≢true h)
    only-first (suc zero) h = refl
    only-first (suc (suc i)) h = absurd (false≢true (sym (has-none (suc i)) ∙ h))

    not_first : (j : ℕ) → has 6 j ≡ true → 2 ≤ j
    not_first zero h = absurd (false≢true h)
    not_first (suc zero) h = absurd (false≢true h)
    not_first (suc (suc j)) h = omega arith
