-- Limits of document 01 that both files have.
--
--   Sized zs       sizes of dimensions: 1 to 8 of them, each from 1 to 65,535
--   Below zs x     codes x are below the sizes zs, one each
--   Bytes s        every number of s is a byte
use Rattle.std.specs.Prelude.{List, [], ◌∷◌, ℕ, ◌≤◌, ◌<◌, length}
use Rattle.lists.specs.Lists.{◌∈◌}

pub record Sized (zs : List ℕ) : Type 0 where
  pub some : 1 ≤ length zs
  pub few : length zs ≤ 8
  pub each : (z : ℕ) → z ∈ zs → (1 ≤ z) × (z ≤ 65535)

abbrev pub Below : List ℕ → List ℕ → Type 0
Below [] [] = Unit {0}
Below [] (a ∷ x) = ⊥
Below (z ∷ zs) [] = ⊥
Below (z ∷ zs) (a ∷ x) = (a < z) × Below zs x

abbrev pub Bytes : List ℕ → Type 0
Bytes s = (b : ℕ) → b ∈ s → b < 256
