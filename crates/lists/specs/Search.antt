-- The search by halving for a place at which a test turns.
--
--   Between p n low high   of n places, the test p turns at one from `low` to `high`: it passes straight before `low`, and fails at `high`
use Rattle.std.specs.Prelude.{◌≡◌, Bool, true, false, ℕ, suc, ◌≤◌, ◌<◌}

pub record Between (p : ℕ → Bool) (n low high : ℕ) : Type 0 where
  pub rise : low ≤ high
  pub within : high ≤ n
  pub passes : (j : ℕ) → suc j ≡ low → p j ≡ true
  pub fails : high < n → p high ≡ false
