-- Words summed part by part: what a loop over the parts keeps, modulo 2 ^ 32.
use Rattle.std.proofs.Common.{◌≡◌, ℕ, ◌+◌, ◌*◌, ◌%◌, ◌^◌, ◌<◌, List, ◌++◌, length, ap, arith}
use Rattle.fields_check.specs.Check.{check_of}
use Rattle.fields_check.specs.CheckLaws.{check_lt}
use Rattle.fields_check.proofs.CheckLaws.{check_append, check_none}

-- the sum of the parts so far, and the check word of the rest, have the check word of all
pub record Summed (s : List ℕ) (sum : ℕ) (rest : List ℕ) : Type 0 where
  pub same : (sum + check_of rest) % 2 ^ 32 ≡ check_of s

pub summed-none : (s : List ℕ) → Summed s 0 s
summed-none s = record { same = omega (arith, check_lt s) }

-- a part of k words more
pub summed_on : {s rest next : List ℕ} {sum r : ℕ} (k : ℕ) (x : List ℕ) (w : ℕ) → Summed s sum rest → rest ≡ x ++ next → length x ≡ 4 * k
    → check_of x ≡ w % 2 ^ 32 → r % 2 ^ 32 ≡ (sum + w) % 2 ^ 32 → Summed s r next
summed_on {s} {rest} {next} k x w d e n f g = record { same = omega (arith, d.same, ap check_of e, check_append k x next n, f, g) }

pub summed-all : {s rest : List ℕ} {sum : ℕ} → Summed s sum rest → length rest < 4 → sum % 2 ^ 32 ≡ check_of s
summed-all {s} {rest} d h = omega (arith, d.same, check_none rest h)
