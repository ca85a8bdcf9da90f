-- What a caller in another language can tell from the one number that a call gives it.
--
--   Decodes number stop a   the number of the answer a is that of stop k just if the answer is stop k
use Rattle.std.specs.Prelude.{◌≡◌, ◌↔◌, ℕ}
use Rattle.call_answers.specs.Numbers.{stop_number}

abbrev pub Decodes : {A : Type 0} → (A → ℕ) → (ℕ → A) → A → Type 0
Decodes number stop a = (k : ℕ) → (number a ≡ stop_number k) ↔ (a ≡ stop k)
