-- Laws of numbers as text: one digit, one digit more, and how many digits there are at most.
use mathlib.Core.Path.{◌≡◌, refl, ap, ◌∙◌}
use mathlib.Core.List.{[], ◌∷◌, ◌++◌}
use Prim.Native.Nat.{ℕ, zero, suc, ◌+◌, ◌/◌, ◌%◌, ◌^◌, ◌≤◌, ◌<◌}
use native.Mathlib.Nat.{pow-suc}
use native.Mathlib.Omega.{arith}
use lib.ListN.{length, length-append}
use lib.IntN.{ℤ, pos, negsuc}
use lib.Dec.{ltb}
use lib.Signed.{mag}
use borrow.Author.Tests.{lt-ltb, le-ltb, ltb-true, ltb-false}
use Rattle.lists.proofs.Tests.{cases, truth}
use Rattle.text_decimals.specs.Decimals.{digit, digits_in, decimal, integer}

-- ---- the digits

pub decimal-one : (n : ℕ) → n < 10 → decimal n ≡ digit n ∷ []
unfolding decimal digits_in
decimal-one zero h = refl
decimal-one (suc n) h = rw (lt-ltb (suc n) 10 h)

-- more steps than a number needs change nothing
steps_same : (j k n : ℕ) → n ≤ j → n ≤ k → digits_in j (ltb n 10) n ≡ digits_in k (ltb n 10) n
unfolding digits_in
steps_same zero zero n p q = refl
steps_same zero (suc k) n p q = let h : n < 10 = omega arith in rw (lt-ltb n 10 h)
steps_same (suc j) zero n p q = let h : n < 10 = omega arith in rw (lt-ltb n 10 h)
steps_same (suc j) (suc k) n p q = cases (truth (ltb n 10))
    (λ e. rw e)
    (λ e. let h = ltb-false n 10 e in rw (e, steps_same j k (n / 10) (omega arith) (omega arith)))

pub decimal-more : (n : ℕ) → 10 ≤ n → decimal n ≡ decimal (n / 10) ++ digit (n % 10) ∷ []
unfolding decimal digits_in
decimal-more zero h = absurd (omega arith)
decimal-more (suc n) h = rw (le-ltb (suc n) 10 h, steps_same n (suc n / 10) (suc n / 10) (omega arith) (omega arith))

-- ---- how many there are

pub length_more : (n : ℕ) → 10 ≤ n → length (decimal n) ≡ length (decimal (n / 10)) + 1
length_more n h = ap length (decimal-more n h) ∙ length-append (decimal (n / 10)) (digit (n % 10) ∷ [])

pub length-decimal : (k n : ℕ) → 1 ≤ k → n < 10 ^ k → length (decimal n) ≤ k
length-decimal zero n p h = omega arith
length-decimal (suc zero) n p h = rw (decimal-one n h) (omega arith)
length-decimal (suc (suc j)) n p h = cases (truth (ltb n 10))
    (λ e. rw (decimal-one n (ltb-true n 10 e)) (omega arith))
    (λ e. rw (length_more n (ltb-false n 10 e)) (omega (arith, length-decimal (suc j) (n / 10) (omega arith) (omega (arith, pow-suc 10 (suc j))))))

-- a number of 32 bits
pub word_digits : (n : ℕ) → n < 2 ^ 32 → length (decimal n) ≤ 10
word_digits n h = length-decimal 10 n (omega arith) (omega arith)

-- an integer of 64 bits, its sign counted
pub integer_digits : (z : ℤ) → mag z < 2 ^ 63 → length (integer z) ≤ 20
unfolding integer
integer_digits (pos n) h = omega (arith, length-decimal 19 n (omega arith) (omega arith))
integer_digits (negsuc n) h = omega (arith, length-decimal 19 (suc n) (omega arith) (omega arith))
