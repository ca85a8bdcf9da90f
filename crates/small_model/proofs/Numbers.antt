-- Numbers by their bits, and the numbers below a bound.
use mathlib.Core.Path.{◌≡◌, refl, sym, ◌∙◌, ap}
use mathlib.Core.Logic.{◌≢◌}
use mathlib.Core.Bool.{Bool, true, false}
use mathlib.Core.List.Memᴰ
use Prim.Native.Nat.{ℕ, zero, suc, ◌+◌, ◌*◌, ◌/◌, ◌%◌, ◌^◌, ◌≤◌, ◌<◌}
use native.Mathlib.Omega.{arith}
use lib.Dec.{eqb}
use lib.ListN.{length}
use borrow.Author.Tests.{eqb-true, eqb-false}
use Rattle.lists.specs.Lists.{◌∈◌, Pairwise}
use Rattle.lists.proofs.Tests.{cases, truth}
use Rattle.small_model.specs.Small.{from, up_to, bit_of}

-- ---- the numbers below a bound

pub from_in : (k n : ℕ) {j : ℕ} → j ∈ from k n → (k ≤ j) × (j < k + n)
from_in k zero m = absurd (Memᴰ.not-nil m)
from_in k (suc n) (Memᴰ.head e) = (omega (arith, e), omega (arith, e))
from_in k (suc n) (Memᴰ.tail m) = let r = from_in (suc k) n m in (omega (arith, r.0), omega (arith, r.1))

pub from_of : (k n j : ℕ) → k ≤ j → j < k + n → j ∈ from k n
from_of k zero j g h = absurd (omega arith)
from_of k (suc n) j g h = cases (truth (eqb j k))
    (λ e. Memᴰ.head (eqb-true j k e))
    (λ e. let f : j ≢ k = eqb-false j k e in Memᴰ.tail (from_of (suc k) n j (omega (arith, f, g)) (omega (arith, h))))

pub from-rising : (k n : ℕ) → Pairwise ◌<◌ (from k n)
from-rising k zero = tt
from-rising k (suc n) = (λ j m. omega (arith, (from_in (suc k) n m).0), from-rising (suc k) n)

pub from-length : (k n : ℕ) → length (from k n) ≡ n
from-length k zero = refl
from-length k (suc n) = ap suc (from-length (suc k) n)

pub up_to_in : {n j : ℕ} → j ∈ up_to n → j < n
up_to_in {n} m = omega (arith, (from_in 0 n m).1)

pub up_to_of : {n j : ℕ} → j < n → j ∈ up_to n
up_to_of {n} {j} h = from_of 0 n j (omega arith) (omega (arith, h))

-- ---- bits

odd_same : (a b : ℕ) → a < 2 → b < 2 → eqb a 1 ≡ eqb b 1 → a ≡ b
odd_same a b h k e = cases (truth (eqb a 1))
    (λ f. eqb-true a 1 f ∙ sym (eqb-true b 1 (sym e ∙ f)))
    (λ f. let p : a ≢ 1 = eqb-false a 1 f in let q : b ≢ 1 = eqb-false b 1 (sym e ∙ f) in omega (arith, p, q, h, k))

-- a number is known by its bits
pub bits_same : (n t u : ℕ) → t < 2 ^ n → u < 2 ^ n → ((j : ℕ) → j < n → bit_of t j ≡ bit_of u j) → t ≡ u
bits_same zero t u h k f = omega (arith, h, k)
bits_same (suc n) t u h k f =
    let low : t % 2 ≡ u % 2 = odd_same (t % 2) (u % 2) (omega arith) (omega arith) (f 0 (omega arith)) in
    let high : t / 2 ≡ u / 2 = bits_same n (t / 2) (u / 2) (omega (arith, h)) (omega (arith, k)) (λ j l. f (suc j) (omega (arith, l))) in
    omega (arith, low, high)

-- and there is one for any bits
abbrev bit : Bool → ℕ
bit true = 1
bit false = 0

abbrev pub number_of : (ℕ → Bool) → ℕ → ℕ
number_of p zero = 0
number_of p (suc n) = bit (p 0) + 2 * number_of (λ j. p (suc j)) n

bit-low : (b : Bool) → bit b < 2
bit-low true = omega arith
bit-low false = omega arith

bit_odd : (b : Bool) → eqb (bit b) 1 ≡ b
bit_odd true = refl
bit_odd false = refl

pub number-low : (p : ℕ → Bool) (n : ℕ) → number_of p n < 2 ^ n
number-low p zero = omega arith
number-low p (suc n) = omega (arith, number-low (λ j. p (suc j)) n, bit-low (p 0))

pub number_bit : (p : ℕ → Bool) (n j : ℕ) → j < n → bit_of (number_of p n) j ≡ p j
number_bit p zero j h = absurd (omega arith)
number_bit p (suc n) zero h =
    let e : number_of p (suc n) % 2 ≡ bit (p 0) = omega (arith, bit-low (p 0)) in
    ap (λ (k : ℕ). eqb k 1) e ∙ bit_odd (p 0)
number_bit p (suc n) (suc j) h =
    let e : number_of p (suc n) / 2 ≡ number_of (λ j. p (suc j)) n = omega (arith, bit-low (p 0)) in
    ap (λ (k : ℕ). bit_of k j) e ∙ number_bit (λ j. p (suc j)) n j (omega (arith, h))
