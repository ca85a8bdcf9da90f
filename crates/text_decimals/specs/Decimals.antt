-- Numbers as text: ASCII, the most significant digit first.
--
--   ascii t       a text as bytes
--   digit n       the character of a digit
--   decimal n     a number: no zero stands in front of it, and 0 is one digit
--   integer z     an integer: a minus sign in front where it is negative
use Rattle.std.specs.Prelude.{Bool, true, false, List, [], ◌∷◌, ◌++◌, ℕ, zero, suc, ◌+◌, ◌/◌, ◌%◌, ltb, ℤ, pos, negsuc}
use Prim.Native.Char.{code}
use Prim.Native.String.{String, [] as []ˢ, ◌∷◌ as ◌∷ˢ◌}

abbrev pub ascii : String → List ℕ
ascii []ˢ = []
ascii (c ∷ˢ t) = code c ∷ ascii t

abbrev pub digit : ℕ → ℕ
digit n = 48 + n

-- the digits of n in as many steps as are allowed, by whether it has just one
unfoldable pub digits_in : ℕ → Bool → ℕ → List ℕ
digits_in zero one n = digit n ∷ []
digits_in (suc steps) true n = digit n ∷ []
digits_in (suc steps) false n = digits_in steps (ltb (n / 10) 10) (n / 10) ++ digit (n % 10) ∷ []

-- n steps are enough for n
unfoldable pub decimal : ℕ → List ℕ
decimal n = digits_in n (ltb n 10) n

unfoldable pub integer : ℤ → List ℕ
integer (pos n) = decimal n
integer (negsuc n) = ascii "-" ++ decimal (suc n)
