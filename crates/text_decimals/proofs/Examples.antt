-- Worked examples of numbers as text, by computation.
use mathlib.Core.Path.{◌≡◌, refl}
use mathlib.Core.List.{[], ◌∷◌, map}
use lib.IntN.{pos, negsuc}
use Rattle.text_decimals.specs.Decimals.{ascii, digits_in, decimal, integer}

decimals : map decimal (0 ∷ 7 ∷ 10 ∷ 1048576 ∷ 4294967295 ∷ []) ≡ map ascii ("0" ∷ "7" ∷ "10" ∷ "1048576" ∷ "4294967295" ∷ [])
unfolding decimal digits_in
decimals = refl

-- the greatest and the least integer of 64 bits too
integers : map integer (pos 0 ∷ negsuc 0 ∷ negsuc 4 ∷ pos 9223372036854775807 ∷ negsuc 9223372036854775807 ∷ [])
    ≡ map ascii ("0" ∷ "-1" ∷ "-5" ∷ "9223372036854775807" ∷ "-9223372036854775808" ∷ [])
unfolding integer decimal digits_in
integers = refl
