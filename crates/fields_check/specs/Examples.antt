-- Worked examples of the definitions, by computation.
use Rattle.std.specs.Prelude.{◌≡◌, [], ◌∷◌, ◌++◌, negsuc, refl}
use Rattle.fields.specs.Words.{words, word_at, words_bytes}
use Rattle.fields_sums.specs.Twos.{sum_at, sum_bytes, reading_at, reading_bytes}
use Rattle.fields_check.specs.Check.{check_of}

-- the archive of a table of no rows, D 1 and size 1, has the check word 45435545 (hexadecimal): no base entry, and one normal entry, all ALL
empty_check : check_of ((0x43 ∷ 0x55 ∷ 0x42 ∷ 0x45 ∷ []) ++ words_bytes (1 ∷ 1 ∷ 0 ∷ 1 ∷ 65535 ∷ 0 ∷ 0 ∷ 0 ∷ [])) ≡ 0x45435545
unfolding check_of words words_bytes
empty_check = refl

-- minus five as a reading and as a sum
reading_five : reading_at (0xfb ∷ 0xff ∷ 0xff ∷ 0xff ∷ []) 0 ≡ negsuc 4
unfolding reading_at word_at
reading_five = refl

sum_five : sum_at (sum_bytes (negsuc 4)) 0 ≡ negsuc 4
unfolding sum_at word_at
sum_five = refl

-- the least reading, -2147483648, there and back
least_bytes : reading_bytes (negsuc 2147483647) ≡ 0 ∷ 0 ∷ 0 ∷ 0x80 ∷ []
least_bytes = refl

least_reading : reading_at (reading_bytes (negsuc 2147483647)) 0 ≡ negsuc 2147483647
unfolding reading_at word_at
least_reading = refl
