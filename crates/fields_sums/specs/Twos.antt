-- Integers in two's complement: sums of 64 bits, and readings of 32. An integer z fits k + 1 bits where `mag z < 2 ^ k`: `mag` takes n to n, and -(n + 1) to n.
--
--   signed_of k n     the integer that k bits stand for
--   bits_of k z       the k bits of an integer
--   sum_of low high   the sum of two words, the low one and the high one
--   low_of z, high_of z  the two words of a sum
--   sum_at s at       the sum at byte offset at of s: two words, the low one first
--   sum_bytes z       the eight bytes of a sum
--   reading_at s at   the reading at byte offset at of s: one word
--   reading_bytes z   the four bytes of a reading
use Rattle.std.specs.Prelude.{cond, List, ◌++◌, ℕ, suc, ◌+◌, ◌-◌, ◌*◌, ◌/◌, ◌%◌, ◌^◌, ltb, ℤ, pos, negsuc}
use Rattle.fields.specs.Words.{word_at, word_bytes}

abbrev pub signed_of : ℕ → ℕ → ℤ
signed_of k n = cond (ltb n (2 ^ (k - 1))) (pos n) (negsuc (2 ^ k - suc n))

abbrev pub bits_of : ℕ → ℤ → ℕ
bits_of k (pos n) = n
bits_of k (negsuc n) = 2 ^ k - suc n

abbrev pub sum_of : ℕ → ℕ → ℤ
sum_of low high = signed_of 64 (low + 2 ^ 32 * high)

abbrev pub low_of : ℤ → ℕ
low_of z = bits_of 64 z % 2 ^ 32

abbrev pub high_of : ℤ → ℕ
high_of z = bits_of 64 z / 2 ^ 32

unfoldable pub sum_at : List ℕ → ℕ → ℤ
sum_at s at = sum_of (word_at s at) (word_at s (at + 4))

abbrev pub sum_bytes : ℤ → List ℕ
sum_bytes z = word_bytes (low_of z) ++ word_bytes (high_of z)

unfoldable pub reading_at : List ℕ → ℕ → ℤ
reading_at s at = signed_of 32 (word_at s at)

abbrev pub reading_bytes : ℤ → List ℕ
reading_bytes z = word_bytes (bits_of 32 z)
