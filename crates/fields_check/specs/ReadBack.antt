-- What is written is read back: a theorem for each field.
use Rattle.std.specs.Prelude.{◌≡◌, ℕ, ◌+◌, ◌*◌, ◌/◌, ◌%◌, ◌^◌, ◌<◌, ◌≤◌, true, T, List, [], ◌∷◌, ◌++◌, length, drop, ℤ, nat_lt, refl}
use Rattle.std.proofs.Common.{sym, ap, ◌∙◌, add-zero, arith, ltb→lt, drop_at, drop-drop}
use Rattle.std.specs.Float.Ieee.Fits.{and_l, and_r}
use Rattle.std.specs.Int.Signed.{mag}
use Rattle.fields.specs.Words.{word_at, word_bytes, words, words_bytes, are_words}
use Rattle.fields.specs.WordsLaws.{word_back, word_at_drop}
use Rattle.fields_sums.specs.Twos.{signed_of, bits_of, sum_at, sum_bytes, reading_at, reading_bytes}
use Rattle.fields_sums.specs.TwosLaws.{signed_bits, bits_lt}
use Rattle.fields.specs.Opening.{starts_with}
use Rattle.fields.specs.OpeningLaws.{starts_append}
use Rattle.fields_check.specs.Check.{check_of, checked}
use Rattle.fields_check.specs.CheckLaws.{check_lt}
use Rattle.fields.specs.Written.{written, written_at}
use Rattle.fields.specs.WrittenLaws.{drop_written_at}

-- the word at a place where its bytes stand
here : (w at : ℕ) (s rest : List ℕ) → w < 2 ^ 32 → drop at s ≡ word_bytes w ++ rest → word_at s at ≡ w
unfolding word_at
here w at s rest h e = rw add-zero at (sym (word_at_drop s at 0) ∙ ap (λ (t : List ℕ). word_at t 0) e ∙ word_back w h)

pub word_read : (w at : ℕ) (l : List ℕ) → w < 2 ^ 32 → at ≤ length l → word_at (written_at at (word_bytes w) l) at ≡ w
unfolding written
word_read w at l k h = here w at (written_at at (word_bytes w) l) (drop 4 (drop at l)) k (drop_written_at at (word_bytes w) l h)

pub sum_read : (z : ℤ) (at : ℕ) (l : List ℕ) → mag z < 2 ^ 63 → at ≤ length l → sum_at (written_at at (sum_bytes z) l) at ≡ z
unfolding sum_at written
sum_read z at l k h =
    let s : List ℕ = written_at at (sum_bytes z) l in
    let n : ℕ = bits_of 64 z in
    let rest : List ℕ = drop 8 (drop at l) in
    let fits : n < 2 ^ 64 = bits_lt 63 z k in
    let there : drop at s ≡ sum_bytes z ++ rest = drop_written_at at (sum_bytes z) l h in
    let low : word_at s at ≡ n % 2 ^ 32 = here (n % 2 ^ 32) at s (word_bytes (n / 2 ^ 32) ++ rest) (omega arith) there in
    let high : word_at s (at + 4) ≡ n / 2 ^ 32
    = here (n / 2 ^ 32) (at + 4) s rest (omega arith) (sym (drop-drop 4 at s) ∙ ap (drop 4) there) in
    let all : word_at s at + 2 ^ 32 * word_at s (at + 4) ≡ n = omega arith in
    ap (signed_of 64) all ∙ signed_bits 63 z k

pub reading_read : (z : ℤ) (at : ℕ) (l : List ℕ) → mag z < 2 ^ 31 → at ≤ length l → reading_at (written_at at (reading_bytes z) l) at ≡ z
unfolding reading_at
reading_read z at l k h = ap (signed_of 32) (word_read (bits_of 32 z) at l (bits_lt 31 z k) h) ∙ signed_bits 31 z k

pub words_read : (ws : List ℕ) → T (are_words ws) → words (words_bytes ws) ≡ ws
unfolding words words_bytes
words_read [] t = refl
words_read (w ∷ ws) t =
    simp (word_back w (ltb→lt w (2 ^ 32) (and_l (nat_lt w (2 ^ 32)) (are_words ws) t)), words_read ws (and_r (nat_lt w (2 ^ 32)) (are_words ws) t))

pub opening_read : (o l : List ℕ) → starts_with (written o l) o ≡ true
unfolding written
opening_read o l = starts_append o (drop (length o) l)

pub check_read : (body : List ℕ) → word_at (checked body) (length body) ≡ check_of body
check_read body = here (check_of body) (length body) (checked body) [] (check_lt body) (drop_at body (word_bytes (check_of body)) (length body) refl)
