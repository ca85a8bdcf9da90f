-- Laws of the check word of words and of bytes in parts.
use Rattle.std.proofs.Common.{◌≡◌, ℕ, ◌+◌, ◌*◌, ◌/◌, ◌%◌, ◌^◌, ◌<◌, List, [], ◌∷◌, ◌++◌, length, take, drop, ap, ◌∙◌, arith, length-drop}
use Rattle.fields.specs.Words.{words, word_at}
use Rattle.fields.specs.WordsLaws.{words_cons, words_none, words_cut, words_append}
use Rattle.fields_check.specs.Check.{words_sum, check_sum, check_of}

pub sum-append : (u v : List ℕ) → words_sum (u ++ v) ≡ words_sum u + words_sum v
sum-append [] v = omega arith
sum-append (w ∷ u) v = omega (arith, sum-append u v)

-- words cut in two between any of them
pub check_sum_append : (u v : List ℕ) → check_sum (u ++ v) ≡ (check_sum u + check_sum v) % 2 ^ 32
check_sum_append u v = omega (arith, sum-append u v)

-- bytes cut in two at any multiple of four
pub check_cut : (k : ℕ) (s : List ℕ) → check_of s ≡ (check_of (take (4 * k) s) + check_of (drop (4 * k) s)) % 2 ^ 32
unfolding check_of
check_cut k s = ap check_sum (words_cut k s) ∙ check_sum_append (words (take (4 * k) s)) (words (drop (4 * k) s))

pub check_append : (k : ℕ) (a b : List ℕ) → length a ≡ 4 * k → check_of (a ++ b) ≡ (check_of a + check_of b) % 2 ^ 32
unfolding check_of
check_append k a b e = ap check_sum (words_append k a b e) ∙ check_sum_append (words a) (words b)

pub check_split : {s : List ℕ} (front behind : List ℕ) → s ≡ front ++ behind → length front % 4 ≡ 0 → check_of s ≡ (check_of front + check_of behind) % 2 ^ 32
check_split {s} front behind e h = ap check_of e ∙ check_append (length front / 4) front behind (omega arith)

-- bytes that are no word, and one word
pub check_none : (x : List ℕ) → length x < 4 → check_of x ≡ 0
unfolding check_of
check_none x h = ap check_sum (words_none x h)

pub check_one : (x : List ℕ) → length x ≡ 4 → check_of x ≡ word_at x 0 % 2 ^ 32
unfolding check_of
check_one x e =
    omega (arith, ap words_sum (words_cons x 0 (omega arith)), ap words_sum (words_none (drop 4 x) (simp length-drop (omega arith))))
