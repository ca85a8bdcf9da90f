-- Laws of words, for readers and writers.
use Rattle.std.specs.Prelude.{◌≡◌, refl, List, [], ◌∷◌, ◌++◌, ℕ, zero, suc, ◌+◌, ◌-◌, ◌*◌, ◌/◌, ◌%◌, ◌^◌, ◌≤◌, ◌<◌, length, take, drop, get_or, set}
use Rattle.std.proofs.Common.{sym, ap, ◌∙◌, append_assoc, append-nil, add-zero, add_assoc, mul-zero, add-one, arith, length-take, length-drop, drop-cons, drop-drop, drop_at, get_or-drop, take_at, take-suc, take-suc-set, take_all}
use Rattle.std.proofs.Math.Seq.{append_snoc}
use Rattle.fields.specs.Words.{word, word_at, words_at, word_bytes, words, words_bytes}

-- ---- words of bytes

-- a word is the word of its bytes
pub word_back : (w : ℕ) → w < 2 ^ 32 → word (w % 256) (w / 256 % 256) (w / 256 / 256 % 256) (w / 256 / 256 / 256 % 256) ≡ w
word_back w h = omega arith

-- a word of what follows a place
pub word_at_drop : (s : List ℕ) (at k : ℕ) → word_at (drop at s) k ≡ word_at s (at + k)
unfolding word_at
word_at_drop s at k = simp (get_or-drop, add_assoc)

words_front : (s : List ℕ) → 4 ≤ length s → words s ≡ word_at s 0 ∷ words (drop 4 s)
unfolding words word_at
words_front [] h = absurd (omega arith)
words_front (a ∷ []) h = absurd (omega arith)
words_front (a ∷ b ∷ []) h = absurd (omega arith)
words_front (a ∷ b ∷ c ∷ []) h = absurd (omega arith)
words_front (a ∷ b ∷ c ∷ d ∷ rest) h = refl

-- the words from a place on: the word there, and those that follow it
pub words_cons : (s : List ℕ) (at : ℕ) → at + 4 ≤ length s → words (drop at s) ≡ word_at s at ∷ words (drop (at + 4) s)
words_cons s at h = words_front (drop at s) (simp length-drop (omega arith)) ∙ simp (word_at_drop, drop-drop, add-zero)

-- fewer than four bytes have no word
pub words_none : (s : List ℕ) → length s < 4 → words s ≡ []
unfolding words
words_none [] h = refl
words_none (a ∷ []) h = refl
words_none (a ∷ b ∷ []) h = refl
words_none (a ∷ b ∷ c ∷ []) h = refl
words_none (a ∷ b ∷ c ∷ d ∷ rest) h = absurd (omega arith)

four : (k : ℕ) → 4 * suc k ≡ suc (suc (suc (suc (4 * k))))
four k = omega arith

-- bytes cut in two at any multiple of four, also past their end
pub words_cut : (k : ℕ) (s : List ℕ) → words s ≡ words (take (4 * k) s) ++ words (drop (4 * k) s)
unfolding words
words_cut zero s = refl
words_cut (suc k) [] = rw (four k)
words_cut (suc k) (a ∷ []) = rw (four k)
words_cut (suc k) (a ∷ b ∷ []) = rw (four k)
words_cut (suc k) (a ∷ b ∷ c ∷ []) = rw (four k)
words_cut (suc k) (a ∷ b ∷ c ∷ d ∷ rest) = rw (four k) (ap (λ (l : List ℕ). word a b c d ∷ l) (words_cut k rest))

-- bytes that end with a word, and others behind them
pub words_append : (n : ℕ) (a b : List ℕ) → length a ≡ 4 * n → words (a ++ b) ≡ words a ++ words b
words_append n a b e = words_cut n (a ++ b) ∙ rw (take_at a b (4 * n) e, drop_at a b (4 * n) e)

-- ---- bytes of words

pub length_words_bytes : (ws : List ℕ) → length (words_bytes ws) ≡ 4 * length ws
unfolding words_bytes
length_words_bytes [] = refl
length_words_bytes (w ∷ ws) = omega (arith, length_words_bytes ws)

pub words_bytes_append : (us vs : List ℕ) → words_bytes (us ++ vs) ≡ words_bytes us ++ words_bytes vs
unfolding words_bytes
words_bytes_append [] vs = refl
words_bytes_append (u ∷ us) vs = simp (words_bytes_append us vs, append_assoc)

-- one more word at the end
pub words_bytes_snoc : (ws : List ℕ) (i : ℕ) → i < length ws → words_bytes (take (i + 1) ws) ≡ words_bytes (take i ws) ++ word_bytes (get_or ws i 0)
unfolding words_bytes
words_bytes_snoc ws i h = simp (add-one, take-suc ws i 0 h, words_bytes_append)

-- the words from word i on: it, and those behind it
pub words_bytes_on : (ws : List ℕ) (i : ℕ) → i < length ws → words_bytes (drop i ws) ≡ word_bytes (get_or ws i 0) ++ words_bytes (drop (i + 1) ws)
unfolding words_bytes
words_bytes_on ws i h = rw (add-one, drop-cons ws i 0 h)

-- there is room for word i where there is room for all
pub words_bytes_room : (ws : List ℕ) (i : ℕ) → i < length ws → length (words_bytes (take i ws)) + 4 ≤ length (words_bytes ws)
words_bytes_room ws i h = simp (length_words_bytes, length-take) (omega arith)

-- ---- the words from a place on

pub length_words_at : (s : List ℕ) (n at : ℕ) → length (words_at s n at) ≡ n
unfolding words_at
length_words_at s zero at = refl
length_words_at s (suc n) at = ap suc (length_words_at s n (at + 4))

pub get_d_words_at : (s : List ℕ) (n at i : ℕ) → i < n → get_or (words_at s n at) i 0 ≡ word_at s (at + 4 * i)
unfolding words_at
get_d_words_at s zero at i h = absurd (omega arith)
get_d_words_at s (suc n) at zero h = rw (mul-zero, add-zero)
get_d_words_at s (suc n) at (suc i) h =
    let e : at + 4 + 4 * i ≡ at + 4 * suc i = omega arith in get_d_words_at s n (at + 4) i (omega arith) ∙ ap (word_at s) e

-- what is left of n words after i of them, and one word of it
pub words_at_on : (s : List ℕ) (at : ℕ) {i n : ℕ} → i < n
    → words_at s (n - i) (at + 4 * i) ≡ word_at s (at + 4 * i) ∷ words_at s (n - (i + 1)) (at + 4 * (i + 1))
unfolding words_at
words_at_on s at {i} {n} h =
    let d : n - i ≡ suc (n - (i + 1)) = omega arith in
    let f : at + 4 * i + 4 ≡ at + 4 * (i + 1) = omega arith in
    rw (d, f)

pub words_at_done : (s : List ℕ) (at : ℕ) {i n : ℕ} → n ≤ i → words_at s (n - i) (at + 4 * i) ≡ []
unfolding words_at
words_at_done s at {i} {n} h = let d : n - i ≡ 0 = omega arith in rw d

-- the words read so far, and those still to read, where one more is stored, and where none is left
module _ (s out : List ℕ) (at i n : ℕ) where
  pub words_on : {w : ℕ} → i < n → i < length out → w ≡ word_at s (at + 4 * i)
      → take i out ++ words_at s (n - i) (at + 4 * i) ≡ take (i + 1) (set out i w) ++ words_at s (n - (i + 1)) (at + 4 * (i + 1))
  words_on {w} h k e = rw (words_at_on s at h, ← e, add-one i, take-suc-set out i w) (sym (append_snoc (take i out) w _))

  pub words_done : n ≤ i → length out ≤ i → take i out ++ words_at s (n - i) (at + 4 * i) ≡ out
  words_done h k = rw (words_at_done s at h, take_all i out, append-nil)
