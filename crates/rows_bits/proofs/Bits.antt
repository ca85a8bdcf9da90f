-- Sets of rows, bit by bit: one row more, the rows of two sets, no row.
use mathlib.Core.Path.{◌≡◌, refl, sym, ap, ap₂, ◌∙◌}
use mathlib.Core.Logic.{◌≢◌}
use mathlib.Core.Bool.{Bool, true, false, ◌&&◌, ◌||◌}
use Rattle.std.proofs.Math.Bool.{and-true, and_assoc}
use mathlib.Core.List.{List, [], ◌∷◌}
use Prim.Native.Nat.{ℕ, zero, suc, ◌+◌, ◌*◌, ◌/◌, ◌%◌, ◌^◌, ◌≤◌, ◌<◌, max}
use native.Mathlib.Nat.{pow-suc, div-eq_of_lt, zero-div, one-mul}
use native.Mathlib.Omega.{arith}
use Rattle.std.proofs.lemmas.Nat.{or_comm}
use lib.Bits.{bit_or, or_shr, or_step, or_add_and, and_le_r}
use lib.Dec.{eqb, ltb, eqb-suc-suc}
use lib.ListN.{length, get_or, set, length-set, get_or-eq_default}
use lib.Pow.{pow_pos, shl_exact, shr-shr}
use lib.Seq.{get_or-set_same, get_or-set_other}
use borrow.Author.Tests.{eq-eqb, ne_eqb, eqb-true, eqb-false, ltb-true, ltb-false}
use Rattle.std.specs.List.{fold}
use Rattle.lists.specs.Lists.{every}
use Rattle.lists.proofs.Tests.{cases, truth, both}
use Rattle.rows_bits.specs.Rowsets.{has, empty}

-- bit i of a word
abbrev bit : ℕ → ℕ → Bool
bit w i = eqb (w / 2 ^ i % 2) 1

-- ---- the bits of two words

max_one : (a b : ℕ) → a < 2 → b < 2 → eqb (max a b) 1 ≡ eqb a 1 || eqb b 1
max_one zero b h k = let e : max 0 b ≡ b = omega arith in ap (λ (z : ℕ). eqb z 1) e
max_one (suc a) b h k = eq-eqb (max (suc a) b) 1 (omega (arith, h, k)) ∙ sym (ap (λ (t : Bool). t || eqb b 1) (eq-eqb (suc a) 1 (omega (arith, h))))

bit-or : (v w i : ℕ) → bit (bit_or v w) i ≡ bit v i || bit w i
bit-or v w i =
    let a = v / 2 ^ i in
    let b = w / 2 ^ i in
    let last : bit_or a b % 2 ≡ max (a % 2) (b % 2) = omega (arith, or_step a b) in
    ap (λ (z : ℕ). eqb (z % 2) 1) (or_shr v w i) ∙ ap (λ (z : ℕ). eqb z 1) last ∙ max_one (a % 2) (b % 2) (omega arith) (omega arith)

-- ---- a word of one bit

bit_power : (k i : ℕ) → bit (2 ^ k) i ≡ eqb k i
bit_power zero zero = refl
bit_power zero (suc i) = ap (λ (z : ℕ). eqb (z % 2) 1) (div-eq_of_lt {n = 2 ^ 0} {m = 2 ^ suc i} (omega (arith, pow-suc 2 i, pow_pos i))) ∙ sym (ne_eqb 0 (suc i) (λ e. omega (arith, e)))
bit_power (suc k) zero = ne_eqb (2 ^ suc k / 2 ^ 0 % 2) 1 (λ e. omega (arith, e, pow-suc 2 k)) ∙ sym (ne_eqb (suc k) 0 (λ e. omega (arith, e)))
bit_power (suc k) (suc i) =
    let half : 2 ^ suc k / 2 ≡ 2 ^ k = omega (arith, pow-suc 2 k) in
    ap (λ (z : ℕ). eqb (z % 2) 1) (ap (λ (z : ℕ). 2 ^ suc k / 2 ^ z) (omega arith) ∙ sym (shr-shr (2 ^ suc k) 1 i) ∙ ap (λ (z : ℕ). z / 2 ^ i) half)
    ∙ bit_power k i ∙ sym (eqb-suc-suc k i)

-- ---- sets of rows

has_word : (words : List ℕ) (x : ℕ) {w : ℕ} → get_or words (x / 32) 0 ≡ w → has words x ≡ bit w (x % 32)
unfolding has
has_word words x e = ap (λ (w : ℕ). bit w (x % 32)) e

pub has-none : (words : List ℕ) → ((i : ℕ) → get_or words i 0 ≡ 0) → (x : ℕ) → has words x ≡ false
has-none words h x = has_word words x (h (x / 32)) ∙ rw (zero-div (2 ^ (x % 32)))

module _ (words : List ℕ) (row : ℕ) (size : length words ≡ 32) (h : row < 1024) where
  abbrev word : ℕ
  word = bit_or (get_or words (row / 32) 0) (1 * 2 ^ (row % 32) % 2 ^ 32)

  one : 1 * 2 ^ (row % 32) % 2 ^ 32 ≡ 2 ^ (row % 32)
  one = shl_exact {a = 1} 1 (row % 32) 32 (omega arith) (omega arith) ∙ one-mul (2 ^ (row % 32))

  -- in the word of the row that bit is its own
  same_word : (x : ℕ) → x / 32 ≡ row / 32 → bit (1 * 2 ^ (row % 32) % 2 ^ 32) (x % 32) ≡ eqb row x
  same_word x e = ap (λ (w : ℕ). bit w (x % 32)) one ∙ bit_power (row % 32) (x % 32) ∙ cases (truth (eqb row x))
      (λ t. eq-eqb (row % 32) (x % 32) (omega (arith, eqb-true row x t)) ∙ sym t)
      (λ t. ne_eqb (row % 32) (x % 32) (λ q. eqb-false row x t (omega (arith, e, q))) ∙ sym t)

  pub has_more : (x : ℕ) → has (set words (row / 32) word) x ≡ eqb row x || has words x
  has_more x = cases (truth (eqb (x / 32) (row / 32)))
      (λ t. let e = eqb-true (x / 32) (row / 32) t in
      has_word (set words (row / 32) word) x (ap (λ (i : ℕ). get_or (set words (row / 32) word) i 0) e ∙ get_or-set_same words (row / 32) word 0 (omega (arith, size, h)))
      ∙ ap (λ (w : ℕ). bit w (x % 32)) (or_comm (get_or words (row / 32) 0) (1 * 2 ^ (row % 32) % 2 ^ 32))
      ∙ bit-or (1 * 2 ^ (row % 32) % 2 ^ 32) (get_or words (row / 32) 0) (x % 32)
      ∙ ap₂ ◌||◌ (same_word x e) (sym (has_word words x (ap (λ (i : ℕ). get_or words i 0) e))))
      (λ t. let n = eqb-false (x / 32) (row / 32) t in
      has_word (set words (row / 32) word) x (get_or-set_other words (row / 32) (x / 32) word 0 n)
      ∙ sym (ap₂ ◌||◌ (ne_eqb row x (λ e. n (ap (λ (z : ℕ). z / 32) (sym e)))) (has_word words x refl)))

-- ---- the words of two sets joined: those before place i are, the others are as they were

pub record Joining (words others l : List ℕ) (i : ℕ) : Type 0 where
  pub below : i ≤ 32
  pub size : length l ≡ 32
  pub done : (k : ℕ) → k < i → get_or l k 0 ≡ bit_or (get_or words k 0) (get_or others k 0)
  pub left : (k : ℕ) → i ≤ k → get_or l k 0 ≡ get_or words k 0

module _ {words others : List ℕ} (size : length words ≡ 32) where
  pub joining_start : Joining words others words 0
  joining_start = record { below = omega arith; size = size; done = λ k h. absurd (omega (arith, h)); left = λ k h. refl }

  module _ {l : List ℕ} {i : ℕ} (j : Joining words others l i) where
    pub joining_more : i < 32 → Joining words others (set l i (bit_or (get_or l i 0) (get_or others i 0))) (i + 1)
    joining_more h =
        let word = bit_or (get_or l i 0) (get_or others i 0) in
        record {
          below = omega (arith, h);
          size = length-set l i word ∙ j.size;
          done = λ k m. cases (truth (eqb k i))
              (λ t. rw (eqb-true k i t) (get_or-set_same l i word 0 (omega (arith, h, j.size)) ∙ ap (λ (w : ℕ). bit_or w (get_or others i 0)) (j.left i (omega arith))))
              (λ t. let n : k ≢ i = eqb-false k i t in get_or-set_other l i k word 0 n ∙ j.done k (omega (arith, m, n)));
          left = λ k m. let n : k ≢ i = λ e. omega (arith, e, m) in get_or-set_other l i k word 0 n ∙ j.left k (omega (arith, m));
        }

    pub joining_done : length others ≡ 32 → 32 ≤ i → (x : ℕ) → has l x ≡ has words x || has others x
    joining_done rest h x =
        let k = x / 32 in
        let word : get_or l k 0 ≡ bit_or (get_or words k 0) (get_or others k 0) = cases (truth (ltb k 32))
        (λ t. j.done k (omega (arith, ltb-true k 32 t, h)))
        (λ t. let m = ltb-false k 32 t in
        get_or-eq_default l 0 (omega (arith, j.size, m)) ∙ sym (ap₂ bit_or (get_or-eq_default words 0 (omega (arith, size, m))) (get_or-eq_default others 0 (omega (arith, rest, m))))) in
        has_word l x word ∙ bit-or (get_or words k 0) (get_or others k 0) (x % 32) ∙ sym (ap₂ ◌||◌ (has_word words x refl) (has_word others x refl))

-- ---- no row: a word with the bits of all words

or-none : (v w : ℕ) → eqb (bit_or v w) 0 ≡ eqb v 0 && eqb 0 w
or-none zero zero = refl
or-none zero (suc w) = ne_eqb (suc w) 0 (λ e. omega (arith, e)) ∙ sym (ne_eqb 0 (suc w) (λ e. omega (arith, e)))
or-none (suc v) w =
    ne_eqb (bit_or (suc v) w) 0 (λ e. omega (arith, e, or_add_and (suc v) w, and_le_r (suc v) w))
    ∙ sym (ap (λ (b : Bool). b && eqb 0 w) (ne_eqb (suc v) 0 (λ e. omega (arith, e))))

fold-none : (v : ℕ) (words : List ℕ) → eqb (fold bit_or v words) 0 ≡ eqb v 0 && every (eqb 0) words
fold-none v [] = sym (and-true (eqb v 0))
fold-none v (w ∷ words) =
    fold-none (bit_or v w) words ∙ ap (λ (b : Bool). b && every (eqb 0) words) (or-none v w) ∙ and_assoc (eqb v 0) (eqb 0 w) (every (eqb 0) words)

words_zero : (words : List ℕ) → every (eqb 0) words ≡ true → (i : ℕ) → get_or words i 0 ≡ 0
words_zero [] e i = refl
words_zero (w ∷ words) e zero = sym (eqb-true 0 w (both (eqb 0 w) (every (eqb 0) words) e).0)
words_zero (w ∷ words) e (suc i) = words_zero words (both (eqb 0 w) (every (eqb 0) words) e).1 i

module _ (words : List ℕ) where
  pub empty-fold : eqb (fold bit_or 0 words) 0 ≡ empty words
  unfolding empty
  empty-fold = fold-none 0 words

  pub empty-none : empty words ≡ true → (x : ℕ) → has words x ≡ false
  unfolding empty
  empty-none e = has-none words (words_zero words e)
