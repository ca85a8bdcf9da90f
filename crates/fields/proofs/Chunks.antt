-- The words of bytes that are cut out and then taken four at a time.
use mathlib.Core.Path.{◌≡◌, refl, ap, ap₂, ◌∙◌}
use mathlib.Core.List.{List, [], ◌∷◌, ◌++◌}
use Prim.Native.Nat.{ℕ, zero, suc, ◌+◌, ◌*◌, ◌≤◌}
use native.Mathlib.Omega.{arith}
use lib.ListN.{length, take, drop, length-take, length-drop}
use Rattle.std.proofs.Common.{drop-drop, add-zero}
use Rattle.std.proofs.lemmas.List.{get_or-take, drop-take}
use Rattle.fields.specs.Words.{word_at, words_at, words}
use Rattle.fields.specs.WordsLaws.{word_at_drop, words_cons, words_none, words_append}

-- the first word of bytes that are cut off behind it
word_at_take : (k : ℕ) (l : List ℕ) → 4 ≤ k → word_at (take k l) 0 ≡ word_at l 0
unfolding word_at
word_at_take k l h = rw (get_or-take k l 0 0 (omega arith), get_or-take k l 1 0 (omega arith), get_or-take k l 2 0 (omega arith), get_or-take k l 3 0 (omega arith)) refl

-- the words of the bytes from a place on
pub words_part : (s : List ℕ) (n at : ℕ) → at + 4 * n ≤ length s → words (take (4 * n) (drop at s)) ≡ words_at s n at
unfolding words_at words
words_part s zero at h = refl
words_part s (suc n) at h =
    let l = drop at s in
    let e : 4 * suc n ≡ 4 + 4 * n = omega arith in
    let t = take (4 + 4 * n) l in
    let first : words t ≡ word_at t 0 ∷ words (drop 4 t) = words_cons t 0 (simp (length-take, length-drop) (omega (arith, h))) in
    let word : word_at t 0 ≡ word_at s at = word_at_take (4 + 4 * n) l (omega arith) ∙ word_at_drop s at 0 ∙ ap (word_at s) (add-zero at) in
    let more : drop 4 t ≡ take (4 * n) (drop (at + 4) s) = drop-take 4 (4 * n) l ∙ ap (take (4 * n)) (drop-drop 4 at s) in
    rw e (first ∙ ap₂ (λ (w : ℕ) (ws : List ℕ). w ∷ ws) word (ap words more ∙ words_part s n (at + 4) (omega (arith, h))))

-- the word of four bytes, and those behind it
pub words_chunk : (x rest : List ℕ) → length x ≡ 4 → words (x ++ rest) ≡ word_at x 0 ∷ words rest
words_chunk x rest e =
    let first : words x ≡ word_at x 0 ∷ words (drop 4 x) = words_cons x 0 (omega (arith, e)) in
    let none : words (drop 4 x) ≡ [] = words_none (drop 4 x) (simp length-drop (omega (arith, e))) in
    words_append 1 x rest e ∙ ap (λ (ws : List ℕ). ws ++ words rest) (first ∙ ap (λ (ws : List ℕ). word_at x 0 ∷ ws) none)
