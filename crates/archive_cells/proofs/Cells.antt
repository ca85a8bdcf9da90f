-- The cells of rows in a flat list as bytes: they are the bytes of the rows' words.
use mathlib.Core.Path.{◌≡◌, refl, sym, ap, ap₂, ◌∙◌}
use mathlib.Core.List.{List, [], ◌∷◌, ◌++◌, flat_map}
use Prim.Native.Nat.{ℕ, zero, suc, ◌+◌, ◌-◌, ◌*◌, ◌%◌, ◌/◌, ◌^◌, ◌≤◌, ◌<◌}
use native.Mathlib.Nat.{zero-add, suc-add, zero-mul, suc-mul}
use native.Mathlib.Omega.{arith}
use lib.ListN.{length, get_or, take, drop, replicate, length-drop, take-append-drop}
use lib.Seq.{take_all}
use Rattle.lists.proofs.Places.{EachBelow, below-drop}
use Rattle.lists.proofs.Parts.{take_more}
use Rattle.fields.specs.Words.{word_bytes, words_bytes}
use Rattle.fields.specs.WordsLaws.{words_bytes_append}
use Rattle.fields_sums.specs.Twos.{sum_of, sum_bytes, low_of, high_of}
use Rattle.fields_sums.specs.TwosLaws.{bits_signed}
use Rattle.cube.specs.Measure.{nothing}
use Rattle.cube.specs.Codes.{ALL}
use Rattle.rows.specs.Rows.{width, row_of, rows_of}
use Rattle.archive_entries.specs.Layout.{cell_bytes}

-- the bytes of a sum are those of its two words
sum-bytes : (low high : ℕ) → low < 2 ^ 32 → high < 2 ^ 32 → sum_bytes (sum_of low high) ≡ word_bytes low ++ word_bytes high
sum-bytes low high l h =
    let all = bits_signed 64 (low + 2 ^ 32 * high) (omega (arith, l, h)) in
    let first : low_of (sum_of low high) ≡ low = ap (λ (n : ℕ). n % 2 ^ 32) all ∙ omega (arith, l) in
    let second : high_of (sum_of low high) ≡ high = ap (λ (n : ℕ). n / 2 ^ 32) all ∙ omega (arith, l) in
    ap₂ (λ (a b : ℕ). word_bytes a ++ word_bytes b) first second

front_three : (l : List ℕ) → 3 ≤ length l → take 3 l ≡ get_or l 0 0 ∷ get_or l 1 0 ∷ get_or l 2 0 ∷ []
front_three [] h = absurd (omega arith)
front_three (a ∷ []) h = absurd (omega arith)
front_three (a ∷ b ∷ []) h = absurd (omega arith)
front_three (a ∷ b ∷ c ∷ l) h = refl

-- the cell of the row that words begin with
pub cell-words : (d : ℕ) (ws : List ℕ) → width d ≤ length ws → EachBelow (2 ^ 32) ws → cell_bytes (row_of d ws) ≡ words_bytes (take (width d) ws)
unfolding cell_bytes words_bytes
cell-words d ws h w =
    let l = drop d ws in
    let three = front_three l (simp length-drop (omega (arith, h))) in
    let v = below-drop (2 ^ 32) d ws w in
    ap (λ (k : List ℕ). words_bytes (take d ws) ++ (k ++ word_bytes (get_or l 2 0))) (sum-bytes (get_or l 0 0) (get_or l 1 0) (v 0) (v 1))
    ∙ ap (λ (k : List ℕ). words_bytes (take d ws) ++ words_bytes k) (sym three)
    ∙ sym (words_bytes_append (take d ws) (take 3 l)) ∙ ap words_bytes (sym (take_more d 3 ws (omega (arith, h))))

-- the cells of rows, one behind the other
pub cells-words : (d n : ℕ) (ws : List ℕ) → n * width d ≡ length ws → EachBelow (2 ^ 32) ws → flat_map cell_bytes (rows_of d n ws) ≡ words_bytes ws
unfolding flat_map rows_of words_bytes
cells-words d zero [] e w = refl
cells-words d zero (u ∷ ws) e w = absurd (omega (arith, e, zero-mul (width d)))
cells-words d (suc n) ws e w =
    let more : width d + n * width d ≡ length ws = omega (arith, suc-mul n (width d), e) in
    let here = cell-words d ws (omega (arith, more)) w in
    let behind = cells-words d n (drop (width d) ws) (simp length-drop (omega (arith, more))) (below-drop (2 ^ 32) (width d) ws w) in
    ap₂ (λ (a b : List ℕ). a ++ b) here behind
    ∙ sym (words_bytes_append (take (width d) ws) (drop (width d) ws)) ∙ ap words_bytes (take-append-drop (width d) ws)

-- ---- the cell of an empty table

abbrev blank : List ℕ
blank = ALL ∷ ALL ∷ ALL ∷ ALL ∷ ALL ∷ ALL ∷ ALL ∷ ALL ∷ 0 ∷ 0 ∷ 0 ∷ []

-- the words of that of d dimensions
abbrev end : ℕ → List ℕ
end d = take (11 - (8 - d)) (drop (8 - d) blank)

drop_alls : (k d : ℕ) (l : List ℕ) → drop k (replicate (k + d) ALL ++ l) ≡ replicate d ALL ++ l
drop_alls zero d l = ap (λ (n : ℕ). replicate n ALL ++ l) (zero-add d)
drop_alls (suc k) d l = ap (λ (n : ℕ). drop (suc k) (replicate n ALL ++ l)) (suc-add k d) ∙ drop_alls k d l

pub blank-words : (d : ℕ) → d ≤ 8 → words_bytes (end d) ≡ cell_bytes (record { codes = replicate d ALL; total = nothing })
unfolding cell_bytes words_bytes
blank-words d h =
    let zeros : List ℕ = 0 ∷ 0 ∷ 0 ∷ [] in
    let whole : 8 ≡ 8 - d + d = omega (arith, h) in
    let all = take_all (11 - (8 - d)) (drop (8 - d) blank) (simp length-drop (omega arith)) in
    let there : drop (8 - d) blank ≡ replicate d ALL ++ zeros = ap (λ (n : ℕ). drop (8 - d) (replicate n ALL ++ zeros)) whole ∙ drop_alls (8 - d) d zeros in
    ap words_bytes (all ∙ there) ∙ words_bytes_append (replicate d ALL) zeros
