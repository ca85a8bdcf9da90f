-- A table's rows in another order: the same check word, the same limits, the same base rows.
use mathlib.Core.Path.{◌≡◌, sym, ap, ap₂, ◌∙◌}
use mathlib.Core.List.{List, ◌∷◌, ◌++◌, flat_map, append_assoc, Permᴰ}
use Prim.Native.Nat.{ℕ, suc, ◌+◌, ◌*◌, ◌%◌, ◌^◌}
use native.Mathlib.Omega.{arith}
use lib.ListN.{length, length-append}
use Rattle.lists.proofs.Permutations.{perm_back, perm_same}
use Rattle.lists.proofs.Pigeonhole.{perm_length}
use Rattle.fields.specs.Words.{words, word_bytes, words_bytes}
use Rattle.fields.specs.WordsLaws.{length_words_bytes, words_append}
use Rattle.fields_sums.specs.Twos.{reading_bytes}
use Rattle.fields_check.specs.Check.{words_sum, check_of}
use Rattle.fields_check.proofs.CheckLaws.{sum-append}
use Rattle.fields_walk.specs.Fields.{header_bytes}
use Rattle.fields_walk.proofs.Lengths.{length-header}
use Rattle.cube.specs.declared.Total.{Total}
use Rattle.cube.specs.Measure.{Row, sums}
use Rattle.cube.proofs.Sums.{sums-add}
use Rattle.cube.proofs.Reordering.{folded_reordered}
use Rattle.table.specs.Layout.{FACT, Records, row_bytes, TableLimits}
use Rattle.table.specs.Reading.{base_rows}

-- the sum of the words of bytes
abbrev sum_of : List ℕ → ℕ
sum_of s = words_sum (words s)

sum-parts : (n : ℕ) (a b : List ℕ) → length a ≡ 4 * n → sum_of (a ++ b) ≡ sum_of a + sum_of b
sum-parts n a b e = ap words_sum (words_append n a b e) ∙ sum-append (words a) (words b)

pub row_words : (r : Row Total) → length (row_bytes r) ≡ 4 * suc (length r.codes)
row_words r = omega (arith, length-append (words_bytes r.codes) (reading_bytes r.total.sum), length_words_bytes r.codes)

-- the sum over rows, in whichever order they come
sum_row : (r : Row Total) (l : List (Row Total)) → sum_of (flat_map row_bytes (r ∷ l)) ≡ sum_of (row_bytes r) + sum_of (flat_map row_bytes l)
unfolding flat_map
sum_row r l = sum-parts (suc (length r.codes)) (row_bytes r) (flat_map row_bytes l) (row_words r)

sum_reordered : {rows others : List (Row Total)} → Permᴰ rows others → sum_of (flat_map row_bytes rows) ≡ sum_of (flat_map row_bytes others)
sum_reordered o = perm_same (λ l. sum_of (flat_map row_bytes l))
    (λ r l m e. omega (arith, sum_row r l, sum_row r m, e))
    (λ q r l. omega (arith, sum_row q (r ∷ l), sum_row r l, sum_row r (q ∷ l), sum_row q l)) o

-- what stands before the check word, and before the rows
abbrev pub front : List ℕ → ℕ → List ℕ
front zs n = header_bytes FACT zs ++ word_bytes n

abbrev pub body : List ℕ → List (Row Total) → List ℕ
body zs rows = header_bytes FACT zs ++ (word_bytes (length rows) ++ flat_map row_bytes rows)

pub length_front : (zs : List ℕ) (n : ℕ) → length (front zs n) ≡ 4 * (3 + length zs)
length_front zs n = omega (arith, length-append (header_bytes FACT zs) (word_bytes n), length-header FACT zs)

pub body-front : (zs : List ℕ) (rows : List (Row Total)) → body zs rows ≡ front zs (length rows) ++ flat_map row_bytes rows
body-front zs rows = sym (append_assoc (header_bytes FACT zs) (word_bytes (length rows)) (flat_map row_bytes rows))

-- The check word is the same,
pub check_reordered : (zs : List ℕ) {rows others : List (Row Total)} → Permᴰ rows others → check_of (body zs rows) ≡ check_of (body zs others)
unfolding check_of
check_reordered zs {rows} {others} o =
    let p = ap sum_of (body-front zs rows) ∙ sum-parts (3 + length zs) (front zs (length rows)) (flat_map row_bytes rows) (length_front zs (length rows)) in
    let q = ap sum_of (body-front zs others) ∙ sum-parts (3 + length zs) (front zs (length others)) (flat_map row_bytes others) (length_front zs (length others)) in
    ap (λ (n : ℕ). n % 2 ^ 32) (p ∙ ap₂ (λ (n k : ℕ). sum_of (front zs n) + k) (perm_length o) (sum_reordered o) ∙ sym q)

-- the rows of a table in another order
abbrev pub reordered : Records → List (Row Total) → Records
reordered t others = record { sizes = t.sizes; rows = others }

pub limits_reordered : (t : Records) {others : List (Row Total)} → TableLimits t → Permᴰ t.rows others → TableLimits (reordered t others)
limits_reordered t l o = record { sized = l.sized; few = omega (arith, l.few, perm_length o); each = λ r m. l.each r (perm_back o m) }

pub base_reordered : (t : Records) {others : List (Row Total)} → Permᴰ t.rows others → base_rows (reordered t others) ≡ base_rows t
base_reordered t o = sym (folded_reordered o sums sums-add (length t.sizes))
