-- What each part of a listing is, part after part, and how long it is.
use mathlib.Core.Path.{◌≡◌, refl, ap, ◌∙◌}
use mathlib.Core.List.{[], ◌∷◌, ◌++◌, flat_map, append_assoc}
use Prim.Native.Nat.{ℕ, ◌+◌}
use lib.ListN.{length, length-append}
use borrow.Author.Tests.{ne_eqb}
use Rattle.text_decimals.specs.Decimals.{decimal, integer}
use Rattle.cube.specs.declared.Total.{Total}
use Rattle.cube.specs.Measure.{Row}
use Rattle.cube.specs.Codes.{ALL}
use Rattle.archive_entries.specs.Layout.{Based}
use Rattle.text_lines.specs.Lines.{code_text, row_text, set_text, base_text, cell_text, head_text}

abbrev pub SPACE : ℕ
SPACE = 32

abbrev pub STAR : ℕ
STAR = 42

abbrev pub COLON : ℕ
COLON = 58

abbrev pub NEWLINE : ℕ
NEWLINE = 10

-- ---- a code and a set

pub code_text-all : {c : ℕ} → c ≡ ALL → code_text c ≡ STAR ∷ SPACE ∷ []
unfolding code_text
code_text-all h = rw h

pub star_length : {c : ℕ} → c ≡ ALL → length (code_text c) ≡ 2
star_length h = ap length (code_text-all h)

pub code_text-code : {c : ℕ} → (c ≡ ALL → ⊥) → code_text c ≡ decimal c ++ SPACE ∷ []
unfolding code_text
code_text-code {c} h = rw (ne_eqb c ALL h)

pub code_length : {c : ℕ} → (c ≡ ALL → ⊥) → length (code_text c) ≡ length (decimal c) + 1
code_length {c} h = ap length (code_text-code h) ∙ length-append (decimal c) (SPACE ∷ [])

pub set_text_is : (s : ℕ) → set_text s ≡ SPACE ∷ decimal s
unfolding set_text
set_text_is s = refl

-- ---- a row

module _ (r : Row Total) where
  pub row_text_is : row_text r ≡ flat_map code_text r.codes ++ integer r.total.sum ++ (SPACE ∷ []) ++ decimal r.total.count
  unfolding row_text
  row_text_is = simp append_assoc

  pub row_text_length : length (row_text r) ≡ length (flat_map code_text r.codes) + length (integer r.total.sum) + 1 + length (decimal r.total.count)
  row_text_length = ap length row_text_is ∙ simp length-append

-- ---- lines

pub number_length : (n e : ℕ) → length (decimal n ++ (e ∷ [])) ≡ length (decimal n) + 1
number_length n e = length-append (decimal n) (e ∷ [])

module _ (b : Based) where
  pub base_text_is : base_text b ≡ row_text b.row ++ (SPACE ∷ []) ++ (COLON ∷ []) ++ flat_map set_text b.list ++ (NEWLINE ∷ [])
  unfolding base_text
  base_text_is = simp append_assoc

  pub base_text_length : length (base_text b) ≡ length (row_text b.row) + 1 + 1 + length (flat_map set_text b.list) + 1
  base_text_length = ap length base_text_is ∙ simp length-append

pub cell_text_is : (r : Row Total) → cell_text r ≡ row_text r ++ (NEWLINE ∷ [])
unfolding cell_text
cell_text_is r = refl

pub cell_text_length : (r : Row Total) → length (cell_text r) ≡ length (row_text r) + 1
cell_text_length r = ap length (cell_text_is r) ∙ length-append (row_text r) (NEWLINE ∷ [])

module _ (d n m : ℕ) where
  pub head_text_is : head_text d n m ≡ (decimal d ++ (SPACE ∷ [])) ++ (decimal n ++ (SPACE ∷ [])) ++ (decimal m ++ (NEWLINE ∷ []))
  unfolding head_text
  head_text_is = simp append_assoc

  pub head_text_length : length (head_text d n m) ≡ length (decimal d ++ (SPACE ∷ [])) + length (decimal n ++ (SPACE ∷ [])) + length (decimal m ++ (NEWLINE ∷ []))
  head_text_length = ap length head_text_is ∙ simp length-append
