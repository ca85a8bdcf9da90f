-- Rows in one flat list of words, in a file's own order: row i of d codes starts at i * width d; its codes, the low and the high word of its sum, its count.
--
--   width d         how many words a row of d codes has
--   total_in ws      the total that a list of words begins with
--   row_of d ws      the row of d codes that a list of words begins with
--   cut d n ws      the codes of the first n rows
--   row_at rows i    the row at place i
--   rows_of d n ws   the first n rows
--   row_total d n ws i    the total of row i of n
use Rattle.std.specs.Prelude.{List, [], ◌∷◌, ℕ, zero, suc, ◌+◌, get_or, take, drop}
use Rattle.fields_sums.specs.Twos.{sum_of}
use Rattle.cube.specs.declared.Total.{Total}
use Rattle.cube.specs.Measure.{Row, nothing}

abbrev pub width : ℕ → ℕ
width d = d + 3

abbrev pub total_in : List ℕ → Total
total_in ws = record { sum = sum_of (get_or ws 0 0) (get_or ws 1 0); count = get_or ws 2 0 }

abbrev pub row_of : ℕ → List ℕ → Row Total
row_of d ws = record { codes = take d ws; total = total_in (drop d ws) }

unfoldable pub cut : ℕ → ℕ → List ℕ → List (List ℕ)
cut d zero ws = []
cut d (suc n) ws = take d ws ∷ cut d n (drop (width d) ws)

abbrev pub row_at : List (List ℕ) → ℕ → List ℕ
row_at rows i = get_or rows i []

unfoldable pub rows_of : ℕ → ℕ → List ℕ → List (Row Total)
rows_of d zero ws = []
rows_of d (suc n) ws = row_of d ws ∷ rows_of d n (drop (width d) ws)

unfoldable pub row_total : ℕ → ℕ → List ℕ → ℕ → Total
row_total d n ws i = (get_or (rows_of d n ws) i (record { codes = []; total = nothing })).total
