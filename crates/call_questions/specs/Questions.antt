-- Questions to an archive (document 01: "A looked-up cell returns sum, count and the number of the entry that carries them").
--
--   asks zs q                 q is a question to an archive of these sizes: a code below its size, or ALL, for each dimension (number 13)
--   looked a                  what the code says for an answer: none for 'no record', or a cell's sum and count and its entry's number
--   rowless d n c             the answer of n base rows for a cell that none of them falls in: 'no record', but for all ALL of an empty table
--   FirstAt c xs i            place i has the first of the codes xs that fall in cell c
--   First c xs r              r is that place, or none where no codes fall in the cell
--   NormalsAt s at n d rows   the bytes s have the n normal entries of base rows from a place on
use Rattle.std.specs.Prelude.{◌≡◌, Bool, true, false, ◌&&◌, ◌||◌, ℕ, ◌≤◌, ◌<◌, eqb, ltb, length, drop, Option, Some, None}
use mathlib.Core.List.{List, [], ◌∷◌, map, flat_map}
use Rattle.fields.specs.Opening.{starts_with}
use Rattle.cube.specs.declared.Total.{Total}
use Rattle.cube.specs.Measure.{Row}
use Rattle.cube.specs.Codes.{ALL, falls, plain}
use Rattle.cube.specs.Condensed.{normal, Answer, no_record, found, lookup}
use Rattle.rows_ready.specs.Blank.{blank_rows}
use Rattle.rows.specs.Rows.{row_at}
use Rattle.archive_entries.specs.Layout.{cell_bytes}
use Rattle.rows_condense.specs.Shared.{normal_rows}
use Rattle.call_questions.specs.declared.Cell.{Cell}

abbrev pub asks : List ℕ → List ℕ → Bool
asks [] [] = true
asks [] (c ∷ q) = false
asks (z ∷ zs) [] = false
asks (z ∷ zs) (c ∷ q) = (ltb c z || eqb c ALL) && asks zs q

abbrev pub looked : Answer Total → Option Cell
looked no_record = None
looked (found n t) = Some (record { sum = t.sum; count = t.count; entry = n })

abbrev pub rowless : ℕ → ℕ → List ℕ → Answer Total
rowless d n c = lookup (plain d) c (map normal (blank_rows d n))

pub record FirstAt (c : List ℕ) (xs : List (List ℕ)) (i : ℕ) : Type 0 where
  pub within : i < length xs
  pub before : (k : ℕ) → k < i → falls c (row_at xs k) ≡ false
  pub here : falls c (row_at xs i) ≡ true

abbrev pub First : List ℕ → List (List ℕ) → Option ℕ → Type 0
First c xs (Some i) = FirstAt c xs i
First c xs None = (k : ℕ) → k < length xs → falls c (row_at xs k) ≡ false

pub record NormalsAt (s : List ℕ) (at n d : ℕ) (rows : List (Row Total)) : Type 0 where
  pub within : at ≤ length s
  pub bytes : starts_with (drop at s) (flat_map cell_bytes (normal_rows d rows)) ≡ true
  pub count : n ≡ length (normal_rows d rows)
