-- One late reading (document 02, C-18): "Given an archive, D codes and a reading, write the archive with this record added"; "Other than D codes, or one not below its size, ALL too, stops
-- with 13, then 18 and 15 apply".
--
--   coded zs x          x is a row's codes for these sizes: one for each dimension, below its size
--   record_of x z        the record of codes x with the reading z
--   added zs rows x z   the archive of sizes and base rows with this record folded in (stop 13, then 18)
--   adds s x z          the archive s with this record added (stops 1 to 12, 13, 18)
use Rattle.std.specs.Prelude.{Bool, true, false, ◌&&◌, List, [], ◌∷◌, ℕ, ltb, ℤ, length}
use Rattle.cube.specs.declared.Total.{Total}
use Rattle.cube.specs.Measure.{sums, Row}
use Rattle.rows_late.specs.Late.{late}
use Rattle.archive_entries.specs.Reading.{rows_in, read_archive}
use Rattle.call_answers.specs.Answers.{Outcome, refuse_unless}
use Rattle.call_answers.specs.Calls.{outcome}
use Rattle.call_answers.specs.Joins.{filed}

abbrev pub coded : List ℕ → List ℕ → Bool
coded [] [] = true
coded [] (a ∷ x) = false
coded (z ∷ zs) [] = false
coded (z ∷ zs) (a ∷ x) = ltb a z && coded zs x

abbrev pub record_of : List ℕ → ℤ → Row Total
record_of x z = record { codes = x; total = record { sum = z; count = 1 } }

unfoldable pub added : List ℕ → List (Row Total) → List ℕ → ℤ → Outcome
added zs rows x z = refuse_unless (coded zs x) 13 (filed zs (late sums (length zs) rows (record_of x z)))

unfoldable pub adds : List ℕ → List ℕ → ℤ → Outcome
adds s x z = outcome (λ a. added a.sizes (rows_in a) x z) (read_archive s)
