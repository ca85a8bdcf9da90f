-- The answer through a window as one number for other languages.
--
--   seen_number                    1 for a cell, 0 for 'no record', 2 to the power 63 plus a stop's number
--   seen_sum_left, seen_count_left    what is left in the arrays of one where the sum and the count of a cell are stored
use Rattle.std.specs.Prelude.{List, ℕ, ℤ, set, Option, Some, None, Result, Ok, Err}
use Rattle.cube.specs.declared.Total.{Total}
use Rattle.call_answers.specs.Numbers.{stop_number}

abbrev pub seen_number : Result (Option Total) ℕ → ℕ
seen_number (Ok (Some t)) = 1
seen_number (Ok None) = 0
seen_number (Err n) = stop_number n

abbrev pub seen_sum_left : Result (Option Total) ℕ → List ℤ → List ℤ
seen_sum_left (Ok (Some t)) l = set l 0 t.sum
seen_sum_left (Ok None) l = l
seen_sum_left (Err n) l = l

abbrev pub seen_count_left : Result (Option Total) ℕ → List ℕ → List ℕ
seen_count_left (Ok (Some t)) l = set l 0 t.count
seen_count_left (Ok None) l = l
seen_count_left (Err n) l = l
