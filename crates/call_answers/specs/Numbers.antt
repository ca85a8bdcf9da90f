-- The answers of the calls as one number for other languages: 2 to the power 63 plus a stop's number, or what the call answers.
--
--   written_number       the length written
--   checked_number       the base count, plus 2 to the power 32 times the normal count
--   found_number         1 for a cell, 0 for 'no record'
--   sum_left, count_left, entry_left    what is left in the arrays of one where the sum, the count and the entry's number of a cell are stored
--   fixed_number         1 for yes, 0 for no, whether a set fixes a dimension
use Rattle.std.specs.Prelude.{true, false, Bool, List, ℕ, ◌+◌, ◌*◌, ◌^◌, ℤ, set, Option, Some, None, Result, Ok, Err}
use Rattle.call_questions.specs.declared.Cell.{Cell}
use Rattle.call_answers.specs.declared.Counts.{Counts}

abbrev pub stop_number : ℕ → ℕ
stop_number n = 2 ^ 63 + n

abbrev pub written_number : Result ℕ ℕ → ℕ
written_number (Ok n) = n
written_number (Err n) = stop_number n

abbrev pub checked_number : Result Counts ℕ → ℕ
checked_number (Ok c) = c.bases + 2 ^ 32 * c.cells
checked_number (Err n) = stop_number n

abbrev pub found_number : Result (Option Cell) ℕ → ℕ
found_number (Ok (Some c)) = 1
found_number (Ok None) = 0
found_number (Err n) = stop_number n

abbrev pub sum_left : Result (Option Cell) ℕ → List ℤ → List ℤ
sum_left (Ok (Some c)) l = set l 0 c.sum
sum_left (Ok None) l = l
sum_left (Err n) l = l

abbrev pub count_left : Result (Option Cell) ℕ → List ℕ → List ℕ
count_left (Ok (Some c)) l = set l 0 c.count
count_left (Ok None) l = l
count_left (Err n) l = l

abbrev pub entry_left : Result (Option Cell) ℕ → List ℕ → List ℕ
entry_left (Ok (Some c)) l = set l 0 c.entry
entry_left (Ok None) l = l
entry_left (Err n) l = l

abbrev pub fixed_number : Result Bool ℕ → ℕ
fixed_number (Ok true) = 1
fixed_number (Ok false) = 0
fixed_number (Err n) = stop_number n
