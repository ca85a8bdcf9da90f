-- What a look-up tells of a cell, without its entry's number (document 02, C-18: "from 0 and 0 where there was no record").
--
--   amount_of f   the sum and count of a cell; 0 and 0 for 'no record'
use Rattle.std.specs.Prelude.{ℕ, Option, Some, None, Result, Ok, Err}
use Rattle.cube.specs.declared.Total.{Total}
use Rattle.cube.specs.Measure.{nothing}
use Rattle.call_questions.specs.declared.Cell.{Cell}

abbrev pub amount_of : Result (Option Cell) ℕ → Total
amount_of (Ok (Some c)) = record { sum = c.sum; count = c.count }
amount_of (Ok None) = nothing
amount_of (Err n) = nothing
