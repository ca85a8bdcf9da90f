-- The stops' numbers in documents 01 and 02, by which the definitions speak of them.
--
--   number e     the number of a stop
--   numbered r   an answer with its stop as a number
use Rattle.std.specs.Prelude.{ℕ, Result, Ok, Err}
use Rattle.stops.specs.declared.Stop.{Stop}
use Rattle.stops.specs.declared.Stop.TheVariants as Why

abbrev pub number : Stop → ℕ
number Why.Opening = 1
number Why.Cut = 2
number Why.Dimensions = 3
number Why.Size = 4
number Why.Rows = 5
number Why.Code = 6
number Why.Order = 7
number Why.Amount = 8
number Why.List = 9
number Why.Trailing = 10
number Why.CheckWord = 11
number Why.Entries = 12
number Why.Question = 13
number Why.Set = 14
number Why.Output = 15
number Why.Dimension = 16
number Why.Sizes = 17
number Why.Many = 18
number Why.Window = 20
number Why.Fee = 23
number Why.NoRows = 24

abbrev pub numbered : {A : Type 0} → Result A Stop → Result A ℕ
numbered (Ok x) = Ok x
numbered (Err e) = Err (number e)
