-- Late readings one after the other (document 02, C-18): each is added to what came of the one before.
--
--   onward o f        what f makes of the bytes of an outcome; a stop stays
--   adds_all s rs      the archive s with the records rs added, one after the other: its bytes, or the first stop
--   recorded rs       records, each codes and a reading, as rows of a table
--   readings rows     rows of a table as records
--   AllCoded zs rs    each record's codes are a row's for these sizes
--   AllReadings rs    each reading is one of 32 bits
use Rattle.std.specs.Prelude.{◌≡◌, true, List, [], ◌∷◌, map, ℕ, ◌^◌, ◌<◌, ℤ}
use Rattle.std.specs.Int.Signed.{mag}
use Rattle.lists.specs.Lists.{◌∈◌}
use Rattle.cube.specs.declared.Total.{Total}
use Rattle.cube.specs.Measure.{Row, carried}
use Rattle.call_answers.specs.Answers.{Outcome, stop, bytes}
use Rattle.call_add.specs.Adds.{coded, record_of, adds}

abbrev pub onward : Outcome → (List ℕ → Outcome) → Outcome
onward (stop n) f = stop n
onward (bytes s) f = f s

unfoldable pub adds_all : List ℕ → List (Row ℤ) → Outcome
adds_all s [] = bytes s
adds_all s (r ∷ rs) = onward (adds s r.codes r.total) (λ t. adds_all t rs)

abbrev pub recorded : List (Row ℤ) → List (Row Total)
recorded rs = map (λ r. record_of r.codes r.total) rs

abbrev pub readings : List (Row Total) → List (Row ℤ)
readings rows = map (carried (λ t. t.sum)) rows

abbrev pub AllCoded : List ℕ → List (Row ℤ) → Type 0
AllCoded zs rs = (r : Row ℤ) → r ∈ rs → coded zs r.codes ≡ true

abbrev pub AllReadings : List (Row ℤ) → Type 0
AllReadings rs = (r : Row ℤ) → r ∈ rs → mag r.total < 2 ^ 31
