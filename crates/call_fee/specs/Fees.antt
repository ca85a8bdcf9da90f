-- What the call that shares a fee computes (document 02, C-22): "23, the fee is above 1,000,000,000; 24, the archive has no base row; both after 14 and before 15, 23 first".
--
--   count_in r             how many readings a cell has, not how many base rows fall in it
--   weights d rows s      the counts of the cells of set s, in listing order
--   shares_fee s fee set   a fee shared over the cells of a set of the archive s (stops 1 to 12, 14, 23, 24); an archive without base rows has a cell too, and is never shared
use Rattle.std.specs.Prelude.{List, map, ℕ, ◌^◌, leb, ltb, length}
use Rattle.cube.specs.declared.Total.{Total}
use Rattle.cube.specs.Measure.{Row, sums}
use Rattle.cube.specs.Codes.{plain}
use Rattle.cube.specs.Cube.{cells}
use Rattle.archive_entries.specs.Layout.{Held}
use Rattle.archive_entries.specs.Reading.{read_archive, rows_in}
use Rattle.call_answers.specs.Answers.{Outcome, bytes, refuse_unless}
use Rattle.call_answers.specs.Calls.{outcome, dims}
use Rattle.fee_list.specs.Listed.{fee_bytes}

abbrev pub count_in : Row Total → ℕ
count_in r = r.total.count

unfoldable pub weights : ℕ → List (Row Total) → ℕ → List ℕ
weights d rows s = map count_in (cells (plain d) sums rows s)

abbrev pub fees_of : ℕ → ℕ → Held → Outcome
fees_of fee set a =
    refuse_unless (ltb set (2 ^ dims a)) 14
    (refuse_unless (leb fee 1000000000) 23
    (refuse_unless (ltb 0 (length (rows_in a))) 24
    (bytes (fee_bytes fee (weights (dims a) (rows_in a) set)))))

unfoldable pub shares_fee : List ℕ → ℕ → ℕ → Outcome
shares_fee s fee set = outcome (fees_of fee set) (read_archive s)
