-- Two archives into one (document 02, C-15): "the archive that 01's definitions give for both sets of base rows, folded"; "17, the dimensions or sizes differ; 18, the result has over
-- 1,024 base rows or a total count over 1,048,576; the first file is checked whole, then the second, then 17, 18 and 15".
--
--   few rows         an archive may have so many base rows and so high a total count
--   filed zs rows    the archive of sizes and base rows, where there are not too many (stop 18)
--   unites a b       the archive of what two archives hold, where the dimensions and sizes are the same (stop 17, then 18)
--   joins s t        the archives s and t joined (stops 1 to 12 of the first, 1 to 12 of the second, 17, 18)
--   doubled a        what the archive a holds, with every total twice
use Rattle.std.specs.Prelude.{Bool, ◌&&◌, List, map, ℕ, leb, length}
use Rattle.lists.specs.Order.{same}
use Rattle.cube.specs.declared.Total.{Total}
use Rattle.cube.specs.Measure.{sums, Row}
use Rattle.cube.specs.Bounds.{most, count_of}
use Rattle.rows_merge.specs.United.{as_one, united}
use Rattle.archive_entries.specs.Layout.{Held, archive_bytes}
use Rattle.archive_entries.specs.Reading.{rows_in, read_archive}
use Rattle.call_answers.specs.Answers.{Outcome, bytes, refuse_unless}
use Rattle.call_answers.specs.Calls.{outcome, dims}

abbrev pub few : List (Row Total) → Bool
few rows = leb (length rows) 1024 && leb (count_of rows) most

abbrev pub filed : List ℕ → List (Row Total) → Outcome
filed zs rows = refuse_unless (few rows) 18 (bytes (archive_bytes zs rows))

abbrev pub unites : Held → Held → Outcome
unites a b = refuse_unless (same a.sizes b.sizes) 17 (filed a.sizes (united sums (dims a) (rows_in a) (rows_in b)))

unfoldable pub joins : List ℕ → List ℕ → Outcome
joins s t = outcome (λ a. outcome (unites a) (read_archive t)) (read_archive s)

-- sizes, codes and lists stay
abbrev pub doubled : Held → Held
doubled a = record {
  sizes = a.sizes;
  bases = map (λ b. record { row = as_one sums b.row b.row; list = b.list }) a.bases;
  cells = map (λ r. as_one sums r r) a.cells;
}
