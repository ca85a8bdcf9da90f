-- What the two calls on keys compute (document 02, C-12): the smallest keys "written as a count, then set numbers in lattice order"; "a yes or no: does a set fix a dimension";
-- "16, the dimension is not 1 to D, checked after 14 and before 15".
--
--   lists_keys s           the smallest keys of the archive s (stops 1 to 12)
--   tells_fixed s set i    whether a set fixes dimension i in the archive s (stops 1 to 12, 14, 16)
use Rattle.std.specs.Prelude.{Bool, ◌&&◌, cond, List, ℕ, ◌^◌, leb, ltb, Result, Ok, Err}
use Rattle.fields_walk.specs.Parsed.{Parsed, stop, got}
use Rattle.cube.specs.Measure.{codes_of}
use Rattle.cube.specs.Codes.{plain}
use Rattle.cube.specs.Keys.{least_keys, fixes, dimension}
use Rattle.archive_entries.specs.Layout.{Held}
use Rattle.archive_entries.specs.Reading.{read_archive, rows_in}
use Rattle.archive_cells.specs.ListBytes.{list_bytes}
use Rattle.call_answers.specs.Answers.{Outcome, bytes}
use Rattle.call_answers.specs.Calls.{outcome, dims}

abbrev pub keys_of : Held → Outcome
keys_of a = bytes (list_bytes (least_keys (plain (dims a)) (codes_of (rows_in a))))

unfoldable pub lists_keys : List ℕ → Outcome
lists_keys s = outcome keys_of (read_archive s)

-- a set below 2 to the power D, and a dimension 1 to D
abbrev pub fixed_in : ℕ → ℕ → Parsed Held → Result Bool ℕ
fixed_in set i (stop n) = Err n
fixed_in set i (got a rest) =
    cond (ltb set (2 ^ dims a))
    (cond (leb 1 i && leb i (dims a)) (Ok (fixes (plain (dims a)) (codes_of (rows_in a)) set (dimension i))) (Err 16))
    (Err 14)

unfoldable pub tells_fixed : List ℕ → ℕ → ℕ → Result Bool ℕ
tells_fixed s set i = fixed_in set i (read_archive s)
