-- Questions to an archive through a window (document 02, C-19): "The window is a dimension and a code; a question must carry this code there. It gets sum, count .. or 'no record', and no
-- entry number"; "A window dimension outside 1 to D stops with 16, then its code not below its size with 13, then the question with 13. New numbers: 20, the question's code at the window's
-- dimension is not the window's, checked last".
--
--   shown r               what the code says for a reply: a cell's sum and count, or none for 'no record'
--   stop_unless b n r      stop n, unless the test b passed
--   window zs i k rows q  the reply of the rows in a window, of dimension i and code k, to the question q: it is given no other row (stops 16, 13, 13, 20)
--   asks_window s i k q    the archive s asked through a window (stops 1 to 12, 16, 13, 13, 20)
--   unnumbered_found f     what a look-up answers, without the entry's number
use Rattle.std.specs.Prelude.{Bool, cond, ◌&&◌, List, ℕ, eqb, ltb, leb, length, Option, Some, None, Result, Ok, Err}
use Rattle.fields_walk.specs.Parsed.{Parsed, stop, got}
use Rattle.cube.specs.declared.Total.{Total}
use Rattle.cube.specs.Measure.{sums, Row}
use Rattle.cube.specs.Codes.{plain}
use Rattle.rows_window.specs.Window.{at, Reply, unknown, told, seen, replied}
use Rattle.archive_entries.specs.Layout.{Held}
use Rattle.archive_entries.specs.Reading.{read_archive, rows_in}
use Rattle.call_questions.specs.Questions.{asks}
use Rattle.call_questions.specs.declared.Cell.{Cell}

abbrev pub shown : Reply Total → Option Total
shown unknown = None
shown (told t) = Some t

abbrev pub stop_unless : Bool → ℕ → Result (Option Total) ℕ → Result (Option Total) ℕ
stop_unless b n r = cond b r (Err n)

unfoldable pub window : List ℕ → ℕ → ℕ → List (Row Total) → List ℕ → Result (Option Total) ℕ
window zs i k rows q =
    stop_unless (leb 1 i && leb i (length zs)) 16
    (stop_unless (ltb k (at i zs)) 13
    (stop_unless (asks zs q) 13
    (stop_unless (eqb (at i q) k) 20 (Ok (shown (replied (plain (length zs)) sums rows q))))))

abbrev pub asked : ℕ → ℕ → List ℕ → Parsed Held → Result (Option Total) ℕ
asked i k q (stop n) = Err n
asked i k q (got a rest) = window a.sizes i k (seen i k (rows_in a)) q

unfoldable pub asks_window : List ℕ → ℕ → ℕ → List ℕ → Result (Option Total) ℕ
asks_window s i k q = asked i k q (read_archive s)

abbrev pub unnumbered_found : Result (Option Cell) ℕ → Result (Option Total) ℕ
unnumbered_found (Ok (Some c)) = Ok (Some (record { sum = c.sum; count = c.count }))
unnumbered_found (Ok None) = Ok None
unnumbered_found (Err n) = Err n
