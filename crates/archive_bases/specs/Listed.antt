-- Base rows in a flat list, with our lists of sets.
--
--   Listed d n ..     n base rows of d codes, and our list of each
--   base_of d ws l    the base entry that the words of a row of d codes and a list make
--   our_base d rows i  the base entry of row i
--   our_bases d rows   the base entries of base rows
use Rattle.std.specs.Prelude.{◌≡◌, List, [], map, ℕ, ◌*◌, ◌≤◌, length, get_or}
use Rattle.cube.specs.declared.Total.{Total}
use Rattle.cube.specs.Measure.{Row, nothing}
use Rattle.rows.specs.Rows.{row_of, cut}
use Rattle.rows_ready.specs.Ready.{Ready}
use Rattle.rows_lists.specs.Lists.{lists_of, Short, our_lists}
use Rattle.archive_entries.specs.Layout.{Based, based}

pub record Listed (d n : ℕ) (ws ls : List ℕ) : Type 0 where
  pub ready : Ready d n ws
  pub room : n * 71 ≤ length ls
  pub short : Short n ls
  pub lists : lists_of n ls ≡ our_lists d (cut d n ws)

abbrev pub base_of : ℕ → List ℕ → List ℕ → Based
base_of d ws l = record { row = row_of d ws; list = l }

unfoldable pub our_base : ℕ → List (Row Total) → ℕ → Based
our_base d rows i = based d rows (get_or rows i (record { codes = []; total = nothing }))

unfoldable pub our_bases : ℕ → List (Row Total) → List Based
our_bases d rows = map (based d rows) rows
