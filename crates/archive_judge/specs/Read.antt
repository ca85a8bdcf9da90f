-- Base rows in a flat list, as they were read of an archive whose fields are right (stops 1 to 11 have passed).
--
--   Read s d n ..       the n base rows of d codes of the archive s
--   sections d rows     what base rows require behind the sizes: base count, base entries, normal count, normal entries
use Rattle.std.specs.Prelude.{◌≡◌, List, [], ◌++◌, ℕ, ◌*◌, length}
use Rattle.fields_walk.specs.Parsed.{got}
use Rattle.cube.specs.declared.Total.{Total}
use Rattle.cube.specs.Measure.{Row}
use Rattle.rows.specs.Rows.{width, rows_of}
use Rattle.archive_entries.specs.Layout.{Held, section, base_bytes, cell_bytes}
use Rattle.archive_entries.specs.Reading.{walk_archive, rows_in}
use Rattle.rows_condense.specs.Shared.{normal_rows}
use Rattle.archive_bases.specs.Listed.{our_bases}

pub record Read (s : List ℕ) (d n : ℕ) (ws : List ℕ) : Type 0 where
  pub held : Held
  pub walked : walk_archive s ≡ got held []
  pub dims : length held.sizes ≡ d
  pub size : n * width d ≡ length ws
  pub rows : rows_of d n ws ≡ rows_in held

unfoldable pub sections : ℕ → List (Row Total) → List ℕ
sections d rows = section base_bytes (our_bases d rows) ++ section cell_bytes (normal_rows d rows)
