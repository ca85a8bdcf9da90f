-- Base rows in a flat list, as they are filed.
--
--   Store zs n ws   n base rows within the limits of an archive of sizes zs
use Rattle.std.specs.Prelude.{List, ℕ, length}
use Rattle.rows.specs.Rows.{rows_of}
use Rattle.archive_entries.specs.Layout.{Limits}
use Rattle.rows_ready.specs.Ready.{Ready}

pub record Store (zs : List ℕ) (n : ℕ) (ws : List ℕ) : Type 0 where
  pub ready : Ready (length zs) n ws
  pub limits : Limits zs (rows_of (length zs) n ws)
