-- How many base rows share the cells of each set.
--
--   Sharing d n ws used    `used` has for each set but the full one how many of n rows of d codes share a cell of it with another
--   Shares p ..               it has them for the base rows that were read, which stand in the front of an array
use Rattle.std.specs.Prelude.{◌≡◌, List, ℕ, ◌*◌, ◌≤◌, ◌<◌, length, get_or, take}
use Rattle.lattice.specs.Sets.{full}
use Rattle.fields_walk.specs.Parsed.{Parsed, stop, got}
use Rattle.rows.specs.Rows.{width, cut}
use Rattle.archive_entries.specs.Layout.{Held}
use Rattle.rows_order.specs.Index.{key}
use Rattle.rows_slots.specs.Slots.{flat, crowds}

pub record Sharing (d n : ℕ) (ws used : List ℕ) : Type 0 where
  pub sets : 256 ≤ length used
  pub rows : (s : ℕ) → s < full d → get_or used s 0 ≡ length (flat (crowds 2 (key s (cut d n ws)) n))

abbrev pub Shares : Parsed Held → List ℕ → List ℕ → Type 0
Shares (stop n) ws used = Unit {0}
Shares (got a rest) ws used = Sharing (length a.sizes) (length a.bases) (take (length a.bases * width (length a.sizes)) ws) used
