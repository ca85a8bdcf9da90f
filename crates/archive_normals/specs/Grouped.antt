-- Base rows in a flat list, with the groups that they form under each set.
--
--   Grouped d n ..    n base rows of d codes, and the slots of all sets but the full one
use Rattle.std.specs.Prelude.{ℕ, ◌≤◌, List, length}
use Rattle.lattice.specs.Sets.{full}
use Rattle.rows_crowds.specs.Crowds.{AllHold}
use Rattle.rows_ready.specs.Ready.{Ready}

pub record Grouped (d n : ℕ) (ws store used : List ℕ) : Type 0 where
  pub ready : Ready d n ws
  pub room : 262144 ≤ length store
  pub sets : 256 ≤ length used
  pub slots : AllHold 2 d n ws store used (full d)
