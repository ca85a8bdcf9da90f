-- Base rows in a flat list, with the groups that they form under each set, groups of one row too.
--
--   Slotted d n ..         n base rows of d codes, and the slots of all sets
--   cell_count n s slot     how many cells set s has, by its slot: one for each group, and that of an empty table
use Rattle.std.specs.Prelude.{List, ℕ, zero, suc, ◌^◌, ◌≤◌, length}
use Rattle.rows_crowds.specs.Crowds.{AllHold, ends}
use Rattle.rows_ready.specs.Ready.{Ready}

pub record Slotted (d n : ℕ) (ws store used : List ℕ) : Type 0 where
  pub ready : Ready d n ws
  pub room : 262144 ≤ length store
  pub sets : 256 ≤ length used
  pub slots : AllHold 1 d n ws store used (2 ^ d)

abbrev pub cell_count : ℕ → ℕ → List ℕ → ℕ
cell_count zero zero slot = 1
cell_count zero (suc s) slot = 0
cell_count (suc n) s slot = ends slot
