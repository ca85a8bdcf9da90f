-- Two flat lists of base rows, and the pass that merges them into a store of so many rows.
--
--   Pair ..             two lists of n and m base rows, of d codes each, whose counts are not too many together
--   Passed .. i j done  the pass has made the rows `done` of the first i rows of one list and the first j of the other
--   Collected room rows d r ws  a store for `room` rows has all of them, r of them; or r is none, and they are more than `room`
use Rattle.std.specs.Prelude.{◌≡◌, List, ℕ, ◌+◌, ◌≤◌, ◌<◌, length, drop, Option, Some, None}
use Rattle.cube.specs.declared.Total.{Total}
use Rattle.cube.specs.Measure.{Row, sums}
use Rattle.cube.specs.Bounds.{most, count_of}
use Rattle.rows.specs.Rows.{rows_of}
use Rattle.rows_ready.specs.Ready.{Ready}
use Rattle.rows_merge.specs.United.{Merging}

module _ (d n : ℕ) (ws : List ℕ) (m : ℕ) (ws' : List ℕ) where
  abbrev first : List (Row Total)
  first = rows_of d n ws

  abbrev second : List (Row Total)
  second = rows_of d m ws'

  pub record Pair : Type 0 where
    pub one : Ready d n ws
    pub other : Ready d m ws'
    pub few : count_of first + count_of second ≤ most

  pub record Passed (i j : ℕ) (done : List (Row Total)) : Type 0 where
    pub of_one : i ≤ n
    pub of_other : j ≤ m
    pub merging : Merging sums first second done (drop i first) (drop j second)

abbrev pub Collected : ℕ → List (Row Total) → ℕ → Option ℕ → List ℕ → Type 0
Collected room rows d (Some n) ws = (n ≤ room) × (rows_of d n ws ≡ rows)
Collected room rows d None ws = room < length rows
