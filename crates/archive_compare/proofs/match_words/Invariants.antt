use mathlib.Core.Path.{◌≡◌}
use mathlib.Core.List.{map}
use Prim.Native.Nat.{ℕ, ◌-◌, ◌≤◌}
use lib.ListN.{length}
use Rattle.fields.specs.Words.{words_bytes}
use Rattle.archive_cells.proofs.Words.{from}
use Rattle.archive_compare.specs.Matched.{Matching}
use Rattle.archive_compare.proofs.match_words.Given as goal

abbrev pub invariant-loop-x : goal.invariant-loop-x
invariant-loop-x g l = (l.at ≤ length l.s) × ((word : g.row.T.Denot → ℕ) → ((x : g.row.T.Denot) (n : ℕ) → g.T.Into.converts x n → n ≡ word x) → Matching (words_bytes (map word l.xs)) (from word l.xs l.x-index) l.s l.start l.at)

abbrev pub decreases-loop-x : goal.decreases-loop-x
decreases-loop-x g l = length l.xs - l.x-index
