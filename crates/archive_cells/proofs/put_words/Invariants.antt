use mathlib.Core.Path.{◌≡◌}
use mathlib.Core.List.{map}
use Prim.Native.Nat.{ℕ, ◌*◌, ◌-◌}
use lib.ListN.{length}
use Rattle.fields.specs.Words.{words_bytes}
use Rattle.archive_cells.specs.Writing.{Writing}
use Rattle.archive_cells.proofs.Words.{from}
use Rattle.archive_cells.proofs.put_words.Given as goal

abbrev pub invariant-loop-x : goal.invariant-loop-x
invariant-loop-x g l = (l.at ≡ 4 * l.x-index) × ((word : g.row.T.Denot → ℕ) → ((x : g.row.T.Denot) (n : ℕ) → g.T.Into.converts x n → n ≡ word x) → Writing (words_bytes (map word l.xs)) (from word l.xs l.x-index) l.initial.out l.out l.at)

abbrev pub decreases-loop-x : goal.decreases-loop-x
decreases-loop-x g l = length l.xs - l.x-index
