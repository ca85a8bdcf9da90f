-- `rows_alone::add_rows`: the rows so far are in the set of rows.
use mathlib.Core.Path.{◌≡◌}
use lib.ListN.{length}
use Rattle.rows_alone.proofs.Words.{Adding}
use Rattle.rows_alone.proofs.add_rows.Given as goal

abbrev pub invariant-loop-row : goal.invariant-loop-row
invariant-loop-row l = (length l.words ≡ 32) × Adding l.rows l.initial.words l.words l.row-index
