use mathlib.Core.Path.{◌≡◌}
use lib.Seq.{slice}
use Rattle.rows.specs.Slices.{totals}
use Rattle.rows_runs.specs.Totals.{amounts_at, run_total}
use Rattle.rows_runs.proofs.Totals.{total_from, Room}
use Rattle.rows_runs.proofs.total_run.Given as goal

abbrev pub invariant-loop-k : goal.invariant-loop-k
invariant-loop-k l =
    (total_from l.total (amounts_at (totals l.rows) (slice l.k l.end l.index)) ≡ run_total (totals l.rows) (slice l.from l.end l.index))
    × Room l.total (amounts_at (totals l.rows) (slice l.k l.end l.index))
