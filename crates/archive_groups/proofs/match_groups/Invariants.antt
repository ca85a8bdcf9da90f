use Rattle.rows.specs.Slices.{codes, totals}
use Rattle.rows_order.specs.Index.{key}
use Rattle.rows_runs.proofs.Totals.{Room}
use Rattle.rows_slots.proofs.Summing.{rows_from}
use Rattle.archive_compare.specs.Matched.{Matching}
use Rattle.archive_groups.specs.Groups.{group_bytes}
use Rattle.archive_groups.proofs.Left.{left}
use Rattle.archive_groups.proofs.match_groups.Given as goal

abbrev pub invariant-loop-e : goal.invariant-loop-e
invariant-loop-e l =
    Room l.total (rows_from (totals l.rows) (key l.set (codes l.rows)) l.slot l.e-index)
    × Matching (group_bytes (totals l.rows) (key l.set (codes l.rows)) l.slot) (left (totals l.rows) (key l.set (codes l.rows)) l.slot l.total l.e-index) l.s l.start l.at
