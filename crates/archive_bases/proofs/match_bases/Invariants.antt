use mathlib.Core.List.{flat_map}
use lib.ListN.{drop}
use Rattle.rows.specs.Slices.{held}
use Rattle.archive_entries.specs.Layout.{base_bytes}
use Rattle.archive_compare.specs.Matched.{Matching}
use Rattle.archive_bases.specs.Listed.{our_bases}
use Rattle.archive_bases.proofs.match_bases.Given as goal

abbrev pub invariant-loop-row : goal.invariant-loop-row
invariant-loop-row l =
    Matching (flat_map base_bytes (our_bases l.rows.dims (held l.rows))) (flat_map base_bytes (drop l.row (our_bases l.rows.dims (held l.rows)))) l.s l.start l.at
