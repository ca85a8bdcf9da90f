use mathlib.Core.Path.{◌≡◌}
use mathlib.Core.List.{map}
use lib.ListN.{length, take}
use Rattle.rows.specs.Rows.{rows_of}
use Rattle.call_fee.specs.Fees.{count_in}
use Rattle.call_fee.proofs.copy_counts.Given as goal

abbrev pub invariant-loop-i : goal.invariant-loop-i
invariant-loop-i l = (length l.count-items ≡ l.rows.n) × (take l.i l.count-items ≡ map count_in (rows_of l.rows.dims l.i l.rows.words.now))
