-- `small_tables::main` meets its contract: the array has room for the lines, and what was written of it is printed.
use mathlib.Core.Path.{sym}
use native.Mathlib.Omega.{arith}
use lib.Seq.{length-take-le}
use Rattle.fields.specs.WrittenLaws.{wrote_within}
use Rattle.small_tally.proofs.Examples.{report-size}
use Rattle.small_tables.proofs.main.Goals as goal

pub put_report-done-requires : goal.put_report-done-requires
put_report-done-requires c = omega (arith, report-size)

pub slice_bounds-out-end : goal.slice_bounds-out-end
slice_bounds-out-end c = wrote_within c.put_report-done.ensures

pub slice_bounds-write_all-end : goal.slice_bounds-write_all-end
slice_bounds-write_all-end c = sym (length-take-le _ _ (wrote_within c.put_report-done.ensures))
