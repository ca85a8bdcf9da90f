-- `archive_cells::put_header` meets its contract: the opening, then the sizes as a list.
use native.Mathlib.Omega.{arith}
use Rattle.fields.specs.WrittenLaws.{wrote_then}
use Rattle.archive_cells.specs.ListBytes.{list_is, list_length}
use Rattle.archive_cells.proofs.put_header.Goals as goal

pub overflow_add-result : goal.overflow_add-result
overflow_add-result c = omega (arith, list_length c.args.sizes.now)

pub returns : goal.returns
returns c = rw (list_is c.args.sizes.now) at (wrote_then c.put_opening-at.ensures c.put_list.ensures)
