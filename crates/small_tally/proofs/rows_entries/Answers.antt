-- `small_tally::rows_entries` meets its contract: the rows are condensed, and their normal entries counted.
use native.Mathlib.Omega.{arith}
use Rattle.small_tally.proofs.Entries.{normals_fit}
use Rattle.small_tally.proofs.rows_entries.Goals as goal

pub overflow_add-result : goal.overflow_add-result
overflow_add-result c =
    let r = c.args.rows.now in
    let p = c.requires in
    omega (arith, c.condense_rows-normals.ensures.value, normals_fit r.dims r.n r.words.now p.0 p.1, p.1)
