-- `small_tally::put_line` meets its contract: the tallies go over the front of an array.
use mathlib.Core.Path.{◌≡◌, sym, ◌∙◌}
use Prim.Native.Nat.{suc, ◌+◌, ◌*◌, ◌≤◌}
use native.Mathlib.Omega.{arith}
use lib.Seq.{length-take-le}
use Rattle.small_model.specs.Tally.{most_entries}
use Rattle.small_tally.proofs.Tallies.{most-fits, zeros_front}
use Rattle.small_tally.proofs.put_line.Goals as goal
use Rattle.small_tally.proofs.put_line.Goals.{After-sets_of-rows}

-- how many rows a table can have, and how many tallies there are
sized : (c : goal.After-sets_of-rows) → let m = c.sets_of-rows.result in (m ≤ 8) × (m * m ≤ 64) × (m + m * m + 1 ≡ suc (most_entries c.args.dims))
sized c = most-fits c.requires.0 c.sets_of-rows.ensures

pub slice_bounds-tallies-end : goal.slice_bounds-tallies-end
slice_bounds-tallies-end c = let s = sized (goal.at.slice_bounds-tallies-end c).After-sets_of-rows in omega (arith, s.0, s.1)

pub slice_bounds-put_tallied-end : goal.slice_bounds-put_tallied-end
slice_bounds-put_tallied-end c = let s = sized (goal.at.slice_bounds-put_tallied-end c).After-sets_of-rows in sym (length-take-le _ _ (omega (arith, s.0, s.1)))

pub put_tallied-requires : goal.put_tallied-requires
put_tallied-requires c =
    let p = c.requires in
    let m = c.sets_of-rows.result in
    let s = sized (goal.at.put_tallied-requires c).After-sets_of-rows in
    record { dims_bound = (p.0, length-take-le (m + m * m + 1) _ (omega (arith, s.0, s.1)) ∙ s.2, zeros_front (m + m * m + 1) 73); dims_in_bounds = p.1 }
