use Prim.Native.Nat.{◌+◌, ◌-◌, ◌≤◌}
use Rattle.rows.specs.Rows.{rows_of}
use Rattle.rows_merge.specs.Pass.{Passed}
use Rattle.rows_merge.proofs.merge_rows.Given as goal

abbrev pub invariant-loop-done : goal.invariant-loop-done
invariant-loop-done l =
    let r = l.first in
    let q = l.second in
    (l.k ≤ 1024) × Passed r.dims r.n r.words.now q.n q.words.now l.done.first l.done.second (rows_of r.dims l.k l.rows)

abbrev pub decreases-loop-done : goal.decreases-loop-done
decreases-loop-done l = l.first.n + l.second.n - (l.done.first + l.done.second)
