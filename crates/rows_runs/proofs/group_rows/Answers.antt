-- `rows_runs::group_rows` meets its contract: the groups that are written, and those of the runs that are left, are all groups.
use mathlib.Core.Path.{ap}
use mathlib.Core.List.{append-nil}
use native.Mathlib.Omega.{arith}
use borrow.Author.Rules.{rules}
use Rattle.cube.specs.Codes.{cell}
use Rattle.rows.specs.Rows.{rows_of}
use Rattle.rows.specs.Slices.{codes, totals}
use Rattle.rows_order.specs.Index.{key}
use Rattle.rows_runs.proofs.Indexed.{indexed_below, indexed_summed}
use Rattle.rows_order.proofs.Columns.{table-valid}
use Rattle.rows_runs.proofs.Gathered.{gather_more, gather_done, gather_all}
use Rattle.rows_runs.proofs.group_rows.Goals as goal

pub order_rows-requires : goal.order_rows-requires
order_rows-requires c =
    let r = c.args.rows.now in
    (search rules, c.requires.dims_value.1, table-valid r.dims r.n r.words.now c.requires.table.0)

pub loop-from-init : goal.loop-from-init
unfolding rows_of
loop-from-init c = (search rules, search rules, search rules, gather_all c.order_rows.ensures c.requires.table.0)

pub codes_at-mine-requires : goal.codes_at-mine-requires
codes_at-mine-requires c = indexed_below c.order_rows.ensures c.loop-from.from c.loop-from-test.true

pub total_run-total-requires : goal.total_run-total-requires
total_run-total-requires c =
    let x = c.order_rows.ensures in
    indexed_summed x c.requires.table.1 _ _ (omega (arith, c.run_end-end.ensures.within, x.places))

pub loop-from-preserved : goal.loop-from-preserved
unfolding key
loop-from-preserved c =
    let a = c.args in
    let l = c.loop-from in
    let e = c.run_end-end.ensures in
    let mine = c.codes_at-mine.ensures in (
      omega (arith, e.after, l.invariant.0),
      omega (arith, e.within, c.order_rows.ensures.places),
      search rules,
      gather_more (totals a.rows.now) (key a.set (codes a.rows.now))
          (rows_of a.rows.now.dims l.k l.cells) e (rw mine.1 at c.put_row.ensures) (ap (cell a.set) mine.0) c.total_run-total.ensures l.invariant.3,
    )

pub returns-clause-cells_after : goal.returns-clause-cells_after
returns-clause-cells_after c =
    let l = c.loop-from in
    rw (gather_done c.order_rows.ensures l.from c.loop-from-test.false, append-nil) at l.invariant.3
