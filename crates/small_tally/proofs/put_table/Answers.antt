-- `small_tally::put_table` meets its contract. The invariant: the rows from bit j on are left to write.
use Rattle.small_tally.proofs.Flat.{row-length, rows_none, rows-room, rows_more, rows-done}
use Rattle.small_tally.proofs.Entries.{made-table}
use borrow.Author.Rules.{rules}
use Rattle.small_tally.proofs.put_table.Goals as goal
use native.Mathlib.Omega.{arith}

pub loop-j-init : goal.loop-j-init
loop-j-init c = let a = c.args in rows_none a.dims a.t _ a.out.now c.sets_of-j-end.ensures

pub put_row-at-requires : goal.put_row-at-requires
put_row-at-requires c = search (rules, rows-room c.args.dims c.args.t _ c.loop-j.rest c.loop-j.j c.loop-j.invariant c.loop-j-test.true (omega arith) c.requires.1)

pub overflow_add-at : goal.overflow_add-at
overflow_add-at c =
    let l = c.loop-j in
    search (rules, rows-room c.args.dims c.args.t _ c.loop-j.rest c.loop-j.j c.loop-j.invariant c.loop-j-test.true (omega arith) c.requires.1, row-length c.args.dims l.j)

pub loop-j-preserved : goal.loop-j-preserved
loop-j-preserved c =
    let a = c.args in
    let l = c.loop-j in
    rows_more a.dims a.t _ l.rest l.j l.invariant c.loop-j-test.true (omega arith) c.put_row-at.ensures

pub returns : goal.returns
returns c =
    let a = c.args in
    let l = c.loop-j in
    let w = rows-done a.dims a.t _ l.rest l.j l.invariant c.loop-j-test.false in
    record { wrote = w; rows = made-table a.dims a.t w }
