-- `rows_merge::readings_in` meets its contract: the readings of the rows that are done, and of those from a row on, are all of them.
use mathlib.Core.Path.{◌≡◌}
use Prim.Native.Nat.{ℕ, ◌+◌, ◌≤◌, ◌<◌}
use native.Mathlib.Numerals.{add-one}
use native.Mathlib.Omega.{arith}
use lib.ListN.{drop, drop_of_length-le}
use lib.Seq.{drop-cons}
use borrow.Author.Rules.{rules}
use Rattle.cube.specs.Bounds.{count_of}
use Rattle.rows.specs.declared.RowSlice.{RowSlice}
use Rattle.rows.specs.Rows.{row_total}
use Rattle.rows.specs.Slices.{held, totals}
use Rattle.rows.proofs.Flat.{blank, rows-length}
use Rattle.rows_merge.proofs.readings_in.Goals as goal
use Rattle.rows_merge.proofs.readings_in.Goals.{After-total_at-all}

-- the readings of a row, and of the rows behind it
count_next : (s : RowSlice) (i : ℕ) → i < s.n → count_of (drop i (held s)) ≡ (totals s i).count + count_of (drop (i + 1) (held s))
unfolding row_total
count_next s i h = rw (add-one, drop-cons (held s) i blank (rw (rows-length s.dims s.n s.words.now) h))

count_none : (s : RowSlice) (i : ℕ) → s.n ≤ i → count_of (drop i (held s)) ≡ 0
count_none s i h = rw (drop_of_length-le (held s) {i = i} (rw (rows-length s.dims s.n s.words.now) h))

-- one row more
more : (c : After-total_at-all) → c.loop-row.all + c.total_at-all.result.count + count_of (drop (c.loop-row.row + 1) (held c.args.rows.now)) ≡ count_of (held c.args.rows.now)
more c =
    let s = c.args.rows.now in
    let l = c.loop-row in
    rw c.total_at-all.ensures (omega (arith, count_next s l.row c.loop-row-test.true, l.invariant.1))

pub loop-row-init : goal.loop-row-init
loop-row-init c = (omega arith, omega arith)

pub overflow_add-all : goal.overflow_add-all
overflow_add-all c = omega (arith, more (goal.at.overflow_add-all c).After-total_at-all, c.requires)

pub loop-row-preserved : goal.loop-row-preserved
loop-row-preserved c = (search rules, more (goal.at.loop-row-preserved c).After-total_at-all)

pub returns : goal.returns
returns c =
    let l = c.loop-row in
    omega (arith, count_none c.args.rows.now l.row c.loop-row-test.false, l.invariant.1)
