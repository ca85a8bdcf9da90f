-- `archive_entries::check_entries` meets its contract: what is read from the present place on, behind the codes of the entry before and with the total so far,
-- ends as what is read from the start.
use mathlib.Core.List.{List}
use Prim.Native.Nat.{ℕ}
use native.Mathlib.Omega.{arith}
use native.Mathlib.Nat.{sub-zero}
use borrow.Author.Rules.{rules}
use lib.ListN.{length, drop}
use Rattle.std.specs.Prelude.{Ok}
use Rattle.stops.proofs.Handed.{handed}
use Rattle.fields_walk.specs.Walked.{Says}
use Rattle.fields_walk.proofs.Loops.{follows_self}
use Rattle.archive_entries.specs.Places.{codes_before}
use Rattle.archive_entries.specs.Reading.{entry}
use Rattle.archive_entries.proofs.Entry.{Entry, entry_read}
use Rattle.archive_entries.proofs.Entries.{entries_on, entries-off, entries-done}
use Rattle.archive_entries.proofs.check_entries.Goals as goal
use Rattle.archive_entries.proofs.check_entries.Goals.{In_ok-next}

-- the entry that was passed is there, and its count is within the bound
module _ (c : goal.In_ok-next) where
  abbrev s : List ℕ
  s = c.args.s.now

  abbrev zs : List ℕ
  zs = c.args.sizes.now

  abbrev before : List ℕ
  before = codes_before s (length zs) c.loop.before

  abbrev total : ℕ
  total = c.loop.total

  abbrev at : ℕ
  at = c.loop.at

  read : Says s (entry zs before total (drop at s)) (Ok c.in_ok-next.next)
  read = c.in_ok-next.ensures.says

  there : Entry s (length zs) total at read.0.row (drop c.in_ok-next.next s)
  there = entry_read s zs before total at c.loop.invariant.1 read.1

pub loop-init : goal.loop-init
loop-init c = (omega arith, omega arith, simp sub-zero (follows_self _ _), omega arith, tt)

pub check_entry-requires : goal.check_entry-requires
check_entry-requires c = record { in_bounds = (search rules, search rules, search rules, search rules); before_in_bounds = c.loop.invariant.4 }

pub returns-in_err-next : goal.returns-in_err-next
returns-in_err-next c =
    let l = c.loop in
    let a = c.args in
    rw (handed c.from_residual.result c.from_residual.ensures.1)
    (record { says = entries-off a.sizes.now (codes_before a.s.now (length a.sizes.now) l.before) l.total l.at l.counter a.count l.invariant.2 (search rules) c.in_err-next.ensures.says })

pub overflow_mul-sizes : goal.overflow_mul-sizes
overflow_mul-sizes c = omega (arith, (there c).whole)

pub overflow_add-at-in-loop : goal.overflow_add-at-in-loop
overflow_add-at-in-loop c = omega (arith, (there c).whole)

pub overflow_add-at : goal.overflow_add-at
overflow_add-at c = omega (arith, (there c).whole)

pub word_at-total-requires : goal.word_at-total-requires
word_at-total-requires c = omega (arith, (there c).whole)

pub overflow_add-total : goal.overflow_add-total
overflow_add-total c = omega (arith, (there (goal.at.overflow_add-total c).In_ok-next).few, c.word_at-total.ensures)

pub loop-preserved : goal.loop-preserved
loop-preserved c =
    let l = c.loop in
    let a = c.args in
    let g = (goal.at.loop-preserved c).In_ok-next in (
      omega arith,
      (read g).2,
      entries_on (zs g) (before g) (total g) (at g) l.counter a.count l.invariant.2 (omega arith) l.invariant.1 (read g).1 c.word_at-total.ensures,
      omega (arith, (there g).few, c.word_at-total.ensures),
      omega (arith, (there g).whole),
    )

pub returns : goal.returns
returns c =
    let l = c.loop in
    let a = c.args in
    record { says = entries-done a.sizes.now (codes_before a.s.now (length a.sizes.now) l.before) l.total l.at l.counter a.count l.invariant.2 (search rules) l.invariant.1 }
