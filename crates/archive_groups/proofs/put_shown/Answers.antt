-- `archive_groups::put_shown` meets its contract. The invariant: the words from dimension d on are left to write.
use mathlib.Core.List.{◌++◌}
use Prim.Native.Nat.{◌+◌, ◌≤◌}
use native.Mathlib.Omega.{arith}
use lib.ListN.{length, length-take, length-drop}
use Rattle.fields.specs.Words.{words_bytes}
use Rattle.archive_cells.specs.Writing.{Writing}
use Rattle.archive_cells.specs.WritingLaws.{writing_none, writing_more, writing_room, writing_done}
use Rattle.archive_groups.specs.Masks.{masked}
use Rattle.archive_groups.proofs.Shown.{shown_from, word_of, shown-length, shown-all, shown_on, shown-none}
use Rattle.archive_groups.proofs.put_shown.Goals as goal
use Rattle.archive_groups.proofs.put_shown.Goals.{In-loop-d}

-- the word of dimension d is next
next : (c : In-loop-d) → let a = c.args in
    let l = c.loop-d in
    Writing (words_bytes (masked a.missing.now a.mine.now)) (word_of a.missing.now a.mine.now l.d ++ shown_from a.missing.now a.mine.now (l.d + 1)) a.out.now l.out l.at
next c =
    let a = c.args in
    rw (shown_on a.missing.now a.mine.now c.loop-d.d c.loop-d-test.true) at c.loop-d.invariant

-- there is room for it
room : (c : In-loop-d) → c.loop-d.at + 4 ≤ length c.loop-d.out
room c =
    let a = c.args in
    writing_room (word_of a.missing.now a.mine.now c.loop-d.d) _ (next c) (omega (arith, shown-length a.missing.now a.mine.now, c.requires.1))

pub loop-d-init : goal.loop-d-init
loop-d-init c =
    let a = c.args in
    rw (shown-all a.missing.now a.mine.now) (writing_none _ _)

pub slice_bounds-put_word-count : goal.slice_bounds-put_word-count
slice_bounds-put_word-count c = omega (arith, room (goal.at.slice_bounds-put_word-count c).In-loop-d)

pub slice_bounds-put_word-start : goal.slice_bounds-put_word-start
slice_bounds-put_word-start c = omega (arith, room (goal.at.slice_bounds-put_word-start c).In-loop-d)

pub put_word-at-requires : goal.put_word-at-requires
put_word-at-requires c = simp (length-take, length-drop) (omega (arith, room (goal.at.put_word-at-requires c).In-loop-d))

pub overflow_add-at : goal.overflow_add-at
overflow_add-at c = omega (arith, room (goal.at.overflow_add-at c).In-loop-d)

pub loop-d-preserved : goal.loop-d-preserved
loop-d-preserved c =
    let a = c.args in
    let l = c.loop-d in
    let word = word_of a.missing.now a.mine.now l.d in
    writing_more word _ (next (goal.at.loop-d-preserved c).In-loop-d) c.put_word-at.ensures

pub returns : goal.returns
returns c =
    let a = c.args in
    writing_done (rw (shown-none a.missing.now a.mine.now c.loop-d-test.false) at c.loop-d.invariant)
