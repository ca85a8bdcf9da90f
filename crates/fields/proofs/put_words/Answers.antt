-- `fields::put_words` meets its contract. The invariant: the words passed so far are written. Each turn lends the rest.
use borrow.Author.Rules.{rules}
use Prim.Native.Nat.{◌+◌, ◌≤◌}
use native.Mathlib.Omega.{arith}
use lib.ListN.{length, length-take, length-drop}
use Rattle.fields.specs.Words.{words_bytes}
use Rattle.fields.specs.WordsLaws.{words_bytes_room, words_bytes_snoc}
use Rattle.fields.specs.WrittenLaws.{wrote_none, wrote_then}
use Rattle.fields.proofs.put_words.Goals as goal
use Rattle.fields.proofs.put_words.Goals.{In-loop-w}

-- there is room for one more word
room : (c : goal.In-loop-w) → c.loop-w.at + 4 ≤ length c.loop-w.out
room c = omega (arith, words_bytes_room c.args.ws.now c.loop-w.w-index c.loop-w-test.true)

pub loop-w-init : goal.loop-w-init
unfolding words_bytes
loop-w-init c = wrote_none _

pub slice_bounds-put_word-count : goal.slice_bounds-put_word-count
slice_bounds-put_word-count c = omega (arith, room c)

pub slice_bounds-put_word-start : goal.slice_bounds-put_word-start
slice_bounds-put_word-start c = omega (arith, room c)

pub put_word-at-requires : goal.put_word-at-requires
put_word-at-requires c = simp (length-take, length-drop) (omega (arith, room (goal.at.put_word-at-requires c).In-loop-w))

pub overflow_add-at : goal.overflow_add-at
overflow_add-at c = omega (arith, room (goal.at.overflow_add-at c).In-loop-w)

pub loop-w-preserved : goal.loop-w-preserved
loop-w-preserved c =
    let l = c.loop-w in
    rw (words_bytes_snoc c.args.ws.now l.w-index (search rules)) (wrote_then l.invariant c.put_word-at.ensures)
