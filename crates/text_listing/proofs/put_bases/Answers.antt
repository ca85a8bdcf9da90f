-- `text_listing::put_bases` meets its contract: the base entries that are left stand from the place on, and all lines but theirs are written.
use mathlib.Core.List.{List}
use Prim.Native.Nat.{ℕ, ◌+◌, ◌*◌, ◌≤◌}
use native.Mathlib.Omega.{arith}
use borrow.Author.Rules.{rules}
use lib.ListN.{length, length-take, length-drop}
use Rattle.fields_walk.specs.Limits.{Bytes}
use Rattle.fields_walk.proofs.Limits.{bytes_of}
use Rattle.archive_entries.specs.Layout.{base_bytes}
use Rattle.archive_entries.specs.Places.{base_there, width_there}
use Rattle.text_lines.specs.Lines.{base_text}
use Rattle.text_listing.proofs.Fits.{BaseFits}
use Rattle.text_listing.proofs.Read.{base_reads}
use Rattle.text_listing.proofs.Turns.{turn-done, thing_whole, thing_room, turn_on}
use Rattle.text_listing.proofs.Places.{bases-start, whole}
use Rattle.text_listing.proofs.put_bases.Goals as goal
use Rattle.text_listing.proofs.put_bases.Goals.{In-loop}

-- the entries are within the bytes
are-bytes : (c : goal.After-shared_slice_known-1) → Bytes c.args.s.now
are-bytes c = bytes_of c.args.s.now (λ i. omega (arith, c.type_inv.s i))

long : (c : goal.After-shared_slice_known-1) → 20 + 4 * c.args.dims ≤ length c.args.s.now
long c = omega (arith, whole (are-bytes c) c.requires.by_index.1)

-- the entry at the place is within the bytes, and there is room for its line
module _ (c : goal.In-loop) where
  abbrev bytes : List ℕ
  bytes = c.args.s.now

  abbrev d : ℕ
  d = c.args.dims

  entry : c.loop.at + width_there bytes d c.loop.at ≤ length bytes
  entry = thing_whole base_bytes base_text (BaseFits d) (λ s. base_there s d) (λ s. width_there s d) (base_reads d) c.loop.invariant c.loop-test.true

  room : c.loop.done + length (base_text (base_there bytes d c.loop.at)) ≤ length c.loop.out
  room = thing_room base_bytes base_text (BaseFits d) (λ s. base_there s d) (λ s. width_there s d) (base_reads d) c.loop.invariant c.loop-test.true c.requires.s_in_bounds

pub overflow_mul-at : goal.overflow_mul-at
overflow_mul-at c = search (rules, long c)

pub overflow_add-at : goal.overflow_add-at
overflow_add-at c = search (rules, long c)

pub loop-init : goal.loop-init
loop-init c = bases-start (are-bytes c) c.requires.by_index.1 c.args.out.now

pub slice_bounds-put_base-count : goal.slice_bounds-put_base-count
slice_bounds-put_base-count c = search (rules, room c)

pub slice_bounds-put_base-start : goal.slice_bounds-put_base-start
slice_bounds-put_base-start c = search (rules, room c)

pub put_base-done-requires : goal.put_base-done-requires
put_base-done-requires c = record { at_in_bounds = entry (goal.at.put_base-done-requires c).In-loop; at_in_bounds_2 = simp (length-take, length-drop) (omega (arith, room (goal.at.put_base-done-requires c).In-loop)) }

pub overflow_add-done : goal.overflow_add-done
overflow_add-done c = search (rules, room (goal.at.overflow_add-done c).In-loop)

pub overflow_mul-dims : goal.overflow_mul-dims
overflow_mul-dims c = search (rules, entry (goal.at.overflow_mul-dims c).In-loop)

pub overflow_add-at-in-loop : goal.overflow_add-at-in-loop
overflow_add-at-in-loop c = search (rules, entry (goal.at.overflow_add-at-in-loop c).In-loop)

pub overflow_add-at-in-loop-2 : goal.overflow_add-at-in-loop-2
overflow_add-at-in-loop-2 c = search (rules, entry (goal.at.overflow_add-at-in-loop-2 c).In-loop)

pub word_at-sets-requires : goal.word_at-sets-requires
word_at-sets-requires c = search (rules, entry (goal.at.word_at-sets-requires c).In-loop)

pub overflow_mul-at-in-loop : goal.overflow_mul-at-in-loop
overflow_mul-at-in-loop c = search (rules, entry (goal.at.overflow_mul-at-in-loop c).In-loop)

pub overflow_add-at-in-loop-3 : goal.overflow_add-at-in-loop-3
overflow_add-at-in-loop-3 c = search (rules, entry (goal.at.overflow_add-at-in-loop-3 c).In-loop)

pub overflow_mul-at-in-loop-2 : goal.overflow_mul-at-in-loop-2
overflow_mul-at-in-loop-2 c = search (rules, entry (goal.at.overflow_mul-at-in-loop-2 c).In-loop)

pub overflow_add-at-in-loop-4 : goal.overflow_add-at-in-loop-4
overflow_add-at-in-loop-4 c = search (rules, entry (goal.at.overflow_add-at-in-loop-4 c).In-loop)

pub overflow_add-at-in-loop-5 : goal.overflow_add-at-in-loop-5
overflow_add-at-in-loop-5 c = search (rules, entry (goal.at.overflow_add-at-in-loop-5 c).In-loop)

pub loop-preserved : goal.loop-preserved
loop-preserved c =
    let l = c.loop in
    let d = c.args.dims in
    turn_on base_bytes base_text (BaseFits d) (λ s. base_there s d) (λ s. width_there s d) (base_reads d) l.invariant c.loop-test.true
    c.put_base-done.ensures (omega (arith, c.word_at-sets.ensures))

pub shape_of-out : goal.shape_of-out
shape_of-out c = c.loop.invariant.writing.wrote.same

pub returns : goal.returns
returns c = turn-done base_bytes base_text (BaseFits _) c.loop.invariant c.loop-test.false
