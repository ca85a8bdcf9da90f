-- `archive_groups::put_group` meets its contract: three sections one straight after the other.
use mathlib.Core.Path.{◌≡◌, ◌∙◌}
use mathlib.Core.List.{append_assoc}
use Prim.Native.Nat.{◌*◌}
use native.Mathlib.Omega.{arith}
use lib.ListN.{length, length-take, length-drop}
use mir.Syntax.{w64}
use mir.Facts.{to_z-of_z}
use Rattle.fields.specs.WrittenLaws.{wrote_then}
use Rattle.archive_entries.specs.Layout.{cell_bytes}
use Rattle.archive_groups.proofs.Shown.{shown-length}
use borrow.Author.Rules.{rules}
use Rattle.archive_groups.proofs.put_group.Goals as goal
use Rattle.archive_groups.proofs.put_group.Goals.{After-put_shown-at}

-- how many bytes the codes take
codes : (c : goal.After-put_shown-at) → c.put_shown-at.result ≡ 4 * length c.args.mine.now
codes c = let a = c.args in c.put_shown-at.ensures.count ∙ shown-length a.missing.now a.mine.now

pub slice_bounds-put_sum-count : goal.slice_bounds-put_sum-count
slice_bounds-put_sum-count c = omega (arith, codes (goal.at.slice_bounds-put_sum-count c).After-put_shown-at, c.requires.1)

pub slice_bounds-put_sum-start : goal.slice_bounds-put_sum-start
slice_bounds-put_sum-start c = omega (arith, codes (goal.at.slice_bounds-put_sum-start c).After-put_shown-at, c.requires.1)

pub put_sum-at-requires : goal.put_sum-at-requires
put_sum-at-requires c = simp (length-take, length-drop) (omega (arith, codes (goal.at.put_sum-at-requires c).After-put_shown-at, c.requires.1))

pub overflow_add-at : goal.overflow_add-at
overflow_add-at c = omega (arith, codes (goal.at.overflow_add-at c).After-put_shown-at)

pub slice_bounds-put_word-count : goal.slice_bounds-put_word-count
slice_bounds-put_word-count c = omega (arith, codes (goal.at.slice_bounds-put_word-count c).After-put_shown-at)

pub slice_bounds-put_word-start : goal.slice_bounds-put_word-start
slice_bounds-put_word-start c = omega (arith, codes (goal.at.slice_bounds-put_word-start c).After-put_shown-at)

pub put_word-requires : goal.put_word-requires
put_word-requires c = simp (length-take, length-drop) (omega (arith, codes (goal.at.put_word-requires c).After-put_shown-at))

pub overflow_add-result : goal.overflow_add-result
overflow_add-result c = omega (arith, codes (goal.at.overflow_add-result c).After-put_shown-at)

pub returns : goal.returns
unfolding cell_bytes
returns c =
    let sum = to_z-of_z {w = w64} {z = c.args.total.sum} (search rules) in
    rw (sum, append_assoc) at
    (wrote_then (wrote_then c.put_shown-at.ensures c.put_sum-at.ensures) c.put_word.ensures)
