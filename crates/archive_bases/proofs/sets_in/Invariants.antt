use mathlib.Core.Path.{◌≡◌}
use Prim.Native.Nat.{◌+◌, ◌*◌, ◌≤◌}
use lib.ListN.{length, drop}
use Rattle.rows.specs.Slices.{held}
use Rattle.archive_entries.specs.Layout.{sets_in}
use Rattle.archive_bases.specs.Listed.{our_bases}
use Rattle.archive_bases.proofs.sets_in.Given as goal

abbrev pub invariant-loop-list : goal.invariant-loop-list
invariant-loop-list l =
    (l.list-iterator.iter.size ≡ 71) × (length l.yielded + l.list-iterator.n ≡ l.rows.n) × (drop (length l.yielded * 71) l.lists ≡ l.list-iterator.iter.rest.now)
    × (l.all ≤ 70 * length l.yielded) × (l.all + sets_in (drop (length l.yielded) (our_bases l.rows.dims (held l.rows))) ≡ sets_in (our_bases l.rows.dims (held l.rows)))
