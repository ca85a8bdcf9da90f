use Prim.Native.Nat.{◌+◌, ◌*◌}
use mathlib.Core.Path.{◌≡◌}
use mathlib.Core.List.{flat_map}
use Rattle.archive_entries.specs.Layout.{cell_bytes}
use Rattle.archive_entries.specs.Reading.{read_archive}
use Rattle.text_lines.specs.Lines.{cell_text}
use Rattle.text_listing.specs.Listing.{held_by}
use Rattle.text_listing.proofs.Fits.{RowFits}
use Rattle.text_listing.proofs.Cuts.{Cut}
use Rattle.text_listing.proofs.put_cells.Given as goal

abbrev pub invariant-loop-bytes : goal.invariant-loop-bytes
invariant-loop-bytes l =
    (l.bytes-iterator.size ≡ 4 * l.dims + 12) × Cut cell_bytes cell_text (RowFits l.dims) l.bytes-iterator.rest.now (flat_map cell_text (held_by (read_archive l.s)).cells) l.initial.out l.out l.done
