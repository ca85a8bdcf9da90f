use Rattle.archive_entries.specs.Layout.{base_bytes}
use Rattle.archive_entries.specs.Reading.{read_archive}
use Rattle.text_lines.specs.Lines.{base_text}
use Rattle.text_listing.specs.Listing.{held_by}
use Rattle.text_listing.proofs.Fits.{BaseFits}
use Rattle.text_listing.proofs.Turns.{Turn}
use Rattle.text_listing.proofs.put_bases.Given as goal

abbrev pub invariant-loop : goal.invariant-loop
invariant-loop l = Turn base_bytes base_text (BaseFits l.dims) l.s (held_by (read_archive l.s)).bases l.initial.out l.out l.counter l.bases l.at l.done
