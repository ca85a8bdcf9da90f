-- An archive as text (document 01: "First line: D, base count, normal count. Then for each entry .."): the first line, a line for each base entry, a line for each normal entry.
--
--   listing a            the text of an archive that holds a
--   held_by p             what an archive holds that was read; nothing if it was refused
--   Accepted s d n m     the archive s is accepted, and has d dimensions, n base entries and m normal entries
use Rattle.std.specs.Prelude.{◌≡◌, ℕ, length}
use mathlib.Core.List.{List, [], ◌++◌, flat_map}
use Rattle.fields_walk.specs.Parsed.{Parsed, stop, got}
use Rattle.archive_entries.specs.Layout.{Held}
use Rattle.archive_entries.specs.Reading.{read_archive}
use Rattle.text_lines.specs.Lines.{head_text, base_text, cell_text}

unfoldable pub listing : Held → List ℕ
listing a = head_text (length a.sizes) (length a.bases) (length a.cells) ++ (flat_map base_text a.bases ++ flat_map cell_text a.cells)

abbrev pub held_by : Parsed Held → Held
held_by (stop n) = record { sizes = []; bases = []; cells = [] }
held_by (got a rest) = a

pub record Accepted (s : List ℕ) (d n m : ℕ) : Type 0 where
  pub held : Held
  pub rest : List ℕ
  pub read : read_archive s ≡ got held rest
  pub dims : d ≡ length held.sizes
  pub bases : n ≡ length held.bases
  pub cells : m ≡ length held.cells
