-- An archive of edition one with sums and counts alone, as archive_entries has it.
--
--   bare b       a base entry with its sum and count alone
--   bared a      what an archive's fields hold, so: a normal entry's words as its codes, sum and count
--   told rows    rows of sums and counts as edition one tells them, with extremes (C-17: "as converted")
--   mapped f p   f of what was read; a stop stays
use Rattle.std.specs.Prelude.{List, map, ℕ, length}
use Rattle.fields_walk.specs.Parsed.{Parsed, got, and_then}
use Rattle.cube.specs.declared.Total.{Total}
use Rattle.cube.specs.declared.Figures.{Figures}
use Rattle.cube.specs.Measure.{Row, carried}
use Rattle.cube.specs.Extremes.{converts}
use Rattle.rows.specs.Rows.{row_of}
use Rattle.archive_entries.specs.Layout.{Based as BasedSums, Held as HeldSums}
use Rattle.archive_editions.specs.Layout.{Based, Held}

abbrev pub bare : Based → BasedSums
bare b = record { row = carried (λ f. f.sums) b.row; list = b.list }

abbrev pub bared : Held (List ℕ) → HeldSums
bared a = record { sizes = a.header; bases = map bare a.bases; cells = map (row_of (length a.header)) a.cells }

abbrev pub told : List (Row Total) → List (Row Figures)
told rows = map (carried converts) rows

abbrev pub mapped : {A B : Type 0} → (A → B) → Parsed A → Parsed B
mapped f p = and_then p (λ x rest. got (f x) rest)
