-- What stands at a place in an archive's bytes s.
--
--   word_there s at    the word, 0 where the bytes end before it
--   bases_from s at    the base count and the base entries, with the sizes of the header
--   cells_from s at    the normal count and the normal entries, with the header's number of dimensions
use Rattle.std.specs.Prelude.{cond, List, ℕ, ◌+◌, leb, length, drop}
use Rattle.fields.specs.Words.{word_at}
use Rattle.fields_walk.specs.Parsed.{Parsed, and_then}
use Rattle.fields_walk.specs.Fields.{header}
use Rattle.cube.specs.declared.Total.{Total}
use Rattle.cube.specs.Measure.{Row}
use Rattle.archive_entries.specs.Layout.{CUBE, Based}
use Rattle.archive_entries.specs.Reading.{bases, cells}

abbrev pub word_there : List ℕ → ℕ → ℕ
word_there s at = cond (leb (at + 4) (length s)) (word_at s at) 0

unfoldable pub bases_from : List ℕ → ℕ → Parsed (List Based)
bases_from s at = and_then (header CUBE s) (λ zs rest. bases zs (drop at s))

unfoldable pub cells_from : List ℕ → ℕ → Parsed (List (Row Total))
cells_from s at = and_then (header CUBE s) (λ zs rest. cells (length zs) (drop at s))
