-- Cuboids as bytes (document 01: "A listed cuboid is a count, then cells in the shape of normal entries, by codes. An expansion is all cuboids in lattice order, each listed so").
--
--   cuboid_bytes d rows s      the listed cuboid of set s: the cells of the set that exist
--   expansion_bytes d rows     the expansion: every set of d dimensions
--   read_cuboid d              a listed cuboid read: its cells
--   read_expansion d           an expansion read: the cells of each set
use mathlib.Core.List.{List, flat_map}
use Rattle.std.specs.Prelude.{ℕ, ◌^◌}
use Rattle.lattice.specs.Sets.{sets}
use Rattle.cube.specs.declared.Total.{Total}
use Rattle.cube.specs.Measure.{Row, sums}
use Rattle.cube.specs.Codes.{plain}
use Rattle.cube.specs.Cube.{cells}
use Rattle.fields_walk.specs.Parsed.{Parsed, many}
use Rattle.archive_entries.specs.Layout.{cell_bytes, section}
use Rattle.archive_entries.specs.Reading.{cells as cellsRead}

unfoldable pub cuboid_bytes : ℕ → List (Row Total) → ℕ → List ℕ
cuboid_bytes d rows s = section cell_bytes (cells (plain d) sums rows s)

unfoldable pub expansion_bytes : ℕ → List (Row Total) → List ℕ
expansion_bytes d rows = flat_map (cuboid_bytes d rows) (sets d)

abbrev pub read_cuboid : ℕ → List ℕ → Parsed (List (Row Total))
read_cuboid d = cellsRead d

abbrev pub read_expansion : ℕ → List ℕ → Parsed (List (List (Row Total)))
read_expansion d = many (2 ^ d) (read_cuboid d)
