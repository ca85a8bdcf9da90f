-- The one rule of demand 3: an entry stands for a cell other than its own only if it is a base row and no other base row falls in that cell.
--
--   Alone d rows f x   cell x is the entry's own, where f is a normal entry; its row alone falls in x, where f is a base entry
use Rattle.std.specs.Prelude.{◌≡◌, List, [], ◌∷◌, ℕ}
use Rattle.cube.specs.declared.Total.{Total}
use Rattle.cube.specs.Measure.{Row, codes_of}
use Rattle.cube.specs.Codes.{plain}
use Rattle.cube.specs.Cube.{within}
use Rattle.cube.specs.Condensed.{Entry, base, normal}

abbrev pub Alone : ℕ → List (Row Total) → Entry Total → List ℕ → Type 0
Alone d rows (normal r) x = x ≡ r.codes
Alone d rows (base r l) x = within (plain d) (codes_of rows) x ≡ r.codes ∷ []
