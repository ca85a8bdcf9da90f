-- The groups of a slot with their totals.
--
--   plus_row t i          a running total with row i more
--   summed t l           the cells of the groups of a slot l, each with its total; t is the total of the rows before them in the first group
use Rattle.std.specs.Prelude.{List, [], ◌∷◌, ℕ, zero, suc}
use Rattle.cube.specs.declared.Total.{Total}
use Rattle.cube.specs.Measure.{Row, nothing, plus}
use Rattle.rows_slots.specs.Slots.{row_in, end_in}

-- a group's row in front of the groups behind it where the group ends, and otherwise the groups from here
abbrev pub closed : ℕ → Row Total → List (Row Total) → List (Row Total) → List (Row Total)
closed zero r behind here = here
closed (suc k) r behind here = r ∷ behind

module _ (totals : ℕ → Total) where
  abbrev pub plus_row : Total → ℕ → Total
  plus_row t i = plus t (totals i)

  module _ (key : ℕ → List ℕ) where
    abbrev pub summed : Total → List ℕ → List (Row Total)
    summed t [] = []
    summed t (e ∷ l) = closed (end_in e) (record { codes = key (row_in e); total = plus_row t (row_in e) }) (summed nothing l) (summed (plus_row t (row_in e)) l)
