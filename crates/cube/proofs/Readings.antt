-- How many readings all rows have: so many has the cell of all rows, and so many have the cells of any set together.
use mathlib.Core.Path.{◌≡◌, refl, sym, ◌∙◌, ap}
use mathlib.Core.Bool.{true}
use mathlib.Core.List.{List, [], ◌∷◌, foldl}
use Prim.Native.Nat.{ℕ, ◌+◌}
use native.Mathlib.Nat.{zero-add}
use native.Mathlib.Omega.{arith}
use lib.ListN.{replicate}
use Rattle.lists.specs.Lists.{◌∈◌}
use Rattle.lists.proofs.Members.{keep_all}
use Rattle.lattice.specs.Sets.{sets}
use Rattle.cube.specs.declared.Total.{Total}
use Rattle.cube.specs.Measure.{Row, nothing, plus, sums, total_of}
use Rattle.cube.specs.Bounds.{count_of}
use Rattle.cube.specs.Codes.{ALL, falls, plain}
use Rattle.cube.specs.Cube.{total, cells}
use Rattle.cube.specs.Table.{Table}
use Rattle.cube.proofs.Codes.{falls-whole, plain_laws}
use Rattle.cube.proofs.Folding.{coded}
use Rattle.cube.proofs.Rolling.{cells_up}
use Rattle.cube.proofs.Sums.{sums-add}

-- a running total that starts with t
count-from : (t : Total) (rows : List (Row Total)) → (foldl (λ u r. plus u r.total) t rows).count ≡ t.count + count_of rows
count-from t [] = omega arith
count-from t (r ∷ rows) = omega (arith, count-from (plus t r.total) rows)

pub count-total : (rows : List (Row Total)) → (total_of sums rows).count ≡ count_of rows
count-total rows = count-from nothing rows ∙ zero-add (count_of rows)

module _ (d : ℕ) (rows : List (Row Total)) (t : Table d rows) where
  pub count-whole : (total (plain d) sums rows (replicate d ALL)).count ≡ count_of rows
  unfolding total
  count-whole =
      ap (λ (l : List (Row Total)). (total_of sums l).count) (keep_all (λ r. falls (replicate d ALL) r.codes) rows (λ r m. falls-whole d r.codes (t r m)))
      ∙ count-total rows

  pub count-cells : {s : ℕ} → s ∈ sets d → count_of (cells (plain d) sums rows s) ≡ count_of rows
  count-cells {s} i =
      let l = cells (plain d) sums rows s in
      sym (count-total l)
      ∙ ap (λ (m : List (Row Total)). (total_of sums m).count) (sym (keep_all (λ r. true) l (λ r m. refl)))
      ∙ ap (λ (u : Total). u.count) (cells_up (plain d) (plain_laws d) sums sums-add rows (coded d rows t) i (λ c. true) (replicate d ALL) (λ x m. sym (falls-whole d x (coded d rows t x m))))
      ∙ count-whole
