-- The counts of a set's cells: they are those of the grouped rows, in a flat list, and together as many as the readings of all rows.
use mathlib.Core.Path.{◌≡◌, refl, sym, ◌∙◌, ap}
use mathlib.Core.List.Memᴰ
use mathlib.Core.List.{List, [], ◌∷◌, map, map-append}
use Prim.Native.Nat.{ℕ, ◌+◌, ◌*◌, ◌≤◌, ◌<◌}
use native.Mathlib.Numerals.{add-one}
use native.Mathlib.Omega.{arith}
use lib.ListN.{length, take, set}
use lib.Seq.{take-suc-set}
use Rattle.lists.specs.Lists.{◌∈◌, sum}
use Rattle.lattice.specs.Sets.{sets}
use Rattle.cube.specs.declared.Total.{Total}
use Rattle.cube.specs.Measure.{Row, sums as measure}
use Rattle.cube.specs.Bounds.{count_of}
use Rattle.cube.specs.Codes.{plain}
use Rattle.cube.specs.Cube.{grouped, cells}
use Rattle.cube.specs.Table.{Table}
use Rattle.cube.proofs.Existing.{cells-rows}
use Rattle.cube.proofs.Readings.{count-cells}
use Rattle.rows.specs.Rows.{width, rows_of, row_total}
use Rattle.rows.proofs.Flat.{placed, total-at, rows_more}
use Rattle.rows_ready.proofs.Ready.{rows-front}
use Rattle.call_fee.specs.Fees.{count_in, weights}

-- the counts of no rows, and of one row more
pub counts-none : (d : ℕ) (ws l : List ℕ) → take 0 l ≡ map count_in (rows_of d 0 ws)
unfolding rows_of
counts-none d ws l = refl

pub counts-more : (d n i : ℕ) (ws l : List ℕ) {t : Total} → i < n → i < length l → t ≡ row_total d n ws i → take i l ≡ map count_in (rows_of d i ws)
    → take (i + 1) (set l i t.count) ≡ map count_in (rows_of d (i + 1) ws)
counts-more d n i ws l {t} h k e f =
    let one : t.count ≡ (placed d ws i).total.count = ap (λ (u : Total). u.count) (e ∙ total-at d n i ws h) in
    rw (add-one, take-suc-set l i t.count k, rows_more d i ws, map-append, f, one)

-- the counts of grouped rows are the weights
pub weights-grouped : (d n : ℕ) (ws l : List ℕ) (rows : List (Row Total)) (s : ℕ) → 0 < length rows
    → l ≡ map count_in (rows_of d n (take (n * width d) ws)) → rows_of d n ws ≡ grouped (plain d) measure rows s → l ≡ weights d rows s
unfolding weights
weights-grouped d n ws l rows s some f e = f ∙ ap (map count_in) (rows-front d n ws ∙ e ∙ sym (cells-rows (plain d) measure rows s some))

sum-counts : (l : List (Row Total)) → sum (map count_in l) ≡ count_of l
sum-counts [] = refl
sum-counts (r ∷ l) = ap (λ (n : ℕ). r.total.count + n) (sum-counts l)

-- the weights of any set add up to the count of all rows
pub weights-total : (d : ℕ) (rows : List (Row Total)) → Table d rows → {s : ℕ} → s ∈ sets d → sum (weights d rows s) ≡ count_of rows
unfolding weights
weights-total d rows t {s} i = sum-counts (cells (plain d) measure rows s) ∙ count-cells d rows t i

-- which is 0 just if there are no rows, where each has a reading
pub counts_some : (rows : List (Row Total)) → 0 < length rows → ((r : Row Total) → r ∈ rows → 1 ≤ r.total.count) → 0 < count_of rows
counts_some [] h f = absurd (omega arith)
counts_some (r ∷ rows) h f = omega (arith, f r (Memᴰ.head refl))

pub some-rows : (rows : List (Row Total)) → 0 < count_of rows → 0 < length rows
some-rows [] h = absurd (omega arith)
some-rows (r ∷ rows) h = omega arith
