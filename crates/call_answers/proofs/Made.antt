-- Readings make their totals.
use mathlib.Core.Path.{◌≡◌, refl}
use mathlib.Core.Bool.{true}
use mathlib.Core.List.Memᴰ
use mathlib.Core.List.{List, [], ◌∷◌, foldl}
use Prim.Native.Nat.{◌^◌, ◌<◌}
use native.Mathlib.Omega.{arith}
use lib.IntN.{ℤ, pos, negsuc}
use lib.Signed.{mag}
use Rattle.lists.specs.Lists.{◌∈◌}
use Rattle.cube.specs.declared.Total.{Total}
use Rattle.cube.specs.Measure.{Row, plus, nothing, sums, total_of}
use Rattle.cube.specs.Bounds.{can_make}
use Rattle.cube.proofs.Made.{Made, made_can, made-plus}

made_one : (z : ℤ) → mag z < 2 ^ 31 → Made 1 z
made_one (pos m) h = omega (arith, h)
made_one (negsuc m) h = omega (arith, h)

-- a row of one reading
abbrev One : Row Total → Type 0
One r = (mag r.total.sum < 2 ^ 31) × (r.total.count ≡ 1)

made-from : (t : Total) (rows : List (Row Total)) → Made t.count t.sum → ((r : Row Total) → r ∈ rows → One r)
    → (let u = foldl (λ u r. plus u r.total) t rows in Made u.count u.sum)
made-from t [] h k = h
made-from t (r ∷ rows) h k =
    let o = k r (Memᴰ.head refl) in
    made-from (plus t r.total) rows
    (made-plus t.count r.total.count t.sum r.total.sum h (rw o.1 (made_one r.total.sum o.0)))
    (λ q m. k q (Memᴰ.tail m))

-- readings make their total
pub readings_make : (rows : List (Row Total)) → ((r : Row Total) → r ∈ rows → One r) → can_make (total_of sums rows).count (total_of sums rows).sum ≡ true
readings_make rows h = made_can (total_of sums rows).count (total_of sums rows).sum (made-from nothing rows (omega arith) h)
