-- The running total of rows, one row after the other, with room for those still to come.
use mathlib.Core.Path.{◌≡◌, refl}
use mathlib.Core.List.Memᴰ
use mathlib.Core.List.{List, [], ◌∷◌, foldl}
use Prim.Native.Nat.{ℕ, ◌+◌, ◌≤◌, ◌<◌}
use native.Mathlib.Numerals.{add-one}
use native.Mathlib.Omega.{arith}
use lib.ListN.{length, get_or, take, length-take, drop_of_length-le}
use lib.Seq.{slice, slice-cons}
use Rattle.lists.specs.Lists.{◌∈◌}
use Rattle.cube.specs.declared.Total.{Total}
use Rattle.cube.specs.Measure.{Row, nothing, plus}
use Rattle.cube.specs.Bounds.{most, Bounded, count_of, Summable}
use Rattle.cube.proofs.Sums.{bounded_nothing, bounded_plus}
use Rattle.rows_runs.specs.Totals.{amount_at, amounts_at, run_total}

-- the running total t over more rows
unfoldable pub total_from : Total → List (Row Total) → Total
total_from t [] = t
total_from t (r ∷ rows) = total_from (plus t r.total) rows

-- these rows can be added to the total t, and nothing overflows
pub record Room (t : Total) (rows : List (Row Total)) : Type 0 where
  pub own : Bounded t
  pub each : (r : Row Total) → r ∈ rows → Bounded r.total
  pub few : t.count + count_of rows ≤ most

pub room-nothing : {rows : List (Row Total)} → Summable rows → Room nothing rows
room-nothing s = record { own = bounded_nothing; each = s.each; few = omega (arith, s.few) }

module _ {t : Total} {r : Row Total} {rows : List (Row Total)} (h : Room t (r ∷ rows)) where
  pub room-one : Bounded t × Bounded r.total × (t.count + r.total.count ≤ most)
  room-one = (h.own, h.each r (Memᴰ.head refl), omega (arith, h.few))

  pub room-plus : Room (plus t r.total) rows
  room-plus = record {
    own = bounded_plus t r.total h.own (h.each r (Memᴰ.head refl)) (omega (arith, h.few));
    each = λ q m. h.each q (Memᴰ.tail m);
    few = omega (arith, h.few);
  }

total-from : (t : Total) (rows : List (Row Total)) → total_from t rows ≡ foldl (λ t r. plus t r.total) t rows
unfolding total_from
total-from t [] = refl
total-from t (r ∷ rows) = total-from (plus t r.total) rows

-- ---- the rows that a part of an index names

module _ (totals : ℕ → Total) (index : List ℕ) (k end : ℕ) where
  pub total-start : total_from nothing (amounts_at totals (slice k end index)) ≡ run_total totals (slice k end index)
  unfolding run_total
  total-start = total-from nothing (amounts_at totals (slice k end index))

  pub amounts_next : k < end → end ≤ length index
      → amounts_at totals (slice k end index) ≡ amount_at totals (get_or index k 0) ∷ amounts_at totals (slice (k + 1) end index)
  unfolding amounts_at
  amounts_next h g = rw (add-one, slice-cons k end index 0 h g)

  pub amounts_none : end ≤ k → amounts_at totals (slice k end index) ≡ []
  unfolding amounts_at
  amounts_none h = rw (drop_of_length-le (take end index) {i = k} (simp length-take (omega arith)))
