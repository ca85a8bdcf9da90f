-- The counts of rows in order: an index names every row once, so that a part of it counts no more than all rows do.
use mathlib.Core.Path.{◌≡◌, refl, ap, subst}
use mathlib.Core.List.Memᴰ
use mathlib.Core.List.{List, [], ◌∷◌}
use Prim.Native.Nat.{ℕ, zero, suc, ◌+◌, ◌≤◌, ◌<◌}
use native.Mathlib.Omega.{arith}
use lib.ListN.{get_or, take, drop}
use lib.Seq.{slice}
use Rattle.lists.specs.Lists.{◌∈◌}
use Rattle.lists.specs.Order.{earlier}
use Rattle.lists.proofs.Tests.{cases, truth}
use Rattle.lists.proofs.Members.{at_in}
use Rattle.cube.specs.declared.Total.{Total}
use Rattle.cube.specs.Measure.{Row}
use Rattle.cube.specs.Bounds.{Bounded, count_of, Summable}
use Rattle.rows.specs.Rows.{rows_of, row_total}
use Rattle.rows_order.specs.Index.{insert, arranged}
use Rattle.rows_runs.specs.Totals.{amount_at, amounts_at}
use Rattle.lists.proofs.Parts.{slice_in}
use Rattle.cube.proofs.Sums.{count-append}
use Rattle.rows_order.proofs.Arranged.{arranged_in}
use Rattle.rows.proofs.Flat.{placed, blank, rows-length, total-at, rows_more}

module _ (totals : ℕ → Total) where
  abbrev count : List ℕ → ℕ
  count l = count_of (amounts_at totals l)

  count-take : (k : ℕ) (l : List ℕ) → count (take k l) ≤ count l
  unfolding amounts_at
  count-take zero l = omega arith
  count-take (suc k) [] = omega arith
  count-take (suc k) (x ∷ l) = omega (arith, count-take k l)

  count-drop : (k : ℕ) (l : List ℕ) → count (drop k l) ≤ count l
  unfolding amounts_at
  count-drop zero l = omega arith
  count-drop (suc k) [] = omega arith
  count-drop (suc k) (x ∷ l) = omega (arith, count-drop k l)

  module _ (key : ℕ → List ℕ) where
    count-insert : (x : ℕ) (l : List ℕ) → count (insert key x l) ≡ (totals x).count + count l
    unfolding insert amounts_at
    count-insert x [] = refl
    count-insert x (y ∷ l) = cases (truth (earlier (key x) (key y))) (λ e. rw e) (λ e. rw e (omega (arith, count-insert x l)))

    count-arranged : (d n : ℕ) (ws : List ℕ) → ((i : ℕ) → i < n → totals i ≡ (placed d ws i).total) → count (arranged key n) ≡ count_of (rows_of d n ws)
    unfolding arranged rows_of amounts_at
    count-arranged d zero ws h = refl
    count-arranged d (suc n) ws h =
        omega (arith, count-insert n (arranged key n), ap (λ (t : Total). t.count) (h n (omega arith)), count-arranged d n ws (λ i k. h i (omega arith)), ap count_of (rows_more d n ws), count-append (rows_of d n ws) (placed d ws n ∷ []))

module _ (d n : ℕ) (ws : List ℕ) (s : Summable (rows_of d n ws)) where
  pub total_bounded : (i : ℕ) → i < n → Bounded (row_total d n ws i)
  unfolding row_total
  total_bounded i h = let rows = rows_of d n ws in s.each (get_or rows i blank) (at_in blank rows i (rw rows-length h))

  amounts_bounded : (l : List ℕ) → ((i : ℕ) → i ∈ l → i < n) → (r : Row Total) → r ∈ amounts_at (row_total d n ws) l → Bounded r.total
  unfolding amounts_at
  amounts_bounded l h r m =
      let g = Memᴰ.of_map (amount_at (row_total d n ws)) l m in
      subst (λ (q : Row Total). Bounded q.total) g.2 (total_bounded g.0 (h g.0 g.1))

  -- any part of the rows in order can be totalled, where the rows can
  pub arranged-summable : (key : ℕ → List ℕ) (from end : ℕ) → Summable (amounts_at (row_total d n ws) (slice from end (arranged key n)))
  arranged-summable key from end =
      let totals = row_total d n ws in
      record {
        each = amounts_bounded (slice from end (arranged key n)) (λ i m. arranged_in key n (slice_in from end (arranged key n) m));
        few = omega (arith, count-drop totals from (take end (arranged key n)), count-take totals end (arranged key n), count-arranged totals key d n ws (λ i h. total-at d n i ws h), s.few);
      }
