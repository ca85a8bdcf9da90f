-- Grouping carried over to a longer set, each of whose added dimensions comes after all of the shorter set.
use mathlib.Core.Path.{◌≡◌, sym, ap, ◌∙◌}
use mathlib.Core.List.{List, flat_map}
use Prim.Native.Nat.{ℕ, ◌<◌}
use native.Mathlib.Omega.{arith}
use lib.ListN.{length}
use Rattle.lists.proofs.Tests.{refuted}
use Rattle.lists.proofs.Order.{by_codes, same_refl}
use Rattle.cube.specs.Codes.{cell}
use Rattle.cube.proofs.Codes.{agree_same, agree-cell}
use Rattle.rows.specs.Rows.{cut, row_at}
use Rattle.rows_compare.specs.Compare.{is_before, added, Longer}
use Rattle.rows.proofs.Rows.{row-length}
use Rattle.rows_compare.proofs.Parting.{compared-before}
use Rattle.rows_compare.proofs.Longer.{agree-added, compared-later}
use Rattle.rows_order.specs.Index.{key, Indexed}
use Rattle.rows_runs.specs.Runs.{runs, again}
use Rattle.rows_runs.proofs.Refined.{Refined, order_refined, groups_refined}

module _ {rows dims s t : ℕ} {ws short long : List ℕ} (x : Indexed rows dims s ws short) (y : Indexed rows dims t ws long) (g : Longer dims s t) where
  abbrev keys : ℕ → ℕ → List ℕ
  keys u = key u (cut dims rows ws)

  keys_refined : Refined rows (keys s) (keys (added t s)) (keys t)
  unfolding key
  keys_refined =
      let row : ℕ → List ℕ = row_at (cut dims rows ws) in
      let size : (j : ℕ) → j < rows → length (row j) ≡ dims = λ j h. row-length dims rows j ws h x.size in
      record {
        parted = λ j k h l e.
            sym (compared-before t (row j) (row k))
            ∙ ap is_before (compared-later (row j) (row k) (size j h) (size k l) g
            (refuted (λ a. by_codes.irrefl (cell s (row k)) (rw (agree-cell s (row j) (row k) a) at e))))
            ∙ compared-before s (row j) (row k) ∙ e;
        equal = λ j k h l e.
            sym (compared-before t (row j) (row k))
            ∙ ap is_before (agree-added dims s t (row j) (row k) (omega (arith, size j h)) g.below g.held
            (agree_same s (row j) (row k) ∙ rw e (same_refl (cell s (row k)))))
            ∙ compared-before (added t s) (row j) (row k);
      }

  -- The rows in the order of the longer set are those of the groups of the shorter one, one group after the other, each in the order of the added dimensions alone;
  pub order-carried : long ≡ flat_map (again (keys (added t s))) (runs (keys s) short)
  order-carried = rw (x.order, y.order) (order_refined keys_refined)

  -- and its groups are those that each group has by the added dimensions alone.
  pub groups-carried : runs (keys t) long ≡ flat_map (λ r. runs (keys (added t s)) (again (keys (added t s)) r)) (runs (keys s) short)
  groups-carried = rw (x.order, y.order) (groups_refined keys_refined)
