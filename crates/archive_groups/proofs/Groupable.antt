-- The groups of a slot can be totalled: they are made of base rows.
use mathlib.Core.Path.{◌≡◌, sym, ap, subst, ◌∙◌}
use mathlib.Core.Bool.{Bool}
use mathlib.Core.List.Memᴰ
use mathlib.Core.List.{List, [], ◌∷◌, map, Memᴰ}
use Prim.Native.Nat.{ℕ, ◌≤◌}
use native.Mathlib.Nat.{le_trans}
use native.Mathlib.Omega.{arith}
use lib.ListN.{length}
use lib.Seq.{take_all}
use Rattle.lists.specs.Lists.{keep}
use Rattle.lists.proofs.Tests.{cases, truth}
use Rattle.lists.proofs.Members.{keep_in}
use Rattle.rows_deals.specs.Deals.{Names}
use Rattle.cube.specs.declared.Total.{Total}
use Rattle.cube.specs.Measure.{Row}
use Rattle.cube.specs.Bounds.{count_of, Summable}
use Rattle.rows.specs.Rows.{cut, row_total}
use Rattle.rows_order.specs.Index.{key, arranged}
use Rattle.rows_runs.specs.Totals.{amount_at, amounts_at}
use Rattle.rows_order.proofs.Columns.{table-valid}
use Rattle.rows_order.proofs.Arranged.{arranged-length}
use Rattle.rows_runs.proofs.Counts.{arranged-summable}
use Rattle.rows_slots.specs.Slots.{flat, crowds, shares, packed, row_in}
use Rattle.rows_slots.proofs.Groups.{crowds-flat}
use Rattle.rows_slots.proofs.Entries.{slot-rows, slot-length, flat-few, flat-names}
use Rattle.rows_ready.specs.Ready.{Ready}
use Rattle.archive_groups.specs.Groups.{Groupable}

module _ (totals : ℕ → Total) (p : ℕ → Bool) where
  count-keep : (l : List ℕ) → count_of (map (amount_at totals) (keep p l)) ≤ count_of (map (amount_at totals) l)
  count-keep [] = omega arith
  count-keep (x ∷ l) = cases (truth (p x)) (λ t. rw t (omega (arith, count-keep l))) (λ t. rw t (omega (arith, count-keep l)))

  -- some of rows that can be totalled can be
  keep-summable : (l : List ℕ) → Summable (amounts_at totals l) → Summable (amounts_at totals (keep p l))
  unfolding amounts_at
  keep-summable l s = record {
    each = λ r m. let q = Memᴰ.of_map (amount_at totals) (keep p l) m in
        s.each r (subst (λ (z : Row Total). Memᴰ z (map (amount_at totals) l)) q.2 (Memᴰ.map (amount_at totals) (keep_in p l q.1).0));
    few = le_trans (count-keep l) s.few;
  }

module _ {d n : ℕ} {ws : List ℕ} (ready : Ready d n ws) (least s : ℕ) (slot : List ℕ)
    (e : slot ≡ packed (crowds least (key s (cut d n ws)) n)) where
  abbrev keys : ℕ → List ℕ
  keys = key s (cut d n ws)

  rows-flat : map row_in slot ≡ flat (crowds least keys n)
  rows-flat = ap (map row_in) e ∙ slot-rows keys n least ready.few

  pub groupable : Groupable d n ws slot
  groupable = record {
    dims = ready.dims;
    size = ready.size;
    valid = table-valid d n ws ready.table;
    few = omega (arith, ap length e, slot-length keys n least ready.few, flat-few keys n least ready.few, ready.few);
    names = subst (λ (l : List ℕ). Names l n) (sym rows-flat) (flat-names keys n least ready.few);
    summable =
        subst (λ (l : List ℕ). Summable (amounts_at (row_total d n ws) l)) (sym (rows-flat ∙ crowds-flat keys n least))
        (keep-summable (row_total d n ws) (shares least keys n) (arranged keys n)
        (subst (λ (l : List ℕ). Summable (amounts_at (row_total d n ws) l)) (take_all n (arranged keys n) (omega (arith, arranged-length keys n))) (arranged-summable d n ws ready.summable keys 0 n)));
  }
