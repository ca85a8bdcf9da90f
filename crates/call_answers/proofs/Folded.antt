-- The base rows of a table within its limits are within the limits of an archive.
use mathlib.Core.Path.{◌≡◌, refl, ap, subst}
use mathlib.Core.List.Memᴰ
use mathlib.Core.List.{List, [], ◌∷◌}
use Prim.Native.Nat.{ℕ, ◌≤◌}
use native.Mathlib.Omega.{arith}
use lib.ListN.{length, replicate}
use Rattle.lists.specs.Lists.{◌∈◌, keep}
use Rattle.lists.specs.Order.{same}
use Rattle.lists.proofs.Order.{same_refl}
use Rattle.lists.proofs.Members.{keep_in, keep_of}
use Rattle.fields_walk.specs.Limits.{Below}
use Rattle.cube.specs.declared.Total.{Total}
use Rattle.cube.specs.Measure.{Row, sums, total_of}
use Rattle.cube.specs.Codes.{ALL, plain}
use Rattle.cube.specs.Cube.{total}
use Rattle.cube.specs.Bounds.{most, count_of}
use Rattle.cube.specs.Table.{Table}
use Rattle.cube.proofs.Folding.{folded-few}
use Rattle.cube.proofs.Readings.{count-total, count-whole}
use Rattle.cube.proofs.Sums.{sums-add}
use Rattle.cube.proofs.Promises.{base-order, base-codes, base_totals, base-rows, base-total}
use Rattle.fields_walk.proofs.Limits.{below-coded}
use Rattle.table.specs.Layout.{Records, Reads, TableLimits}
use Rattle.table.specs.Reading.{base_rows}
use Rattle.archive_entries.specs.Layout.{Fair, Limits}
use Rattle.call_answers.proofs.Made.{readings_make}

count_ones : (rows : List (Row Total)) → ((r : Row Total) → r ∈ rows → r.total.count ≡ 1) → count_of rows ≡ length rows
count_ones [] h = refl
count_ones (r ∷ rows) h = omega (arith, h r (Memᴰ.head refl), count_ones rows (λ q m. h q (Memᴰ.tail m)))

module _ (t : Records) (l : TableLimits t) where
  abbrev d : ℕ
  d = length t.sizes

  pub table-rows : Table d t.rows
  table-rows r m = below-coded t.sizes r.codes (λ z i. (l.sized.each z i).1) (l.each r m).below

  folded-counts : count_of (base_rows t) ≤ most
  folded-counts =
      let b : (total (plain d) sums (base_rows t) (replicate d ALL)).count ≡ count_of (base_rows t) =
      count-whole d (base_rows t) (λ r m. (base-rows sums sums-add d t.rows table-rows).valid r.codes (Memᴰ.map (λ q. q.codes) m)) in
      omega (
        arith,
        b,
        ap (λ (u : Total). u.count) (base-total sums sums-add d t.rows table-rows (replicate d ALL)),
        count-whole d t.rows table-rows,
        count_ones t.rows (λ r m. (l.each r m).once),
        l.few,
      )

  module _ (r : Row Total) (m : r ∈ base_rows t) where
    -- the table's rows with the codes of a base row: at least one
    abbrev same_rows : List (Row Total)
    same_rows = keep (λ q. same r.codes q.codes) t.rows

    found : (q : Row Total) × (q ∈ t.rows) × (q.codes ≡ r.codes)
    found = Memᴰ.of_map (λ q. q.codes) t.rows ((base-codes sums sums-add d t.rows table-rows r.codes).0 (Memᴰ.map (λ q. q.codes) m))

    reads : (q : Row Total) → q ∈ same_rows → Reads t.sizes q
    reads q i = l.each q (keep_in (λ q. same r.codes q.codes) t.rows i).0

    some-counted : (rows : List (Row Total)) {q : Row Total} → q ∈ rows → q.total.count ≡ 1 → 1 ≤ count_of rows
    some-counted [] {q = q} x' c = elim x' [ ]
    some-counted (p ∷ rows) (Memᴰ.head e) c = omega (arith, ap (λ (q : Row Total). q.total.count) e, c)
    some-counted (p ∷ rows) (Memᴰ.tail i) c = omega (arith, some-counted rows i c)

    folded-fair : Fair t.sizes r
    folded-fair =
        let e : r.total ≡ total_of sums same_rows = base_totals sums sums-add d t.rows table-rows r m in
        let f = found in
        let i : f.0 ∈ same_rows = keep_of (λ q. same r.codes q.codes) f.1 (rw f.2 (same_refl r.codes)) in record {
          below = subst (Below t.sizes) f.2 (l.each f.0 f.1).below;
          counted = omega (arith, ap (λ (u : Total). u.count) e, count-total same_rows, some-counted same_rows i (reads f.0 i).once);
          made = rw e (readings_make same_rows (λ q j. ((reads q j).reading, (reads q j).once)));
        }

  pub folded-within : Limits t.sizes (base_rows t)
  folded-within = record {
    sized = l.sized;
    few = omega (arith, l.few, folded-few sums d t.rows);
    rising = base-order sums sums-add d t.rows table-rows;
    each = folded-fair;
    counts = folded-counts;
  }
