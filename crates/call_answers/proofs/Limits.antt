-- What 18 lets through is within the limits of an archive; what it stops is not.
use mathlib.Core.Path.{◌≡◌, sym, ap, ◌∙◌}
use mathlib.Core.Bool.{true, false}
use mathlib.Core.List.{List}
use Prim.Native.Nat.{ℕ, ◌+◌, ◌≤◌, ◌<◌}
use native.Mathlib.Omega.{arith}
use lib.Dec.{leb}
use lib.ListN.{length}
use borrow.Author.Tests.{leb-true, le-leb}
use Rattle.lists.proofs.Tests.{both, both_of, refuted}
use Rattle.cube.specs.declared.Total.{Total}
use Rattle.cube.specs.Measure.{sums, Row}
use Rattle.cube.specs.Bounds.{most, count_of}
use Rattle.cube.proofs.Sums.{sums-add}
use Rattle.cube.proofs.Made.{can_plus}
use Rattle.rows_merge.specs.United.{as_one, united, merged}
use Rattle.rows_merge.proofs.Merging.{united-merged}
use Rattle.rows_merge.proofs.United.{united-rising, united-each, united-count}
use Rattle.archive_entries.specs.Layout.{Fair, Limits, archive_bytes}
use Rattle.archive_entries.proofs.Limits.{limits-table}
use Rattle.call_answers.specs.Answers.{stop, bytes}
use Rattle.call_answers.specs.Joins.{few, filed}

pub fair-both : (zs : List ℕ) (r q : Row Total) → r.codes ≡ q.codes → Fair zs r → Fair zs q → Fair zs (as_one sums r q)
fair-both zs r q e f g = record {
  below = f.below;
  counted = omega (arith, f.counted);
  made = can_plus r.total.count q.total.count r.total.sum q.total.sum f.made g.made;
}

-- rows within the limits are filed as they are
pub filed-limits : (zs : List ℕ) (rows : List (Row Total)) → Limits zs rows → filed zs rows ≡ bytes (archive_bytes zs rows)
filed-limits zs rows l = let e : few rows ≡ true = both_of (le-leb (length rows) 1024 l.few) (le-leb (count_of rows) most l.counts) in rw e

module _ (zs : List ℕ) (a b : List (Row Total)) (l : Limits zs a) (m : Limits zs b) where
  abbrev rows : List (Row Total)
  rows = united sums (length zs) a b

  pub limits-united : few rows ≡ true → Limits zs rows
  limits-united h =
      let p = both (leb (length rows) 1024) (leb (count_of rows) most) h in
      record {
        sized = l.sized;
        few = leb-true (length rows) 1024 p.0;
        rising = united-rising sums (length zs) a b (limits-table zs a l) (limits-table zs b m);
        each = united-each sums (length zs) sums-add (Fair zs) (fair-both zs) a b (limits-table zs a l) (limits-table zs b m) l.rising m.rising l.each m.each;
        counts = leb-true (count_of rows) most p.1;
      }

  counts-united : count_of rows ≡ count_of a + count_of b
  counts-united = united-count (length zs) a b (limits-table zs a l) (limits-table zs b m) l.rising m.rising

  rows-merged : rows ≡ merged sums a b
  rows-merged = united-merged sums sums-add (length zs) a b (limits-table zs a l) (limits-table zs b m) l.rising m.rising

  -- too many readings, or too many rows
  pub filed-counts : most < count_of a + count_of b → filed zs rows ≡ stop 18
  filed-counts h =
      let e : few rows ≡ false = refuted (λ f. absurd (omega (arith, h, counts-united, leb-true (count_of rows) most (both (leb (length rows) 1024) (leb (count_of rows) most) f).1))) in
      rw e

  pub filed-over : 1024 < length (merged sums a b) → filed zs rows ≡ stop 18
  filed-over h =
      let e : few rows ≡ false = refuted (λ f. absurd (omega (arith, h, ap length rows-merged, leb-true (length rows) 1024 (both (leb (length rows) 1024) (leb (count_of rows) most) f).0))) in
      rw e

  -- the merged rows, where there are not too many
  module _ (merge : List (Row Total)) (s : merge ≡ merged sums a b) (h : length merge ≤ 1024) (k : count_of a + count_of b ≤ most) where
    few-merged : few rows ≡ true
    few-merged = both_of (le-leb (length rows) 1024 (omega (arith, h, ap length s, ap length rows-merged))) (le-leb (count_of rows) most (omega (arith, k, counts-united)))

    pub limits-merged : Limits zs merge
    limits-merged = rw (s ∙ sym rows-merged) (limits-united few-merged)

    pub filed-merged : filed zs rows ≡ bytes (archive_bytes zs merge)
    filed-merged = filed-limits zs rows (limits-united few-merged) ∙ ap (λ (l : List (Row Total)). bytes (archive_bytes zs l)) (rows-merged ∙ sym s)
