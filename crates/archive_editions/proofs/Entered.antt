-- Base entries that were read hold base rows within the limits.
use mathlib.Core.Path.{◌≡◌, sym, subst}
use mathlib.Core.Bool.{true}
use mathlib.Core.List.Memᴰ
use mathlib.Core.List.{List, [], ◌∷◌, map}
use Prim.Native.Nat.{ℕ, ◌+◌, ◌≤◌}
use native.Mathlib.Omega.{arith}
use lib.ListN.{length-map}
use Rattle.lists.specs.Lists.{◌∈◌}
use Rattle.lists.specs.Order.{Rising, earlier}
use Rattle.lists.proofs.Tests.{cases}
use Rattle.lists.proofs.Order.{by_codes}
use Rattle.lists.proofs.Sorted.{rising-one, rising_cons}
use Rattle.cube.specs.declared.Figures.{Figures}
use Rattle.cube.specs.Measure.{Row, codes_of}
use Rattle.cube.specs.Bounds.{most, can_make, count_of}
use Rattle.archive_entries.proofs.Fair.{fair_true}
use Rattle.archive_editions.specs.Format.{Format}
use Rattle.archive_editions.specs.Layout.{sums_in, Based, Held, Fair, Limits}
use Rattle.archive_editions.specs.Reading.{rows_in}
use Rattle.archive_editions.proofs.Written.{Enters, Entered}
use Rattle.archive_editions.proofs.Walkable.{Walkable}

module _ {H : Type 0} (F : Format H) where
  module _ (zs : List ℕ) where
    -- what the test of a sum and a count said
    enters_fair : {x : List ℕ} {before : ℕ} {b : Based} → Enters F zs x before b
        → (1 ≤ b.row.total.sums.count) × (can_make b.row.total.sums.count b.row.total.sums.sum ≡ true) × (before + b.row.total.sums.count ≤ most)
    enters_fair {x} {before} {b} e = fair_true before b.row.total.sums.sum b.row.total.sums.count e.fits

    -- each came behind some codes and some total count
    entered_each : (x : List ℕ) (before : ℕ) {b : Based} (bs : List Based) → Entered F zs x before bs → b ∈ bs → (y : List ℕ) × (n : ℕ) × Enters F zs y n b
    entered_each x before [] e m = absurd (Memᴰ.not-nil m)
    entered_each x before (c ∷ bs) e m = cases (Memᴰ.cases_cons m)
        (λ q. (x, before, subst (Enters F zs x before) (sym q) e.0))
        (entered_each c.row.codes (before + c.row.total.sums.count) bs e.1)

    -- the codes before the first, and those of all
    entered_rising : (x : List ℕ) (before : ℕ) (bs : List Based) → Entered F zs x before bs → Rising earlier (x ∷ codes_of (map (λ b. b.row) bs))
    entered_rising x before [] e = rising-one earlier x
    entered_rising x before (c ∷ bs) e = rising_cons earlier by_codes x c.row.codes (codes_of (map (λ b. b.row) bs)) e.0.after
        (entered_rising c.row.codes (before + c.row.total.sums.count) bs e.1)

    entered_count : (x : List ℕ) (before : ℕ) (bs : List Based) → before ≤ most → Entered F zs x before bs → before + count_of (sums_in (map (λ b. b.row) bs)) ≤ most
    entered_count x before [] h e = omega (arith, h)
    entered_count x before (c ∷ bs) h e = omega (arith, entered_count c.row.codes (before + c.row.total.sums.count) bs (enters_fair e.0).2 e.1)

  entered_fair : (h : H) {r : Row Figures} (bs : List Based) → Entered F (F.sizes h) [] 0 bs → r ∈ map (λ b. b.row) bs → Fair F h r
  entered_fair h bs e m =
      let b = Memᴰ.of_map (λ b. b.row) bs m in
      let t = (entered_each (F.sizes h) [] 0 bs e b.1).2 in
      let f = enters_fair (F.sizes h) t in
      subst (Fair F h) b.2 (record { below = t.below; counted = f.0; made = f.1; kept = t.kept })

  pub walkable_limits : (a : Held H) → Walkable F a → Limits F a.header (rows_in a)
  walkable_limits a w = record {
    headed = w.headed;
    few = omega (arith, w.few, length-map a.bases (λ b. b.row));
    rising = (entered_rising (F.sizes a.header) [] 0 a.bases w.entered).1;
    each = λ r m. entered_fair a.header a.bases w.entered m;
    counts = omega (arith, entered_count (F.sizes a.header) [] 0 a.bases (omega arith) w.entered);
  }
