-- The figures of an accepted archive are such as readings can make: those of each base row, and those of each cell in which rows fall.
use mathlib.Core.Path.{◌≡◌, subst}
use mathlib.Core.Logic.{◌↔◌}
use mathlib.Core.Bool.{true}
use mathlib.Core.List.Memᴰ
use mathlib.Core.List.{List}
use Prim.Native.Nat.{ℕ, ◌≤◌}
use native.Mathlib.Omega.{arith}
use lib.ListN.{length, length-map}
use Rattle.lists.specs.Order.{Rising, earlier}
use Rattle.lists.specs.Lists.{◌∈◌, keep}
use Rattle.lists.proofs.Members.{keep_in, keep_of}
use Rattle.fields_walk.specs.Limits.{Below}
use Rattle.cube.specs.declared.Figures.{Figures}
use Rattle.cube.specs.Measure.{Row, carried}
use Rattle.cube.specs.Extremes.{figures}
use Rattle.cube.specs.Bounds.{Makes}
use Rattle.cube.specs.Cube.{total}
use Rattle.cube.proofs.Carrying.{codes-carried}
use Rattle.cube.proofs.Suited.{makes_total}
use Rattle.archive_editions.specs.Format.{Format, two}
use Rattle.archive_entries.specs.Layout.{Limits as LimitsSums}
use Rattle.archive_editions.specs.Layout.{sums_in, Fair, Limits}
use Rattle.archive_editions.proofs.Editions.{kept-two}
use Rattle.archive_editions.proofs.Formats.{Lawful, two_headed, two_lawful}
use Rattle.archive_editions.proofs.Limits.{sums_limits}

-- A base row's, in any format;
pub fair_makes : {H : Type 0} (F : Format H) → Lawful F → (h : H) (r : Row Figures) → Fair F h r → Makes r.total
fair_makes F lawful h r f = record { counted = f.counted; made = f.made; suited = lawful.tells.suited r.total.sums r.total.extremes f.made f.kept }

-- edition two has all of these, behind codes below the sizes.
pub fair_two : (zs : List ℕ) (r : Row Figures) → Fair two zs r ↔ (Below zs r.codes × Makes r.total)
fair_two zs r = (
  λ f. (f.below, record { counted = f.counted; made = f.made; suited = (kept-two r.total.sums r.total.extremes).0 f.kept }),
  λ p. record { below = p.0; counted = p.1.counted; made = p.1.made; kept = (kept-two r.total.sums r.total.extremes).1 p.1.suited },
)

-- A cell's, in which a base row falls.
pub cell_makes : {H : Type 0} (F : Format H) → Lawful F → (h : H) (rows : List (Row Figures)) → Limits F h rows → (c : List ℕ) (r : Row Figures) → r ∈ rows
    → (F.lattice h).falls c r.codes ≡ true → Makes (total (F.lattice h) figures rows c)
unfolding total
cell_makes F lawful h rows l c r m e =
    let p = λ (q : Row Figures). (F.lattice h).falls c q.codes in
    makes_total (keep p rows) (in_some (keep_of p m e)) (λ q i. fair_makes F lawful h q (l.each q (keep_in p rows i).0))
  where
    in_some : {q : Row Figures} {qs : List (Row Figures)} → q ∈ qs → 1 ≤ length qs
    in_some (Memᴰ.head e) = omega arith
    in_some (Memᴰ.tail m) = omega arith

-- ---- edition two's limits

-- Base rows are within edition two's limits just if their sums and counts are within those of archive_entries, and readings can make their figures.
pub limits_makes : (zs : List ℕ) (rows : List (Row Figures)) → Limits two zs rows ↔ (LimitsSums zs (sums_in rows) × ((r : Row Figures) → r ∈ rows → Makes r.total))
limits_makes zs rows = (
  λ l. (
    sums_limits two zs rows ((two_headed zs).0 l.headed) l,
    λ r m. fair_makes two two_lawful zs r (l.each r m),
  ),
  λ p. record {
    headed = (two_headed zs).1 p.0.sized;
    few = omega (arith, p.0.few, length-map rows (carried (λ f. f.sums)));
    rising = subst (Rising earlier) (codes-carried (λ f. f.sums) rows) p.0.rising;
    each = λ r m. (fair_two zs r).1 ((p.0.each (carried (λ f. f.sums) r) (Memᴰ.map (carried (λ f. f.sums)) m)).below, p.1 r m);
    counts = p.0.counts;
  },
)
