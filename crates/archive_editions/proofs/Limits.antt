-- Base rows within the limits can be totalled, and our entries of them are such as the walk passes.
use mathlib.Core.Path.{◌≡◌, refl, sym, ap, subst}
use mathlib.Core.Bool.{true}
use mathlib.Core.List.Memᴰ
use mathlib.Core.List.{List, [], ◌∷◌, ◌++◌, map}
use Prim.Native.Nat.{ℕ, ◌+◌, ◌^◌, ◌≤◌, ◌<◌}
use native.Mathlib.Omega.{arith}
use lib.ListN.{length, length-append, length-map}
use Rattle.lists.specs.Lists.{◌∈◌}
use Rattle.lists.specs.Order.{Rising, earlier}
use Rattle.lists.proofs.Tests.{cases}
use Rattle.lists.proofs.Order.{by_codes, earlier-none}
use Rattle.lists.proofs.Sorted.{rising-distinct}
use Rattle.fields_sums.specs.TwosLaws.{bits_lt}
use Rattle.fields_walk.specs.Limits.{Sized}
use Rattle.fields_walk.proofs.Lengths.{length-below}
use Rattle.cube.specs.declared.Total.{Total}
use Rattle.cube.specs.declared.Figures.{Figures}
use Rattle.cube.specs.Measure.{Row, codes_of, carried}
use Rattle.cube.specs.Extremes.{figures, Readings}
use Rattle.cube.specs.Bounds.{most, Bounded, count_of, Summable}
use Rattle.cube.specs.Lattice.{Lattice}
use Rattle.cube.specs.Cube.{Exists, total, filled}
use Rattle.cube.specs.Condensed.{listed, normals, Base}
use Rattle.cube.proofs.Carrying.{codes-carried, total-carried}
use Rattle.cube.proofs.Spans.{sums_carry, total-readings}
use Rattle.cube.proofs.Sums.{bounded_fits, total_bounded, made_bounded}
use Rattle.cube.proofs.Nodes.{proper_in}
use Rattle.cube.proofs.Smallest.{listed_in}
use Rattle.cube.proofs.Existing.{blank-whole}
use Rattle.cube.proofs.Normals.{normals_exist, normals-most}
use Rattle.archive_entries.specs.Layout.{Fair as FairSums, Limits as LimitsSums}
use Rattle.archive_entries.proofs.Fair.{fair_of}
use Rattle.archive_editions.specs.Edition.{Edition}
use Rattle.archive_editions.specs.Format.{Format}
use Rattle.archive_editions.specs.Layout.{sums_in, total_front, cell_words, based, celled, required, Fair, Limits}
use Rattle.archive_editions.proofs.Editions.{Small, small_cons, Tells, words-wide, words-small}
use Rattle.archive_editions.proofs.Formats.{Words, Ready, Lawful}
use Rattle.archive_editions.proofs.Written.{Wide, Enters, Entered}
use Rattle.archive_editions.proofs.Walkable.{Walkable}

-- a total within the bounds is not too wide
bounded_wide : (t : Total) → Bounded t → Wide t
bounded_wide t b = ((bounded_fits t b).sfits, omega (arith, b.count))

small_append : (us vs : List ℕ) → Small us → Small vs → Small (us ++ vs)
small_append us vs p q w m = cases (Memᴰ.append_cases us m) (p w) (q w)

-- a cell with its total is made of words
row-words : (E : Edition) → Tells E → (d : ℕ) (r : Row Figures) → Words d r.codes → Bounded r.total.sums → Readings r.total.extremes → Words (d + 3 + E.extra) (cell_words E.extra r)
row-words E tells d r c b e =
    let t = r.total in
    let w = bounded_wide t.sums b in
    let k = bits_lt 63 t.sums.sum w.0 in (
      omega (arith, length-append r.codes (total_front E.extra t), c.0, words-wide E tells t.extremes),
      small_append r.codes (total_front E.extra t) c.1 (small_cons (omega (arith, k)) (small_cons (omega (arith, k)) (small_cons w.1 (words-small E t.extremes e)))),
    )

-- a row's count is one of the counts
count-le : {r : Row Figures} (rows : List (Row Figures)) → r ∈ rows → r.total.sums.count ≤ count_of (sums_in rows)
count-le [] m = absurd (Memᴰ.not-nil m)
count-le {r} (q ∷ rows) m = cases (Memᴰ.cases_cons m)
    (λ e. let f : r.total.sums.count ≡ q.total.sums.count = ap (λ (p : Row Figures). p.total.sums.count) e in omega (arith, f))
    (λ i. omega (arith, count-le rows i))

-- The sums and counts of base rows are within the limits of archive_entries.
pub sums_limits : {H : Type 0} (F : Format H) (h : H) (rows : List (Row Figures)) → Sized (F.sizes h) → Limits F h rows → LimitsSums (F.sizes h) (sums_in rows)
sums_limits F h rows s l = record {
  sized = s;
  few = omega (arith, l.few, length-map rows (carried (λ f. f.sums)));
  rising = subst (Rising earlier) (sym (codes-carried (λ f. f.sums) rows)) l.rising;
  each = λ r m. let q = Memᴰ.of_map (carried (λ f. f.sums)) rows m in let f = l.each q.0 q.1 in
      subst (FairSums (F.sizes h)) q.2 (record { below = f.below; counted = f.counted; made = f.made });
  counts = l.counts;
}

module _ {H : Type 0} (F : Format H) (lawful : Lawful F) (h : H) (rows : List (Row Figures)) (l : Limits F h rows) where
  abbrev L : Lattice
  L = F.lattice h

  abbrev ready : Ready F h
  ready = lawful.ready h l.headed

  row_bounded : (r : Row Figures) → r ∈ rows → Bounded r.total.sums
  row_bounded r m = made_bounded r.total.sums (l.each r m).made (omega (arith, count-le rows m, l.counts))

  pub limits-summable : Summable (sums_in rows)
  limits-summable = record {
    each = λ t m. let q = Memᴰ.of_map (λ r. record { codes = r.codes; total = r.total.sums }) rows m in subst (λ (u : Row Total). Bounded u.total) q.2 (row_bounded q.0 q.1);
    few = l.counts;
  }

  code_below : (x : List ℕ) → x ∈ codes_of rows → (r : Row Figures) × (r ∈ rows) × (r.codes ≡ x)
  code_below x m = Memᴰ.of_map (λ r. r.codes) rows m

  pub limits-base : Base L (codes_of rows)
  limits-base = record {
    valid = λ x m. let q = code_below x m in subst L.valid q.2 (ready.valid q.0.codes (l.each q.0 q.1).below);
    distinct = rising-distinct earlier by_codes (codes_of rows) l.rising;
  }

  -- a cell that exists is made of words, with its total too
  exists_words : (c : List ℕ) → Exists L (codes_of rows) c → Words (F.width h) c
  exists_words c x = cases x
      (λ i. let q = code_below i.0 i.1 in
      let e = ready.laws.cell-of c i.0 (limits-base.valid i.0 i.1) i.2 in
      rw e.1 (subst (λ (y : List ℕ). Words (F.width h) (L.cell (L.node_of c) y)) q.2 (ready.cells (L.node_of c) q.0.codes e.0 (l.each q.0 q.1).below)))
      (λ i. rw (blank-whole L (codes_of rows) i) ready.whole)

  total-fits : (c : List ℕ) → Bounded (total L figures rows c).sums
  total-fits c = subst Bounded (sym (total-carried (λ f. f.sums) sums_carry L rows c)) (total_bounded L (sums_in rows) c limits-summable)

  normals-wide : {ws : List ℕ} → ws ∈ map (celled L F.edition.extra rows) (normals L (codes_of rows)) → Words (F.width h + 3 + F.edition.extra) ws
  normals-wide m =
      let q = Memᴰ.of_map (celled L F.edition.extra rows) (normals L (codes_of rows)) m in
      rw (← q.2) (row-words F.edition lawful.tells (F.width h) (filled L figures rows q.0) (exists_words q.0 (normals_exist L ready.laws (codes_of rows) limits-base q.1))
      (total-fits q.0) (total-readings L rows q.0 (λ r i. (l.each r i).kept.readings)))

  -- there are not many
  pub normals-few : length (normals L (codes_of rows)) < 2 ^ 32
  normals-few =
      let n = normals-most L ready.laws (codes_of rows) 1024 (omega arith) (omega (arith, l.few, length-map rows (λ q. q.codes))) in
      omega (arith, n, ready.few)

  -- our list of a row is made of words
  nodes-words : (x : List ℕ) → Small (listed L (codes_of rows) x)
  nodes-words x s m = ready.nodes s (proper_in L ready.laws (listed_in L ready.laws (codes_of rows) x m).0).0

  enters : (x : List ℕ) (before : ℕ) (r : Row Figures) → Fair F h r → earlier x r.codes ≡ true → before + r.total.sums.count ≤ most → Enters F (F.sizes h) x before (based L rows r)
  enters x before r f e k = record {
    below = f.below;
    after = e;
    wide = bounded_wide r.total.sums (made_bounded r.total.sums f.made (omega (arith, k)));
    fits = fair_of before r.total.sums.sum r.total.sums.count f.counted f.made k;
    kept = f.kept;
    short = ready.short (codes_of rows) r.codes;
    nodes = nodes-words r.codes;
  }

  entered : (x : List ℕ) (before : ℕ) (rs : List (Row Figures)) → ((r : Row Figures) → r ∈ rs → Fair F h r) → Rising earlier (x ∷ codes_of rs) → before + count_of (sums_in rs) ≤ most
      → Entered F (F.sizes h) x before (map (based L rows) rs)
  entered x before [] f g k = tt
  entered x before (r ∷ rs) f g k = (
    enters x before r (f r (Memᴰ.head refl)) (g.0 r.codes (Memᴰ.head refl)) (omega (arith, k)),
    entered r.codes (before + r.total.sums.count) rs (λ q m. f q (Memᴰ.tail m)) g.1 (omega (arith, k)),
  )

  -- no codes come before the first row
  first : (x : List ℕ) → x ∈ codes_of rows → earlier [] x ≡ true
  first x m =
      let q = code_below x m in
      let e : length x ≡ length (F.sizes h) = subst (λ (y : List ℕ). length y ≡ length (F.sizes h)) q.2 (length-below (F.sizes h) q.0.codes (l.each q.0 q.1).below) in
      earlier-none [] x refl (omega (arith, e, ready.sized.some))

  pub limits_walkable : Walkable F (required F h rows)
  unfolding required
  limits_walkable = record {
    headed = l.headed;
    few = omega (arith, l.few, length-map rows (based L rows));
    entered = entered [] 0 rows l.each (first, l.rising) (omega (arith, l.counts));
    count = omega (arith, normals-few, length-map (normals L (codes_of rows)) (celled L F.edition.extra rows));
    each = λ ws m. normals-wide m;
  }
