-- Base rows within the limits of document 01 can be totalled, and our entries of them are such as the walk passes.
use mathlib.Core.Path.{◌≡◌, refl, ap, ◌∙◌}
use mathlib.Core.Bool.{true}
use mathlib.Core.List.Memᴰ
use mathlib.Core.List.{List, [], ◌∷◌, map}
use Prim.Native.Nat.{ℕ, zero, suc, ◌+◌, ◌/◌, ◌%◌, ◌^◌, ◌≤◌, ◌<◌}
use native.Mathlib.Nat.{mul-le-mul_right}
use native.Mathlib.Omega.{arith}
use lib.ListN.{length, length-map, replicate, length-replicate}
use lib.Pow.{pow_mono}
use Rattle.lists.specs.Lists.{◌∈◌}
use Rattle.lists.specs.Order.{Rising, earlier}
use Rattle.lists.proofs.Tests.{cases}
use Rattle.lists.proofs.Order.{by_codes, earlier-none}
use Rattle.lists.proofs.Sorted.{rising-distinct}
use Rattle.lattice.specs.Sets.{sets}
use Rattle.lattice.proofs.Sets.{sets-in, sets-length}
use Rattle.fields_walk.proofs.Limits.{below-coded}
use Rattle.cube.specs.declared.Total.{Total}
use Rattle.cube.specs.Measure.{sums, Row, codes_of}
use Rattle.cube.specs.Bounds.{most, Bounded, count_of, Summable}
use Rattle.cube.specs.Codes.{ALL, Coded, shown, cell, plain}
use Rattle.cube.specs.Cube.{Exists, total, filled}
use Rattle.cube.specs.Condensed.{listed, normals, Base}
use Rattle.cube.specs.Table.{Table}
use Rattle.cube.proofs.Sums.{bounded_fits, total_bounded, made_bounded}
use Rattle.cube.proofs.Codes.{plain_laws, coded-length, length-cell}
use Rattle.cube.proofs.Nodes.{proper_in}
use Rattle.cube.proofs.Smallest.{listed_in}
use Rattle.cube.proofs.Existing.{blank-whole}
use Rattle.cube.proofs.Normals.{normals_exist, normals-most}
use Rattle.cube.proofs.Folding.{coded}
use Rattle.cube.proofs.Antichain.{listed-short}
use Rattle.archive_entries.specs.Layout.{based, required, Fair, Limits}
use Rattle.archive_entries.proofs.Fair.{fair_of}
use Rattle.archive_entries.proofs.Written.{Words, Wide, Enters, Entered}
use Rattle.archive_entries.proofs.Walkable.{Walkable}

-- ---- cells that exist, and our normal entries

-- a cell is made of words
pub cell-words : (d s : ℕ) (x : List ℕ) → Coded d x → Words d (cell s x)
cell-words d s x k = (length-cell s x ∙ coded-length d x k, go d s x k)
  where
    word : (b : ℕ) {a : ℕ} → a < ALL → shown b a < 2 ^ 32
    word zero h = omega arith
    word (suc b) h = omega (arith, h)

    go : (d s : ℕ) (x : List ℕ) → Coded d x → (w : ℕ) → w ∈ cell s x → w < 2 ^ 32
    go d s [] k w m = absurd (Memᴰ.not-nil m)
    go zero s (a ∷ x) k w m = absurd k
    go (suc d) s (a ∷ x) k w m = cases (Memᴰ.cases_cons m) (λ e. rw e (word (s % 2) k.0)) (go d (s / 2) x k.1 w)

-- all ALL too
alls_words : (d : ℕ) → Words d (replicate d ALL)
alls_words d = (length-replicate d ALL, go d)
  where
    go : (d w : ℕ) → w ∈ replicate d ALL → w < 2 ^ 32
    go zero w m = absurd (Memᴰ.not-nil m)
    go (suc d) w m = cases (Memᴰ.cases_cons m) (λ e. omega (arith, e)) (go d w)

-- a total within the bounds is not too wide
bounded_wide : (t : Total) → Bounded t → Wide t
bounded_wide t b = ((bounded_fits t b).sfits, omega (arith, b.count))

module _ (d : ℕ) (rows : List (Row Total)) where
  -- a cell that exists is made of words
  exists_words : Base (plain d) (codes_of rows) → (c : List ℕ) → Exists (plain d) (codes_of rows) c → Words d c
  exists_words b c x = cases x
      (λ h. let k = b.valid h.0 h.1 in
      let e = ((plain_laws d).cell-of c h.0 k h.2).1 in
      rw e (cell-words d _ h.0 k))
      (λ h. rw (blank-whole (plain d) (codes_of rows) h) (alls_words d))

  -- and its total is not too wide
  pub exists_wide : Base (plain d) (codes_of rows) → Summable rows → (c : List ℕ) → Exists (plain d) (codes_of rows) c → Words d c × Wide (total (plain d) sums rows c)
  exists_wide b s c x = (exists_words b c x, bounded_wide _ (total_bounded (plain d) rows c s))

  pub normals-wide : Base (plain d) (codes_of rows) → Summable rows → {r : Row Total} → r ∈ map (filled (plain d) sums rows) (normals (plain d) (codes_of rows))
      → Words d r.codes × Wide r.total
  normals-wide b s m =
      let q = Memᴰ.of_map (filled (plain d) sums rows) (normals (plain d) (codes_of rows)) m in
      rw (← q.2) (exists_wide b s q.0 (normals_exist (plain d) (plain_laws d) (codes_of rows) b q.1))

  -- there are not many
  pub normals-few : d ≤ 8 → length rows ≤ 1024 → length (normals (plain d) (codes_of rows)) ≤ 262144
  normals-few h k =
      let n = normals-most (plain d) (plain_laws d) (codes_of rows) 1024 (omega arith) (omega (arith, k, length-map rows (λ q. q.codes))) in
      let s : length (sets d) ≤ 256 = omega (arith, sets-length d, pow_mono h) in
      omega (arith, n, mul-le-mul_right 1024 s)

-- ---- base rows within the limits

pub count-le : {r : Row Total} (rows : List (Row Total)) → r ∈ rows → r.total.count ≤ count_of rows
count-le [] m = absurd (Memᴰ.not-nil m)
count-le {r} (q ∷ rows) m = cases (Memᴰ.cases_cons m)
    (λ e. let f : r.total.count ≡ q.total.count = ap (λ (p : Row Total). p.total.count) e in omega (arith, f))
    (λ i. omega (arith, count-le rows i))

module _ (zs : List ℕ) (rows : List (Row Total)) (l : Limits zs rows) where
  abbrev d : ℕ
  d = length zs

  pub limits-summable : Summable rows
  limits-summable = record { each = λ r m. made_bounded r.total (l.each r m).made (omega (arith, count-le rows m, l.counts)); few = l.counts }

  pub limits-table : Table d rows
  limits-table r m = below-coded zs r.codes (λ z i. (l.sized.each z i).1) (l.each r m).below

  pub limits-base : Base (plain d) (codes_of rows)
  limits-base = record {
    valid = coded d rows limits-table;
    distinct = rising-distinct earlier by_codes (codes_of rows) l.rising;
  }

  -- our list of a row is made of words
  sets-words : (x : List ℕ) (s : ℕ) → s ∈ listed (plain d) (codes_of rows) x → s < 2 ^ 32
  sets-words x s m =
      let p = (proper_in (plain d) (plain_laws d) (listed_in (plain d) (plain_laws d) (codes_of rows) x m).0).0 in
      omega (arith, sets-in d p, pow_mono l.sized.few)

  enters : (x : List ℕ) (before : ℕ) (r : Row Total) → Fair zs r → earlier x r.codes ≡ true → before + r.total.count ≤ most → Enters zs x before (based d rows r)
  enters x before r f e h = record {
    below = f.below;
    after = e;
    wide = bounded_wide r.total (made_bounded r.total f.made (omega (arith, h)));
    fits = fair_of before r.total.sum r.total.count f.counted f.made h;
    short = listed-short d l.sized.few (codes_of rows) r.codes;
    sets = sets-words r.codes;
  }

  entered : (x : List ℕ) (before : ℕ) (rs : List (Row Total)) → ((r : Row Total) → r ∈ rs → Fair zs r) → Rising earlier (x ∷ codes_of rs) → before + count_of rs ≤ most
      → Entered zs x before (map (based d rows) rs)
  entered x before [] f g h = tt
  entered x before (r ∷ rs) f g h = (
    enters x before r (f r (Memᴰ.head refl)) (g.0 r.codes (Memᴰ.head refl)) (omega (arith, h)),
    entered r.codes (before + r.total.count) rs (λ q m. f q (Memᴰ.tail m)) g.1 (omega (arith, h)),
  )

  -- no codes come before the first row
  first : (x : List ℕ) → x ∈ codes_of rows → earlier [] x ≡ true
  first x m = earlier-none [] x refl (omega (arith, coded-length d x (limits-base.valid x m), l.sized.some))

  pub limits_walkable : Walkable (required zs rows)
  unfolding required
  limits_walkable = record {
    sized = l.sized;
    few = omega (arith, l.few, length-map rows (based d rows));
    entered = entered [] 0 rows l.each (first, l.rising) (omega (arith, l.counts));
    count = omega (arith, normals-few d rows l.sized.few l.few, length-map (normals (plain d) (codes_of rows)) (filled (plain d) sums rows));
    each = λ r m. normals-wide d rows limits-base limits-summable m;
  }
