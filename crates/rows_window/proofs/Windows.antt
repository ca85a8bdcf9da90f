-- A cell that has a window's code takes its rows from the window, so what is replied of it tells nothing of other rows.
use mathlib.Core.Path.{◌≡◌, refl, sym, ◌∙◌, ap, ap₂}
use mathlib.Core.Logic.{◌≢◌, inl, ◌↔◌}
use mathlib.Core.Bool.{Bool, true, ◌||◌, false≢true}
use mathlib.Core.List.Memᴰ
use mathlib.Core.List.{List, [], ◌∷◌}
use Prim.Native.Nat.{ℕ, zero, suc, ◌-◌, ◌≤◌, ◌<◌}
use native.Mathlib.Omega.{arith}
use lib.Dec.{eqb}
use lib.ListN.{length, get_or, replicate}
use borrow.Author.Tests.{eqb-true, eq-eqb}
use Rattle.lists.specs.Lists.{◌∈◌, some, keep, Distinct}
use Rattle.lists.specs.Order.{Rising, earlier}
use Rattle.lists.proofs.Tests.{cases, truth, both, some_in, some_of, some_not, refuted}
use Rattle.lists.proofs.Members.{keep_in, keep_of, keep-part}
use Rattle.lists.proofs.Pairwise.{pairwise_keep, pairwise_map, pairwise_of_map}
use Rattle.lists.proofs.Order.{by_codes}
use Rattle.lists.proofs.Sorted.{rising_unique, rising-distinct}
use Rattle.cube.specs.Measure.{Measure, Adds, Row, total_of, codes_of}
use Rattle.cube.specs.Lattice.{Lattice}
use Rattle.cube.specs.Codes.{ALL, falls, plain}
use Rattle.cube.specs.Cube.{Exists, total}
use Rattle.cube.specs.Condensed.{Entry, Base, Condensed, lookup, ours}
use Rattle.cube.proofs.Codes.{plain_laws}
use Rattle.cube.proofs.Existing.{blank-whole}
use Rattle.cube.proofs.Ours.{ours_condensed}
use Rattle.cube.proofs.Questions.{lookup-found, lookup-none}
use Rattle.rows_window.specs.Window.{at, seen, Agree, replied, unnumbered}

-- ---- any lattice: the rows that pass a test which all rows of a cell pass

module _ (L : Lattice) {A : Type 0} (M : Measure A) (p : List ℕ → Bool) (rows : List (Row A)) (c : List ℕ) (h : (x : List ℕ) → L.falls c x ≡ true → p x ≡ true) where
  abbrev part : List (Row A)
  part = keep (λ r. p r.codes) rows

  -- give the cell its total,
  total-part : total L M part c ≡ total L M rows c
  unfolding total
  total-part = ap (total_of M) (keep-part (λ r. L.falls c r.codes) (λ r. p r.codes) rows (λ r m. h r.codes))

  -- and fall in it where any do,
  some-part : some (λ r. L.falls c r.codes) part ≡ some (λ r. L.falls c r.codes) rows
  some-part = cases (truth (some (λ r. L.falls c r.codes) rows))
      (λ e. let r = some_in (λ r. L.falls c r.codes) rows e in
      some_of (λ r. L.falls c r.codes) (keep_of (λ r. p r.codes) r.1 (h r.0.codes r.2)) r.2 ∙ sym e)
      (λ e. refuted (λ f. let r = some_in (λ r. L.falls c r.codes) part f in
      false≢true (sym (some_not (λ r. L.falls c r.codes) e (keep_in (λ r. p r.codes) rows r.1).0) ∙ r.2)) ∙ sym e)

  -- so they reply as all rows do.
  pub replied-part : replied L M part c ≡ replied L M rows c
  unfolding replied
  replied-part = rw (total-part, some-part)

-- a cell other than that of an empty table exists just where a row falls in it
exists_some : (L : Lattice) {A : Type 0} (rows : List (Row A)) (c : List ℕ) → c ≢ L.whole → Exists L (codes_of rows) c ↔ (some (λ r. L.falls c r.codes) rows ≡ true)
exists_some L rows c n = (
  λ x. cases x
      (λ y. let r = Memᴰ.of_map (λ q. q.codes) rows y.1 in some_of (λ r. L.falls c r.codes) r.1 (ap (L.falls c) r.2 ∙ y.2))
      (λ b. absurd (n (blank-whole L (codes_of rows) b))),
  λ e. let r = some_in (λ r. L.falls c r.codes) rows e in inl (r.0.codes, Memᴰ.map (λ q. q.codes) r.1, r.2),
)

-- A look-up among the entries of any condensed cube, without its number, replies as the rows do, but for the cell of an empty table.
pub lookup-replied : (L : Lattice) {A : Type 0} (M : Measure A) (rows : List (Row A)) {es : List (Entry A)} → Condensed L M rows es
    → (c : List ℕ) → c ≢ L.whole → unnumbered (lookup L c es) ≡ replied L M rows c
unfolding replied
lookup-replied L M rows z c n = cases (truth (some (λ r. L.falls c r.codes) rows))
    (λ e. rw (e, (lookup-found L M rows z c ((exists_some L rows c n).1 e)).4))
    (λ e. rw (e, lookup-none L M rows z c (λ x. false≢true (sym e ∙ (exists_some L rows c n).0 x))))

-- ---- base rows are known by their members

module _ {A : Type 0} where
  -- rows with the same codes, no two the same, where each of the one is one of the other
  same_codes : (a b : List (Row A)) → codes_of a ≡ codes_of b → Distinct (codes_of a) → ((r : Row A) → r ∈ a → r ∈ b) → a ≡ b
  same_codes [] [] e u f = refl
  same_codes [] (q ∷ b) e u f = absurd (omega (arith, ap length e))
  same_codes (r ∷ a) [] e u f = absurd (omega (arith, ap length e))
  same_codes (r ∷ a) (q ∷ b) e u f =
      let x : r.codes ≡ q.codes = cc in
      let l : codes_of a ≡ codes_of b = cc in
      let behind : (s : Row A) → s ∈ b → r.codes ≡ s.codes → ⊥ = λ s m g. u.0 s.codes (rw l (Memᴰ.map (λ p. p.codes) m)) g in
      let first : r ≡ q = cases (Memᴰ.cases_cons (f r (Memᴰ.head refl))) (λ g. g) (λ m. absurd (behind r m refl)) in
      let rest : (s : Row A) → s ∈ a → s ∈ b = λ s m. cases (Memᴰ.cases_cons (f s (Memᴰ.tail m)))
      (λ g. absurd (u.0 s.codes (Memᴰ.map (λ p. p.codes) m) (x ∙ ap (λ (p : Row A). p.codes) (sym g))))
      (λ i. i) in
      ap₂ ◌∷◌ first (same_codes a b l u.1 rest)

  pub rows_unique : (a b : List (Row A)) → Rising earlier (codes_of a) → Rising earlier (codes_of b) → ((r : Row A) → r ∈ a → r ∈ b) → ((r : Row A) → r ∈ b → r ∈ a) → a ≡ b
  rows_unique a b u v f g =
      same_codes a b (rising_unique earlier by_codes (codes_of a) (codes_of b) u v
      (λ x m. let r = Memᴰ.of_map (λ q. q.codes) a m in rw (← r.2) (Memᴰ.map (λ q. q.codes) (f r.0 r.1)))
      (λ x m. let r = Memᴰ.of_map (λ q. q.codes) b m in rw (← r.2) (Memᴰ.map (λ q. q.codes) (g r.0 r.1))))
      (rising-distinct earlier by_codes (codes_of a) u) f

  seen-rising : (rows : List (Row A)) (i k : ℕ) → Rising earlier (codes_of rows) → Rising earlier (codes_of (seen i k rows))
  seen-rising rows i k u = pairwise_map (λ x y. earlier x y ≡ true) (λ r. r.codes) (seen i k rows)
      (pairwise_keep (λ p q. earlier p.codes q.codes ≡ true) (λ r. eqb (at i r.codes) k) rows (pairwise_of_map (λ x y. earlier x y ≡ true) (λ r. r.codes) rows u))

  -- Base rows that agree in a window have the same list of rows there.
  pub seen_same : (rows others : List (Row A)) (i k : ℕ) → Rising earlier (codes_of rows) → Rising earlier (codes_of others) → Agree i k rows others → seen i k rows ≡ seen i k others
  seen_same rows others i k u v g = rows_unique (seen i k rows) (seen i k others) (seen-rising rows i k u) (seen-rising others i k v)
      (λ r m. let p = keep_in (λ r. eqb (at i r.codes) k) rows m in keep_of (λ r. eqb (at i r.codes) k) (g.into r (eqb-true (at i r.codes) k p.1) p.0) p.1)
      (λ r m. let p = keep_in (λ r. eqb (at i r.codes) k) others m in keep_of (λ r. eqb (at i r.codes) k) (g.back r (eqb-true (at i r.codes) k p.1) p.0) p.1)

-- ---- sets of dimensions: a row in a cell has the cell's codes

falls_at : (c x : List ℕ) (j : ℕ) → falls c x ≡ true → get_or c j 0 ≢ ALL → get_or x j 0 ≡ get_or c j 0
falls_at [] [] j f n = refl
falls_at [] (b ∷ x) j f n = absurd (false≢true f)
falls_at (a ∷ c) [] j f n = absurd (false≢true f)
falls_at (a ∷ c) (b ∷ x) zero f n = cases (truth (eqb a ALL))
    (λ e. absurd (n (eqb-true a ALL e)))
    (λ e. sym (eqb-true a b (both (eqb a b) (falls c x) (rw e at f)).0))
falls_at (a ∷ c) (b ∷ x) (suc j) f n = falls_at c x j (both (eqb a ALL || eqb a b) (falls c x) f).1 n

whole-at : (d j : ℕ) → j < d → get_or (replicate d ALL) j 0 ≡ ALL
whole-at zero j h = absurd (omega arith)
whole-at (suc d) zero h = refl
whole-at (suc d) (suc j) h = whole-at d j (omega arith)

-- a cell c with the window's code, which is not ALL
module _ {A : Type 0} (M : Measure A) (d i k : ℕ) (c : List ℕ) (e : at i c ≡ k) (n : k ≢ ALL) where
  inside : (x : List ℕ) → falls c x ≡ true → eqb (at i x) k ≡ true
  inside x f = eq-eqb (at i x) k (falls_at c x (i - 1) f (λ h. n (sym e ∙ h)) ∙ e)

  -- is not that of an empty table,
  not_whole : 1 ≤ i → i ≤ d → c ≢ replicate d ALL
  not_whole one low f = n (sym e ∙ ap (at i) f ∙ whole-at d (i - 1) (omega (arith, one, low)))

  -- has the total of the rows in the window, and exists where one of them falls in it:
  pub seen-total : (rows : List (Row A)) → total (plain d) M (seen i k rows) c ≡ total (plain d) M rows c
  seen-total rows = total-part (plain d) M (λ x. eqb (at i x) k) rows c inside

  seen-some : (rows : List (Row A)) → some (λ r. falls c r.codes) (seen i k rows) ≡ some (λ r. falls c r.codes) rows
  seen-some rows = some-part (plain d) M (λ x. eqb (at i x) k) rows c inside

  pub seen_exists : 1 ≤ i → i ≤ d → (rows : List (Row A)) → Exists (plain d) (codes_of (seen i k rows)) c ↔ Exists (plain d) (codes_of rows) c
  seen_exists one low rows = let w = not_whole one low in (
    λ x. (exists_some (plain d) rows c w).1 (sym (seen-some rows) ∙ (exists_some (plain d) (seen i k rows) c w).0 x),
    λ x. (exists_some (plain d) (seen i k rows) c w).1 (seen-some rows ∙ (exists_some (plain d) rows c w).0 x),
  )

  -- a look-up for it among our entries of all rows, without its number, is the reply of the rows in the window alone.
  pub lookup-seen : Adds M → 1 ≤ i → i ≤ d → (rows : List (Row A)) → Base (plain d) (codes_of rows)
      → unnumbered (lookup (plain d) c (ours (plain d) M rows)) ≡ replied (plain d) M (seen i k rows) c
  lookup-seen E one low rows b =
      lookup-replied (plain d) M rows (ours_condensed (plain d) (plain_laws d) M E rows b) c (not_whole one low)
      ∙ sym (replied-part (plain d) M (λ x. eqb (at i x) k) rows c inside)
