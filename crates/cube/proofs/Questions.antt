-- Questions to a condensed cube.
use mathlib.Core.Path.{◌≡◌, refl, sym, ◌∙◌, ap}
use mathlib.Core.Logic.{◌↔◌}
use mathlib.Core.Bool.{Bool, true, false, false≢true}
use mathlib.Core.Option.{some as just, none-ne-some}
use mathlib.Core.List.Memᴰ
use mathlib.Core.List.{List, [], ◌∷◌, map}
use Prim.Native.Nat.{ℕ, ◌+◌, zero, suc}
use lib.ListN.{length, get_elem?}
use Rattle.lists.specs.Lists.{◌∈◌, some, Pairwise}
use Rattle.lists.specs.Order.{same}
use Rattle.lists.proofs.Tests.{cases, truth, some_in, some_of}
use Rattle.lists.proofs.Order.{same-eq, same_refl}
use Rattle.lists.proofs.Places.{at-member, at_map, at_left, at_right, pairwise_places}
use Rattle.cube.specs.Measure.{Measure, Adds, Row, codes_of}
use Rattle.cube.specs.Lattice.{Lattice, Laws}
use Rattle.cube.specs.Cube.{within, Exists, total}
use Rattle.cube.specs.Condensed.{Entry, carries, Answer, no_record, found, lookup, normals, Base, stands, Condensed, base_entry, normal_entry, ours}
use Rattle.cube.proofs.Normals.{base-reach}
use Rattle.cube.proofs.Ours.{Apart, ours-apart}

abbrev has_record : {A : Type 0} → Answer A → Bool
has_record no_record = false
has_record (found n t) = true

-- the entry that answers is one that stands for the cell, and there is one if any does
lookup_no : (L : Lattice) {A : Type 0} (c : List ℕ) (es : List (Entry A)) → ((e : Entry A) → e ∈ es → c ∈ stands L e → ⊥) → lookup L c es ≡ no_record
lookup_no L c [] h = refl
lookup_no L c (e ∷ es) h = cases (truth (some (same c) (stands L e)))
    (λ f. let r = some_in (same c) (stands L e) f in absurd (h e (Memᴰ.head refl) (Memᴰ.cast (same-eq c r.0 r.2) r.1)))
    (λ f. rw (f, lookup_no L c es (λ g m. h g (Memᴰ.tail m))))

lookup_yes : (L : Lattice) {A : Type 0} (c : List ℕ) {e : Entry A} (es : List (Entry A)) → e ∈ es → c ∈ stands L e
    → (n : ℕ) × (g : Entry A) × (get_elem? es n ≡ just g) × (g ∈ es) × (c ∈ stands L g) × (lookup L c es ≡ found n (carries g))
lookup_yes L c [] m i = absurd (Memᴰ.not-nil m)
lookup_yes L c {e} (g ∷ es) m i = cases (truth (some (same c) (stands L g)))
    (λ f. let r = some_in (same c) (stands L g) f in
    (0, g, refl, Memᴰ.head refl, Memᴰ.cast (same-eq c r.0 r.2) r.1, rw f))
    (λ f. cases (Memᴰ.cases_cons m)
    (λ q. absurd (false≢true (sym f ∙ some_of (same c) (rw q at i) (same_refl c))))
    (λ j. let r = lookup_yes L c es j i in (suc r.0, r.1, r.2, Memᴰ.tail r.3, r.4, rw (f, r.5))))

-- where no two entries stand for one cell, the entry at n that stands for it answers
pub lookup-at : (L : Lattice) {A : Type 0} (c : List ℕ) {e : Entry A} (es : List (Entry A)) (n : ℕ) → Pairwise (Apart L) es
    → get_elem? es n ≡ just e → c ∈ stands L e → lookup L c es ≡ found n (carries e)
lookup-at L c {e} [] n p h i = absurd (none-ne-some e h)
lookup-at L c {e} (g ∷ es) zero p h i =
    let q : g ≡ e = cc in
    let f : some (same c) (stands L g) ≡ true = rw q (some_of (same c) i (same_refl c)) in
    rw (f, q)
lookup-at L c {e} (g ∷ es) (suc n) p h i = cases (truth (some (same c) (stands L g)))
    (λ f. let r = some_in (same c) (stands L g) f in
    absurd (p.0 e (at-member es n h) c (Memᴰ.cast (same-eq c r.0 r.2) r.1) i))
    (λ f. rw (f, lookup-at L c es n p.1 h i))

module _ (L : Lattice) {A : Type 0} (M : Measure A) (rows : List (Row A)) {es : List (Entry A)} (z : Condensed L M rows es) where
  -- A cell with rows is answered by its total and the number of an entry that stands for it; one without, by 'no record'.
  pub lookup-found : (c : List ℕ) → Exists L (codes_of rows) c
      → (n : ℕ) × (e : Entry A) × (get_elem? es n ≡ just e) × (c ∈ stands L e) × (lookup L c es ≡ found n (total L M rows c))
  lookup-found c h =
      let e = z.covers c h in
      let r = lookup_yes L c es e.1 e.2 in
      (r.0, r.1, r.2, r.4, rw (z.exact r.1 r.3 c r.4).1 r.5)

  pub lookup-none : (c : List ℕ) → (Exists L (codes_of rows) c → ⊥) → lookup L c es ≡ no_record
  lookup-none c h = lookup_no L c es (λ e m i. h (z.exact e m c i).0)

  pub lookup-none_iff : (c : List ℕ) → (lookup L c es ≡ no_record) ↔ (Exists L (codes_of rows) c → ⊥)
  lookup-none_iff c = (λ e h. let f = lookup-found c h in false≢true (ap has_record (sym e ∙ f.4)), lookup-none c)

-- Which entry of ours answers.
module _ (L : Lattice) (W : Laws L) {A : Type 0} (M : Measure A) (E : Adds M) (rows : List (Row A)) (b : Base L (codes_of rows)) (c : List ℕ) where
  -- where one row falls in the cell, its base entry;
  pub lookup-row : {r : Row A} (i : ℕ) → get_elem? rows i ≡ just r → within L (codes_of rows) c ≡ r.codes ∷ [] → lookup L c (ours L M rows) ≡ found i r.total
  unfolding ours
  lookup-row {r} i h w = lookup-at L c (ours L M rows) i (ours-apart L W M E rows b)
      (at_left (map (base_entry L M rows) rows) (map (normal_entry L M rows) (normals L (codes_of rows))) i (at_map (base_entry L M rows) rows i h))
      (base-reach L W (codes_of rows) b c w)

  -- where two or more do, the normal entry at its place among the normal cells.
  pub lookup-normal : (j : ℕ) → get_elem? (normals L (codes_of rows)) j ≡ just c → lookup L c (ours L M rows) ≡ found (length rows + j) (total L M rows c)
  unfolding ours
  lookup-normal j h = lookup-at L c (ours L M rows) (length rows + j) (ours-apart L W M E rows b)
      (at_right (base_entry L M rows) rows (map (normal_entry L M rows) (normals L (codes_of rows))) j ∙ at_map (normal_entry L M rows) (normals L (codes_of rows)) j h)
      (Memᴰ.head refl)

  -- No other entry of ours stands for the cell.
  pub one_entry : {e f : Entry A} (m n : ℕ) → get_elem? (ours L M rows) m ≡ just e → get_elem? (ours L M rows) n ≡ just f → c ∈ stands L e → c ∈ stands L f → m ≡ n
  one_entry m n h k i j = cases (pairwise_places (Apart L) (ours L M rows) m n (ours-apart L W M E rows b) h k) (λ q. q)
      (λ q. absurd (cases q (λ a. a c i j) (λ a. a c j i)))
