-- Extremes are a measure, alone and beside sums and counts. Those of rows are known just if every row's are, and then they are the least and the greatest of the rows'.
use mathlib.Core.Path.{◌≡◌, refl, sym, ap, ap₂, subst, ◌∙◌}
use mathlib.Core.Logic.{◌⊎◌, inl, inr}
use mathlib.Core.Bool.{Bool, true, false, cond, ◌&&◌, false≢true, and-true}
use mathlib.Core.List.Memᴰ
use mathlib.Core.List.{List, [], ◌∷◌, foldl, map}
use Prim.Native.Nat.{ℕ, ◌^◌, ◌≤◌, ◌<◌}
use native.Mathlib.Omega.{arith}
use borrow.Author.Tests.{leb-true, leb-false, le-leb}
use lib.IntN.{ℤ, pos, negsuc}
use lib.ListN.{length, length-map}
use lib.Signed.{le_z, mag}
use Rattle.lists.specs.Lists.{◌∈◌, every, keep}
use Rattle.lists.proofs.Tests.{cases, truth}
use Rattle.lists.proofs.Members.{keep_in}
use Rattle.cube.specs.Measure.{Adds, Carries, carried, sums, Row, total_of}
use Rattle.cube.specs.declared.Figures.{Figures}
use Rattle.cube.specs.declared.Extremes.{Extremes}
use Rattle.cube.specs.declared.Extremes.TheVariants.{Any, Unknown, Known}
use Rattle.cube.specs.Extremes.{lesser, greater, wider, spans, given, is_known, Given, Readings, figures}
use Rattle.cube.specs.Lattice.{Lattice}
use Rattle.cube.specs.Cube.{total}
use Rattle.cube.proofs.Sums.{sums-add}
use Rattle.cube.proofs.Regroup.{sum-cons}
use Rattle.cube.proofs.Carrying.{total_of-carried}

-- ---- the first of two in a linear order

record Linear {A : Type 0} (le : A → A → Bool) : Type 0 where
  trans : (a b c : A) → le a b ≡ true → le b c ≡ true → le a c ≡ true
  antisym : (a b : A) → le a b ≡ true → le b a ≡ true → a ≡ b
  linear : (a b : A) → le a b ≡ false → le b a ≡ true

module _ {A : Type 0} (le : A → A → Bool) (o : Linear le) where
  abbrev pick : A → A → A
  pick a b = cond (le a b) a b

  pick_comm : (a b : A) → pick a b ≡ pick b a
  pick_comm a b = cases (truth (le a b))
      (λ e. cases (truth (le b a)) (λ f. rw (e, f) (o.antisym a b e f)) (λ f. rw (e, f)))
      (λ e. rw (e, o.linear a b e))

  pick_assoc : (a b c : A) → pick (pick a b) c ≡ pick a (pick b c)
  pick_assoc a b c = cases (truth (le a b))
      (λ e. cases (truth (le b c)) (λ f. rw (e, f, e, o.trans a b c e f)) (λ f. rw (e, f)))
      (λ e. cases (truth (le b c)) (λ f. rw (e, f, e)) (λ f. rw (e, f) (last e f)))
    where
      last : le a b ≡ false → le b c ≡ false → c ≡ pick a c
      last e f = cases (truth (le a c))
          (λ g. absurd (false≢true (sym f ∙ o.trans b a c (o.linear a b e) g)))
          (λ g. rw g)

  pick_first : ((a : A) → le a a ≡ true) → (a b : A) → (le (pick a b) a ≡ true) × (le (pick a b) b ≡ true) × ((pick a b ≡ a) ⊎ (pick a b ≡ b))
  pick_first refl' a b = cases (truth (le a b)) (λ e. rw e (refl' a, e, inl refl)) (λ e. rw e (o.linear a b e, refl' b, inr refl))

-- ---- the order of readings

pub at-most_refl : (a : ℤ) → le_z a a ≡ true
at-most_refl (pos a) = le-leb a a (omega arith)
at-most_refl (negsuc a) = le-leb a a (omega arith)

at_most : Linear le_z
at_most = record { trans = le_trans; antisym = le_antisym; linear = le_total }
  where
    le_trans : (a b c : ℤ) → le_z a b ≡ true → le_z b c ≡ true → le_z a c ≡ true
    le_trans (pos a) (pos b) (pos c) e f = le-leb a c (omega (arith, leb-true a b e, leb-true b c f))
    le_trans (pos a) (pos b) (negsuc c) e f = f
    le_trans (pos a) (negsuc b) c e f = absurd (false≢true e)
    le_trans (negsuc a) (pos b) (pos c) e f = refl
    le_trans (negsuc a) (pos b) (negsuc c) e f = absurd (false≢true f)
    le_trans (negsuc a) (negsuc b) (pos c) e f = refl
    le_trans (negsuc a) (negsuc b) (negsuc c) e f = le-leb c a (omega (arith, leb-true b a e, leb-true c b f))

    le_antisym : (a b : ℤ) → le_z a b ≡ true → le_z b a ≡ true → a ≡ b
    le_antisym (pos a) (pos b) e f = ap pos (omega (arith, leb-true a b e, leb-true b a f))
    le_antisym (pos a) (negsuc b) e f = absurd (false≢true e)
    le_antisym (negsuc a) (pos b) e f = absurd (false≢true f)
    le_antisym (negsuc a) (negsuc b) e f = ap negsuc (omega (arith, leb-true b a e, leb-true a b f))

    le_total : (a b : ℤ) → le_z a b ≡ false → le_z b a ≡ true
    le_total (pos a) (pos b) e = le-leb b a (omega (arith, leb-false a b e))
    le_total (pos a) (negsuc b) e = refl
    le_total (negsuc a) (pos b) e = sym e
    le_total (negsuc a) (negsuc b) e = le-leb a b (omega (arith, leb-false b a e))

at_least : Linear (λ a b. le_z b a)
at_least = record { trans = λ a b c e f. at_most.trans c b a f e; antisym = λ a b e f. at_most.antisym a b f e; linear = λ a b e. at_most.linear b a e }

pub at-most-trans : (a b c : ℤ) → le_z a b ≡ true → le_z b c ≡ true → le_z a c ≡ true
at-most-trans = at_most.trans

pub lesser_comm : (a b : ℤ) → lesser a b ≡ lesser b a
lesser_comm = pick_comm le_z at_most

pub lesser_assoc : (a b c : ℤ) → lesser (lesser a b) c ≡ lesser a (lesser b c)
lesser_assoc = pick_assoc le_z at_most

pub greater_comm : (a b : ℤ) → greater a b ≡ greater b a
greater_comm = pick_comm (λ a b. le_z b a) at_least

pub greater_assoc : (a b c : ℤ) → greater (greater a b) c ≡ greater a (greater b c)
greater_assoc = pick_assoc (λ a b. le_z b a) at_least

-- ---- the measure

wider_comm : (d e : Extremes) → wider d e ≡ wider e d
wider_comm Any Any = refl
wider_comm Any Unknown = refl
wider_comm Any (Known a b) = refl
wider_comm Unknown Any = refl
wider_comm Unknown Unknown = refl
wider_comm Unknown (Known a b) = refl
wider_comm (Known a b) Any = refl
wider_comm (Known a b) Unknown = refl
wider_comm (Known a b) (Known c d) = ap₂ Known (lesser_comm a c) (greater_comm b d)

wider_assoc : (d e f : Extremes) → wider (wider d e) f ≡ wider d (wider e f)
wider_assoc Any e f = refl
wider_assoc Unknown Any f = refl
wider_assoc Unknown Unknown Any = refl
wider_assoc Unknown Unknown Unknown = refl
wider_assoc Unknown Unknown (Known a b) = refl
wider_assoc Unknown (Known a b) Any = refl
wider_assoc Unknown (Known a b) Unknown = refl
wider_assoc Unknown (Known a b) (Known c d) = refl
wider_assoc (Known a b) Any f = refl
wider_assoc (Known a b) Unknown Any = refl
wider_assoc (Known a b) Unknown Unknown = refl
wider_assoc (Known a b) Unknown (Known c d) = refl
wider_assoc (Known a b) (Known c d) Any = refl
wider_assoc (Known a b) (Known c d) Unknown = refl
wider_assoc (Known a b) (Known c d) (Known e f) = ap₂ Known (lesser_assoc a c e) (greater_assoc b d f)

pub spans-add : Adds spans
spans-add = record { none_more = λ e. refl; more_comm = wider_comm; more_assoc = wider_assoc }

pub figures-add : Adds figures
figures-add = record {
  none_more = λ a i. record { sums = sums-add.none_more a.sums i; extremes = spans-add.none_more a.extremes i };
  more_comm = λ a b i. record { sums = sums-add.more_comm a.sums b.sums i; extremes = spans-add.more_comm a.extremes b.extremes i };
  more_assoc = λ a b c i. record { sums = sums-add.more_assoc a.sums b.sums c.sums i; extremes = spans-add.more_assoc a.extremes b.extremes c.extremes i };
}

-- the sum and the count of figures, and their extremes, each go their own way
pub sums_carry : Carries (λ f. f.sums) figures sums
sums_carry = record { none = refl; more = λ a b. refl }

pub extremes_carry : Carries (λ f. f.extremes) figures spans
extremes_carry = record { none = refl; more = λ a b. refl }

-- ---- what the extremes of rows are

given-wider : (d e : Extremes) → given d ≡ true → given e ≡ true → (given (wider d e) ≡ true) × (is_known (wider d e) ≡ is_known d && is_known e)
given-wider Any e h k = absurd (false≢true h)
given-wider Unknown Any h k = absurd (false≢true k)
given-wider Unknown Unknown h k = (refl, refl)
given-wider Unknown (Known a b) h k = (refl, refl)
given-wider (Known a b) Any h k = absurd (false≢true k)
given-wider (Known a b) Unknown h k = (refl, refl)
given-wider (Known a b) (Known c d) h k = (refl, refl)

wider_any : (e : Extremes) → wider e Any ≡ e
wider_any Any = refl
wider_any Unknown = refl
wider_any (Known a b) = refl

-- Two rows made one have known extremes just if both have.
pub known_both : (d e : Extremes) → given d ≡ true → given e ≡ true → is_known (wider d e) ≡ is_known d && is_known e
known_both d e h k = (given-wider d e h k).1

-- The extremes of rows, of which there is one at least, are known just if every row's are.
known_more : (r : Row Extremes) (rows : List (Row Extremes)) → Given (r ∷ rows)
    → (given (total_of spans (r ∷ rows)) ≡ true) × (is_known (total_of spans (r ∷ rows)) ≡ every (λ q. is_known q.total) (r ∷ rows))
known_more r [] h = (h r (Memᴰ.head refl), sym (and-true (is_known r.total)))
known_more r (q ∷ rows) h =
    let m = known_more q rows (λ p i. h p (Memᴰ.tail i)) in
    let w = given-wider r.total (total_of spans (q ∷ rows)) (h r (Memᴰ.head refl)) m.0 in
    let e = sum-cons spans spans-add r (q ∷ rows) in
    (ap given e ∙ w.0, ap is_known e ∙ w.1 ∙ ap (λ (b : Bool). is_known r.total && b) m.1)

pub known_all : (rows : List (Row Extremes)) → 1 ≤ length rows → Given rows → is_known (total_of spans rows) ≡ every (λ q. is_known q.total) rows
known_all [] n h = absurd (omega (arith, n))
known_all (r ∷ rows) n h = (known_more r rows h).1

-- Known extremes of rows are a least and a greatest of theirs.
pub record Spanned (rows : List (Row Extremes)) (l g : ℤ) : Type 0 where
  pub each : (r : Row Extremes) → r ∈ rows → (a : ℤ) × (b : ℤ) × (r.total ≡ Known a b) × (le_z l a ≡ true) × (le_z b g ≡ true)
  pub least : (r : Row Extremes) × (b : ℤ) × (r ∈ rows) × (r.total ≡ Known l b)
  pub greatest : (r : Row Extremes) × (a : ℤ) × (r ∈ rows) × (r.total ≡ Known a g)

pub first-least : (a b : ℤ) → (le_z (lesser a b) a ≡ true) × (le_z (lesser a b) b ≡ true) × ((lesser a b ≡ a) ⊎ (lesser a b ≡ b))
first-least = pick_first le_z at_most at-most_refl

pub first-greatest : (a b : ℤ) → (le_z a (greater a b) ≡ true) × (le_z b (greater a b) ≡ true) × ((greater a b ≡ a) ⊎ (greater a b ≡ b))
first-greatest = pick_first (λ a b. le_z b a) at_least at-most_refl

spanned_one : (r : Row Extremes) (a b : ℤ) → r.total ≡ Known a b → Spanned (r ∷ []) a b
spanned_one r a b e = record {
  each = λ q m. cases (Memᴰ.cases_cons m) (λ i. (a, b, ap (λ (p : Row Extremes). p.total) i ∙ e, at-most_refl a, at-most_refl b)) (λ i. absurd (Memᴰ.not-nil i));
  least = (r, b, Memᴰ.head refl, e);
  greatest = (r, a, Memᴰ.head refl, e);
}

spanned_more : (r : Row Extremes) (rows : List (Row Extremes)) (a b c d : ℤ) → r.total ≡ Known a b → Spanned rows c d → Spanned (r ∷ rows) (lesser a c) (greater b d)
spanned_more r rows a b c d e s =
    let l = first-least a c in
    let g = first-greatest b d in
    record {
      each = λ q m. cases (Memᴰ.cases_cons m)
          (λ i. (a, b, ap (λ (p : Row Extremes). p.total) i ∙ e, l.0, g.0))
          (λ i. let t = s.each q i in (t.0, t.1, t.2, at_most.trans (lesser a c) c t.0 l.1 t.3, at_most.trans t.1 d (greater b d) t.4 g.1));
      least = cases l.2
          (λ i. (r, b, Memᴰ.head refl, e ∙ ap (λ (z : ℤ). Known z b) (sym i)))
          (λ i. let t = s.least in (t.0, t.1, Memᴰ.tail t.2, t.3 ∙ ap (λ (z : ℤ). Known z t.1) (sym i)));
      greatest = cases g.2
          (λ i. (r, a, Memᴰ.head refl, e ∙ ap (Known a) (sym i)))
          (λ i. let t = s.greatest in (t.0, t.1, Memᴰ.tail t.2, t.3 ∙ ap (Known t.1) (sym i)));
    }

pub spanned : (rows : List (Row Extremes)) {l g : ℤ} → Given rows → total_of spans rows ≡ Known l g → Spanned rows l g
spanned [] h e = absurd (false≢true (ap given e))
spanned (r ∷ []) {l} {g} h e = spanned_one r l g e
spanned (r ∷ q ∷ rows) {l} {g} h e =
    go (λ c d j. spanned (q ∷ rows) {l = c} {g = d} (λ p m. h p (Memᴰ.tail m)) j) r.total (total_of spans (q ∷ rows)) refl refl (sym (sum-cons spans spans-add r (q ∷ rows)) ∙ e)
  where
    go : ((c d : ℤ) → total_of spans (q ∷ rows) ≡ Known c d → Spanned (q ∷ rows) c d) → (x y : Extremes) → r.total ≡ x → total_of spans (q ∷ rows) ≡ y → wider x y ≡ Known l g → Spanned (r ∷ q ∷ rows) l g
    go f Any y i j k = absurd (false≢true (sym (ap given i) ∙ h r (Memᴰ.head refl)))
    go f Unknown Any i j k = absurd (false≢true (ap is_known k))
    go f Unknown Unknown i j k = absurd (false≢true (ap is_known k))
    go f Unknown (Known c d) i j k = absurd (false≢true (ap is_known k))
    go f (Known a b) Any i j k = absurd (false≢true (sym (ap given j) ∙ (known_more q rows (λ p m. h p (Memᴰ.tail m))).0))
    go f (Known a b) Unknown i j k = absurd (false≢true (ap is_known k))
    go f (Known a b) (Known c d) i j k =
        let x : lesser a c ≡ l = cc in
        let y : greater b d ≡ g = cc in
        subst (Spanned (r ∷ q ∷ rows) l) y (subst (λ (z : ℤ). Spanned (r ∷ q ∷ rows) z (greater b d)) x
        (spanned_more r (q ∷ rows) a b c d i (f c d j)))

every_map : {A B : Type 0} (p : B → Bool) (f : A → B) (l : List A) → every p (map f l) ≡ every (λ x. p (f x)) l
every_map p f [] = refl
every_map p f (x ∷ l) = ap (λ (b : Bool). p (f x) && b) (every_map p f l)

-- The same of rows with figures.
pub known_rows : (rows : List (Row Figures)) → 1 ≤ length rows → ((r : Row Figures) → r ∈ rows → given r.total.extremes ≡ true)
    → is_known (total_of figures rows).extremes ≡ every (λ r. is_known r.total.extremes) rows
known_rows rows n h =
    let f : Figures → Extremes = λ g. g.extremes in
    let l = map (carried f) rows in
    let told : Given l = λ q m. let r = Memᴰ.of_map (carried f) rows m in rw (← r.2) (h r.0 r.1) in
    ap is_known (total_of-carried f extremes_carry rows) ∙ known_all l (omega (arith, n, length-map rows (carried f))) told ∙ every_map (λ q. is_known q.total) (carried f) rows

-- Extremes that are readings stay so.
pub wider-readings : (d e : Extremes) → Readings d → Readings e → Readings (wider d e)
wider-readings Any e p q = q
wider-readings Unknown Any p q = tt
wider-readings Unknown Unknown p q = tt
wider-readings Unknown (Known a b) p q = tt
wider-readings (Known a b) Any p q = p
wider-readings (Known a b) Unknown p q = tt
wider-readings (Known a b) (Known c d) p q = (either_fits (le_z a c) a c p.0 q.0, either_fits (le_z d b) b d p.1 q.1)
  where
    either_fits : (t : Bool) (x y : ℤ) → mag x < 2 ^ 31 → mag y < 2 ^ 31 → mag (cond t x y) < 2 ^ 31
    either_fits true x y h k = h
    either_fits false x y h k = k

from-readings : (f : Figures) (rows : List (Row Figures)) → Readings f.extremes → ((r : Row Figures) → r ∈ rows → Readings r.total.extremes)
    → Readings (foldl (λ g r. figures.more g r.total) f rows).extremes
from-readings f [] h k = h
from-readings f (r ∷ rows) h k = from-readings (figures.more f r.total) rows (wider-readings f.extremes r.total.extremes h (k r (Memᴰ.head refl))) (λ q m. k q (Memᴰ.tail m))

pub total-readings : (L : Lattice) (rows : List (Row Figures)) (c : List ℕ) → ((r : Row Figures) → r ∈ rows → Readings r.total.extremes) → Readings (total L figures rows c).extremes
unfolding total
total-readings L rows c k = from-readings figures.none (keep (λ r. L.falls c r.codes) rows) tt (λ r m. k r (keep_in (λ r. L.falls c r.codes) rows m).0)
