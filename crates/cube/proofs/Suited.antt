-- Least and greatest suit sum and count: those of a reading do, and those of rows that are added do if the rows' do.
use mathlib.Core.Path.{◌≡◌, refl, sym, ap, subst, ◌∙◌}
use mathlib.Core.Logic.{◌⊎◌}
use mathlib.Core.Bool.{Bool, true, ◌&&◌}
use mathlib.Core.List.Memᴰ
use mathlib.Core.List.{List, [], ◌∷◌}
use Prim.Native.Nat.{ℕ, zero, suc, ◌+◌, ◌-◌, ◌^◌, ◌≤◌, ◌<◌}
use native.Mathlib.Omega.{arith}
use borrow.Author.Tests.{le-leb}
use lib.IntN.{ℤ, pos, negsuc, ◌+ℤ◌, ◌*ℤ◌, +ℤ_idr, +ℤ_comm, +ℤ_assoc, zero-*ℤ}
use lib.ListN.{length}
use lib.Signed.{le_z, mag}
use Rattle.lists.specs.Lists.{◌∈◌}
use Rattle.lists.proofs.Tests.{both, both_of, cases}
use Rattle.cube.specs.declared.Total.{Total}
use Rattle.cube.specs.Measure.{plus, Row, total_of}
use Rattle.cube.specs.declared.Figures.{Figures}
use Rattle.cube.specs.declared.Extremes.{Extremes}
use Rattle.cube.specs.declared.Extremes.TheVariants.{Any, Unknown, Known}
use Rattle.cube.specs.Extremes.{lesser, greater, wider, figures, reading}
use Rattle.cube.specs.Bounds.{can_make, suits, Suited, Makes}
use Rattle.cube.proofs.Made.{can_plus}
use Rattle.cube.proofs.Integers.{add_most, times_suc}
use Rattle.cube.proofs.Regroup.{sum-cons}
use Rattle.cube.proofs.Spans.{at-most_refl, at-most-trans, first-least, first-greatest, wider-readings, figures-add}

-- ---- the order of integers, sums and multiples

times_add : (m n : ℕ) (k : ℤ) → pos (m + n) *ℤ k ≡ pos m *ℤ k +ℤ pos n *ℤ k
times_add m zero k = let e : m + 0 ≡ m = omega arith in ap (λ (n : ℕ). pos n *ℤ k) e ∙ sym (ap (λ (z : ℤ). pos m *ℤ k +ℤ z) (zero-*ℤ k) ∙ +ℤ_idr (pos m *ℤ k))
times_add m (suc n) k = let e : m + suc n ≡ suc (m + n) = omega arith in ap (λ (j : ℕ). pos j *ℤ k) e ∙ times_suc (m + n) k ∙ ap (λ (z : ℤ). z +ℤ k) (times_add m n k) ∙ +ℤ_assoc (pos m *ℤ k) (pos n *ℤ k) k ∙ ap (λ (z : ℤ). pos m *ℤ k +ℤ z) (sym (times_suc n k))

times_most : (n : ℕ) (a b : ℤ) → le_z a b ≡ true → le_z (pos n *ℤ a) (pos n *ℤ b) ≡ true
times_most zero a b e = rw (zero-*ℤ a, zero-*ℤ b) refl
times_most (suc n) a b e = rw (times_suc n a, times_suc n b) (add_most (pos n *ℤ a) (pos n *ℤ b) a b (times_most n a b e) e)

-- ---- one bound of a sum, in the order of readings or its reverse

record Bounding (le : ℤ → ℤ → Bool) : Type 0 where
  trans : (a b c : ℤ) → le a b ≡ true → le b c ≡ true → le a c ≡ true
  add : (a b c d : ℤ) → le a b ≡ true → le c d ≡ true → le (a +ℤ c) (b +ℤ d) ≡ true
  times : (n : ℕ) (a b : ℤ) → le a b ≡ true → le (pos n *ℤ a) (pos n *ℤ b) ≡ true
  same : (a : ℤ) → le a a ≡ true

upwards : Bounding le_z
upwards = record { trans = at-most-trans; add = add_most; times = times_most; same = at-most_refl }

downwards : Bounding (λ a b. le_z b a)
downwards = record { trans = λ a b c e f. at-most-trans c b a f e; add = λ a b c d e f. add_most b a d c e f; times = λ n a b e. times_most n b a e; same = at-most_refl }

module _ (le : ℤ → ℤ → Bool) (o : Bounding le) where
  -- n + 1 readings up to G, of which one is L at most
  with_one : (n : ℕ) (s l g L G : ℤ) → le s (l +ℤ pos n *ℤ g) ≡ true → le l L ≡ true → le g G ≡ true → le s (L +ℤ pos n *ℤ G) ≡ true
  with_one n s l g L G e f h = o.trans s (l +ℤ pos n *ℤ g) (L +ℤ pos n *ℤ G) e (o.add l L (pos n *ℤ g) (pos n *ℤ G) f (o.times n g G h))

  -- n + 1 readings up to G
  with_all : (n : ℕ) (s l g G : ℤ) → le s (l +ℤ pos n *ℤ g) ≡ true → le l g ≡ true → le g G ≡ true → le s (pos (suc n) *ℤ G) ≡ true
  with_all n s l g G e f h = rw (times_suc n G, +ℤ_comm (pos n *ℤ G) G) (with_one n s l g G G e (o.trans l g G f h) h)

  -- two sums with their bounds: the one that has L has the first bound
  bound_both : (m n : ℕ) (s t L G : ℤ) → le s (L +ℤ pos m *ℤ G) ≡ true → le t (pos (suc n) *ℤ G) ≡ true → le (s +ℤ t) (L +ℤ pos (m + suc n) *ℤ G) ≡ true
  bound_both m n s t L G e f =
      rw (times_add m (suc n) G, ← +ℤ_assoc L (pos m *ℤ G) (pos (suc n) *ℤ G)) (o.add s (L +ℤ pos m *ℤ G) t (pos (suc n) *ℤ G) e f)

  bound_more : (m n : ℕ) (s l g t k h L G : ℤ) → le s (l +ℤ pos m *ℤ g) ≡ true → le t (k +ℤ pos n *ℤ h) ≡ true → le l g ≡ true → le k h ≡ true
      → (L ≡ l) ⊎ (L ≡ k) → le g G ≡ true → le h G ≡ true → le (s +ℤ t) (L +ℤ pos (m + suc n) *ℤ G) ≡ true
  bound_more m n s l g t k h L G e f p q one u v = cases one
      (λ i. bound_both m n s t L G (with_one m s l g L G e (rw i (o.same l)) u) (with_all n t k h G f q v))
      (λ i. let z : n + suc m ≡ m + suc n = omega arith in
      rw (+ℤ_comm s t, ← z) (bound_both n m t s L G (with_one n t k h L G f (rw i (o.same k)) v) (with_all m s l g G e p u)))

-- ---- rows that are added

suits-parts : (t : Total) (l g : ℤ) → suits t l g ≡ true → (le_z l g ≡ true) × (le_z (g +ℤ pos (t.count - 1) *ℤ l) t.sum ≡ true) × (le_z t.sum (l +ℤ pos (t.count - 1) *ℤ g) ≡ true)
unfolding suits
suits-parts t l g e =
    let p = both (le_z l g) (le_z (g +ℤ pos (t.count - 1) *ℤ l) t.sum && le_z t.sum (l +ℤ pos (t.count - 1) *ℤ g)) e in
    let q = both (le_z (g +ℤ pos (t.count - 1) *ℤ l) t.sum) (le_z t.sum (l +ℤ pos (t.count - 1) *ℤ g)) p.1 in
    (p.0, q.0, q.1)

suits_of : (t : Total) (l g : ℤ) → le_z l g ≡ true → le_z (g +ℤ pos (t.count - 1) *ℤ l) t.sum ≡ true → le_z t.sum (l +ℤ pos (t.count - 1) *ℤ g) ≡ true → suits t l g ≡ true
unfolding suits
suits_of t l g e f h = both_of e (both_of f h)

pub suits-plus : (t u : Total) (l g k h : ℤ) → 1 ≤ t.count → 1 ≤ u.count → suits t l g ≡ true → suits u k h ≡ true → suits (plus t u) (lesser l k) (greater g h) ≡ true
suits-plus t u l g k h i j p q =
    let x = suits-parts t l g p in
    let y = suits-parts u k h q in
    let least = first-least l k in
    let most = first-greatest g h in
    let n : (t.count - 1) + suc (u.count - 1) ≡ t.count + u.count - 1 = omega arith in
    let low = bound_more (λ a b. le_z b a) downwards (t.count - 1) (u.count - 1) t.sum g l u.sum h k (greater g h) (lesser l k) x.1 y.1 x.0 y.0 most.2 least.0 least.1 in
    let high = bound_more le_z upwards (t.count - 1) (u.count - 1) t.sum l g u.sum k h (lesser l k) (greater g h) x.2 y.2 x.0 y.0 least.2 most.0 most.1 in
    suits_of (plus t u) (lesser l k) (greater g h)
    (at-most-trans (lesser l k) l (greater g h) least.0 (at-most-trans l g (greater g h) x.0 most.0))
    (subst (λ (m : ℕ). le_z (greater g h +ℤ pos m *ℤ lesser l k) (t.sum +ℤ u.sum) ≡ true) n low)
    (subst (λ (m : ℕ). le_z (t.sum +ℤ u.sum) (lesser l k +ℤ pos m *ℤ greater g h) ≡ true) n high)

-- extremes that suit, of two
suited-plus : (t u : Total) (d e : Extremes) → 1 ≤ t.count → 1 ≤ u.count → Suited t d → Suited u e → Suited (plus t u) (wider d e)
suited-plus t u Any e i j p q = absurd p
suited-plus t u Unknown Any i j p q = absurd q
suited-plus t u Unknown Unknown i j p q = tt
suited-plus t u Unknown (Known k h) i j p q = tt
suited-plus t u (Known l g) Any i j p q = absurd q
suited-plus t u (Known l g) Unknown i j p q = tt
suited-plus t u (Known l g) (Known k h) i j p q =
    let r = wider-readings (Known l g) (Known k h) (p.0, p.1) (q.0, q.1) in
    (r.0, r.1, suits-plus t u l g k h i j p.2 q.2)

-- Figures that readings can make stay so when they are added,
pub makes_more : (f g : Figures) → Makes f → Makes g → Makes (figures.more f g)
makes_more f g m n = record {
  counted = omega (arith, m.counted);
  made = can_plus f.sums.count g.sums.count f.sums.sum g.sums.sum m.made n.made;
  suited = suited-plus f.sums g.sums f.extremes g.extremes m.counted n.counted m.suited n.suited;
}

-- in rows, of which there is one at least.
pub makes_total : (rows : List (Row Figures)) → 1 ≤ length rows → ((r : Row Figures) → r ∈ rows → Makes r.total) → Makes (total_of figures rows)
makes_total [] h k = absurd (omega (arith, h))
makes_total (r ∷ []) h k = subst Makes (sym (figures-add.none_more r.total)) (k r (Memᴰ.head refl))
makes_total (r ∷ q ∷ rows) h k = subst Makes (sym (sum-cons figures figures-add r (q ∷ rows)))
    (makes_more r.total (total_of figures (q ∷ rows)) (k r (Memᴰ.head refl)) (makes_total (q ∷ rows) (omega arith) (λ p m. k p (Memᴰ.tail m))))

-- One reading is least and greatest.
pub suits-lone : (z : ℤ) → suits (record { sum = z; count = 1 }) z z ≡ true
unfolding suits
suits-lone z =
    let e : z +ℤ pos 0 *ℤ z ≡ z = ap (λ (y : ℤ). z +ℤ y) (zero-*ℤ z) ∙ +ℤ_idr z in
    both_of (at-most_refl z) (both_of (ap (λ (y : ℤ). le_z y z) e ∙ at-most_refl z) (ap (le_z z) e ∙ at-most_refl z))

reading-made : (z : ℤ) → mag z < 2 ^ 31 → can_make 1 z ≡ true
unfolding can_make
reading-made (pos m) h = le-leb m 2147483647 (omega (arith, h))
reading-made (negsuc m) h = both_of (le-leb m 2147483647 (omega (arith, h))) refl

pub makes_reading : (z : ℤ) → mag z < 2 ^ 31 → Makes (reading z)
makes_reading z h = record { counted = omega arith; made = reading-made z h; suited = (h, h, suits-lone z) }
