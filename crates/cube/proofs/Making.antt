-- A sum passes the test of stop 8 just if so many readings make it, and a least and a greatest reading that of stop 19 just if such readings have them.
use mathlib.Core.Path.{◌≡◌, refl, sym, ap, ap₂, subst, ◌∙◌}
use mathlib.Core.Logic.{◌↔◌}
use mathlib.Core.Bool.{Bool, true, ◌&&◌}
use mathlib.Core.List.Memᴰ
use mathlib.Core.List.{List, [], ◌∷◌, map}
use Prim.Native.Nat.{ℕ, zero, suc, ◌+◌, ◌-◌, ◌*◌, ◌^◌, ◌≤◌, ◌<◌}
use native.Mathlib.Nat.{suc-mul}
use native.Mathlib.Omega.{arith}
use borrow.Author.Tests.{le-leb, leb-true}
use lib.IntN.{ℤ, pos, negsuc, ◌+ℤ◌, ◌*ℤ◌, +ℤ_idr, +ℤ_comm, +ℤ_assoc, zero-*ℤ, *ℤ_comm}
use lib.ListN.{length, length-map}
use lib.Signed.{le_z, mag}
use Rattle.lists.specs.Lists.{◌∈◌, sum as added}
use Rattle.lists.proofs.Tests.{both, both_of, cases}
use Rattle.cube.specs.declared.Total.{Total}
use Rattle.cube.specs.Bounds.{can_make, suits, Makes}
use Rattle.cube.specs.declared.Extremes.TheVariants.{Known}
use Rattle.cube.specs.Making.{Reading, sum_of, Make, Span}
use Rattle.cube.proofs.Spans.{at-most_refl, at-most-trans}
use Rattle.cube.proofs.Integers.{slack, more-most, add_swap, add_most, add_cancel, at-most-both, times_suc, times_more}

-- ---- n numbers up to w that add up to k

-- each as great as it can be
abbrev pieces : ℕ → ℕ → ℕ → List ℕ
pieces zero w k = []
pieces (suc n) w k = (k - (k - w)) ∷ pieces n w (k - w)

pieces_length : (n w k : ℕ) → length (pieces n w k) ≡ n
pieces_length zero w k = refl
pieces_length (suc n) w k = ap suc (pieces_length n w (k - w))

pieces_most : (n w k : ℕ) {j : ℕ} → j ∈ pieces n w k → j ≤ w
pieces_most zero w k m = absurd (Memᴰ.not-nil m)
pieces_most (suc n) w k m = cases (Memᴰ.cases_cons m) (λ e. omega (arith, e)) (pieces_most n w (k - w))

pieces_added : (n w k : ℕ) → k ≤ n * w → added (pieces n w k) ≡ k
pieces_added zero w k h = omega (arith, h)
pieces_added (suc n) w k h = omega (arith, pieces_added n w (k - w) (omega (arith, h, suc-mul n w)))

-- ---- n integers from l on, each up to w more, with any sum between

-- each of ks more than l
abbrev above : ℤ → List ℕ → List ℤ
above l ks = map (λ k. l +ℤ pos k) ks

sum-above : (l : ℤ) (ks : List ℕ) → sum_of (above l ks) ≡ pos (length ks) *ℤ l +ℤ pos (added ks)
sum-above l [] = sym (+ℤ_idr (pos 0 *ℤ l) ∙ zero-*ℤ l)
sum-above l (k ∷ ks) =
    ap (λ (z : ℤ). (l +ℤ pos k) +ℤ z) (sum-above l ks)
    ∙ add_swap l (pos k) (pos (length ks) *ℤ l) (pos (added ks))
    ∙ ap (λ (z : ℤ). z +ℤ pos (k + added ks)) (+ℤ_comm l (pos (length ks) *ℤ l) ∙ sym (times_suc (length ks) l))

record Between (l g : ℤ) (n : ℕ) (z : ℤ) : Type 0 where
  them : List ℤ
  count : length them ≡ n
  sum : sum_of them ≡ z
  from : (y : ℤ) → y ∈ them → le_z l y ≡ true
  to : (y : ℤ) → y ∈ them → le_z y g ≡ true

between : (l g z : ℤ) (n w k : ℕ) → l +ℤ pos w ≡ g → pos n *ℤ l +ℤ pos k ≡ z → k ≤ n * w → Between l g n z
between l g z n w k e f h =
    let ks = pieces n w k in
    record {
      them = above l ks;
      count = length-map ks _ ∙ pieces_length n w k;
      sum = sum-above l ks ∙ ap₂ (λ (m j : ℕ). pos m *ℤ l +ℤ pos j) (pieces_length n w k) (pieces_added n w k h) ∙ f;
      from = λ y m. let p = Memᴰ.of_map (λ k. l +ℤ pos k) ks m in subst (λ (x : ℤ). le_z l x ≡ true) p.2 (more-most l p.0);
      to = λ y m.
          let p = Memᴰ.of_map (λ k. l +ℤ pos k) ks m in
          subst (λ (x : ℤ). le_z x g ≡ true) p.2 (ap (le_z (l +ℤ pos p.0)) (sym e) ∙ add_most l l (pos p.0) (pos w) (at-most_refl l) (le-leb p.0 w (pieces_most n w k p.1)));
    }

-- from l to g so many integers have any sum from n * l to n * g
between_sums : (l g z : ℤ) (n : ℕ) → le_z l g ≡ true → le_z (pos n *ℤ l) z ≡ true → le_z z (pos n *ℤ g) ≡ true → Between l g n z
between_sums l g z n o e f =
    let w = slack l g o in
    let k = slack (pos n *ℤ l) z e in
    let j = slack z (pos n *ℤ g) f in
    let all : pos n *ℤ l +ℤ pos (k.0 + j.0) ≡ pos n *ℤ l +ℤ pos (n * w.0)
    = sym (+ℤ_assoc (pos n *ℤ l) (pos k.0) (pos j.0)) ∙ ap (λ (y : ℤ). y +ℤ pos j.0) k.1 ∙ j.1 ∙ ap (λ (y : ℤ). pos n *ℤ y) (sym w.1) ∙ times_more n w.0 l in
    between l g z n w.0 k.0 w.1 k.1 (omega (arith, add_cancel (pos n *ℤ l) (k.0 + j.0) (n * w.0) all))

-- ---- a bound of a sum, in the order of readings or its reverse

members-some : {A : Type 0} {x : A} {l : List A} → x ∈ l → 1 ≤ length l
members-some {l = []} m = absurd (Memᴰ.not-nil m)
members-some {l = y ∷ l} m = omega arith

-- l once more
one_more : (n : ℕ) (l g : ℤ) → l +ℤ (g +ℤ pos n *ℤ l) ≡ g +ℤ pos (suc n) *ℤ l
one_more n l g = +ℤ_comm l (g +ℤ pos n *ℤ l) ∙ +ℤ_assoc g (pos n *ℤ l) l ∙ ap (λ (y : ℤ). g +ℤ y) (sym (times_suc n l))

module _ (le : ℤ → ℤ → Bool) (same : (a : ℤ) → le a a ≡ true) (add : (a b c d : ℤ) → le a b ≡ true → le c d ≡ true → le (a +ℤ c) (b +ℤ d) ≡ true) (l : ℤ) where
  bound_all : (zs : List ℤ) → ((z : ℤ) → z ∈ zs → le l z ≡ true) → le (pos (length zs) *ℤ l) (sum_of zs) ≡ true
  bound_all [] h = ap (λ (y : ℤ). le y (pos 0)) (zero-*ℤ l) ∙ same (pos 0)
  bound_all (z ∷ zs) h =
      ap (λ (y : ℤ). le y (z +ℤ sum_of zs)) (times_suc (length zs) l ∙ +ℤ_comm (pos (length zs) *ℤ l) l)
      ∙ add l z (pos (length zs) *ℤ l) (sum_of zs) (h z (Memᴰ.head refl)) (bound_all zs (λ y m. h y (Memᴰ.tail m)))

  -- where one of them is g
  bound_one : (g : ℤ) (zs : List ℤ) → g ∈ zs → ((z : ℤ) → z ∈ zs → le l z ≡ true) → le (g +ℤ pos (length zs - 1) *ℤ l) (sum_of zs) ≡ true
  bound_one g [] m h = absurd (Memᴰ.not-nil m)
  bound_one g (z ∷ zs) m h = ap (λ (k : ℕ). le (g +ℤ pos k *ℤ l) (z +ℤ sum_of zs)) one ∙ cases (Memᴰ.cases_cons m)
      (λ e. add g z (pos (length zs) *ℤ l) (sum_of zs) (ap (le g) (sym e) ∙ same g) (bound_all zs (λ y i. h y (Memᴰ.tail i))))
      (λ i. ap (λ (y : ℤ). le y (z +ℤ sum_of zs)) (sym (one_more (length zs - 1) l g ∙ ap (λ (k : ℕ). g +ℤ pos k *ℤ l) (some i)))
      ∙ add l z (g +ℤ pos (length zs - 1) *ℤ l) (sum_of zs) (h z (Memᴰ.head refl)) (bound_one g zs i (λ y i. h y (Memᴰ.tail i))))
    where
      one : suc (length zs) - 1 ≡ length zs
      one = omega arith

      some : g ∈ zs → suc (length zs - 1) ≡ length zs
      some i = omega (arith, members-some i)

-- ---- the tests

-- a reading is what 32 bits hold
reading_mag : (z : ℤ) → Reading z → mag z < 2 ^ 31
reading_mag (pos m) r = omega (arith, leb-true m 2147483647 r.high)
reading_mag (negsuc m) r = omega (arith, leb-true m 2147483647 r.low)

mag_reading : (z : ℤ) → mag z < 2 ^ 31 → Reading z
mag_reading (pos m) h = record { low = refl; high = le-leb m 2147483647 (omega (arith, h)) }
mag_reading (negsuc m) h = record { low = le-leb m 2147483647 (omega (arith, h)); high = refl }

-- a least and a greatest reading, and the others between
module _ (l g : ℤ) (p : Reading l) (q : Reading g) (o : le_z l g ≡ true) where
  abbrev Spanned : ℕ → ℤ → Type 0
  Spanned n z = (zs : List ℤ) × Make zs (record { sum = z; count = n }) × Span zs l g

  spanned_one : (z : ℤ) → le_z (g +ℤ pos 0 *ℤ l) z ≡ true → le_z z (l +ℤ pos 0 *ℤ g) ≡ true → Spanned 1 z
  spanned_one z e f =
      let x : le_z g z ≡ true = ap (λ (y : ℤ). le_z y z) (sym (none g l)) ∙ e in
      let y : le_z z l ≡ true = ap (le_z z) (sym (none l g)) ∙ f in
      let a : l ≡ z = at-most-both l z (at-most-trans l g z o x) y in
      let b : g ≡ z = at-most-both g z x (at-most-trans z l g y o) in (
        z ∷ [],
        record { each = λ u m. subst Reading (a ∙ sym (Memᴰ.eq_of_singleton m)) p; count = refl; sum = +ℤ_idr z },
        record {
          least = Memᴰ.head a;
          greatest = Memᴰ.head b;
          from = λ u m. ap₂ le_z a (Memᴰ.eq_of_singleton m) ∙ at-most_refl z;
          to = λ u m. ap₂ le_z (Memᴰ.eq_of_singleton m) b ∙ at-most_refl z;
        },
      )
    where
      none : (a b : ℤ) → a +ℤ pos 0 *ℤ b ≡ a
      none a b = ap (λ (y : ℤ). a +ℤ y) (zero-*ℤ b) ∙ +ℤ_idr a

  -- l, g and others
  with_both : (P : ℤ → Type 0) → P l → P g → (zs : List ℤ) → ((u : ℤ) → u ∈ zs → P u) → (u : ℤ) → u ∈ l ∷ g ∷ zs → P u
  with_both P a b zs h u m = cases (Memᴰ.cases_cons m) (λ e. subst P (sym e) a) (λ i. cases (Memᴰ.cases_cons i) (λ e. subst P (sym e) b) (h u))

  spanned_with : (m : ℕ) (y z : ℤ) → Between l g m y → l +ℤ (g +ℤ y) ≡ z → Spanned (suc (suc m)) z
  spanned_with m y z b e = (
    l ∷ g ∷ b.them,
    record {
      each = with_both Reading p q b.them (λ u i. record { low = at-most-trans (negsuc 2147483647) l u p.low (b.from u i); high = at-most-trans u g (pos 2147483647) (b.to u i) q.high });
      count = ap (λ (n : ℕ). suc (suc n)) b.count;
      sum = ap (λ (x : ℤ). l +ℤ (g +ℤ x)) b.sum ∙ e;
    },
    record {
      least = Memᴰ.head refl;
      greatest = Memᴰ.tail (Memᴰ.head refl);
      from = with_both (λ u. le_z l u ≡ true) (at-most_refl l) o b.them b.from;
      to = with_both (λ u. le_z u g ≡ true) o (at-most_refl g) b.them b.to;
    },
  )

  spanned_more : (m : ℕ) (z : ℤ) → le_z (g +ℤ pos (suc m) *ℤ l) z ≡ true → le_z z (l +ℤ pos (suc m) *ℤ g) ≡ true → Spanned (suc (suc m)) z
  spanned_more m z e f =
      let w = slack l g o in
      let k = slack (g +ℤ pos (suc m) *ℤ l) z e in
      let j = slack z (l +ℤ pos (suc m) *ℤ g) f in
      let c = l +ℤ (g +ℤ pos m *ℤ l) in
      let here : c +ℤ pos k.0 ≡ z = ap (λ (y : ℤ). y +ℤ pos k.0) (one_more m l g) ∙ k.1 in
      let most : l +ℤ pos (suc m) *ℤ g ≡ c +ℤ pos (m * w.0) = sym (one_more m g l) ∙ ap (λ (y : ℤ). g +ℤ (l +ℤ y)) (ap (λ (y : ℤ). pos m *ℤ y) (sym w.1) ∙ times_more m w.0 l) ∙ turned (pos m *ℤ l) (pos (m * w.0)) in
      let all : c +ℤ pos (k.0 + j.0) ≡ c +ℤ pos (m * w.0) = sym (+ℤ_assoc c (pos k.0) (pos j.0)) ∙ ap (λ (y : ℤ). y +ℤ pos j.0) here ∙ j.1 ∙ most in
      let few : k.0 ≤ m * w.0 = omega (arith, add_cancel c (k.0 + j.0) (m * w.0) all) in
      spanned_with m (pos m *ℤ l +ℤ pos k.0) z (between l g (pos m *ℤ l +ℤ pos k.0) m w.0 k.0 w.1 refl few)
      (ap (λ (y : ℤ). l +ℤ y) (sym (+ℤ_assoc g (pos m *ℤ l) (pos k.0))) ∙ sym (+ℤ_assoc l (g +ℤ pos m *ℤ l) (pos k.0)) ∙ here)
    where
      turned : (x y : ℤ) → g +ℤ (l +ℤ (x +ℤ y)) ≡ (l +ℤ (g +ℤ x)) +ℤ y
      turned x y =
          sym (+ℤ_assoc g l (x +ℤ y)) ∙ ap (λ (u : ℤ). u +ℤ (x +ℤ y)) (+ℤ_comm g l) ∙ sym (+ℤ_assoc (l +ℤ g) x y) ∙ ap (λ (u : ℤ). u +ℤ y) (+ℤ_assoc l g x)

  spanned : (n : ℕ) (z : ℤ) → 1 ≤ n → le_z (g +ℤ pos (n - 1) *ℤ l) z ≡ true → le_z z (l +ℤ pos (n - 1) *ℤ g) ≡ true → Spanned n z
  spanned zero z h e f = absurd (omega (arith, h))
  spanned (suc zero) z h e f = spanned_one z e f
  spanned (suc (suc m)) z h e f =
      let n : suc (suc m) - 1 ≡ suc m = omega arith in
      spanned_more m z (subst (λ (k : ℕ). le_z (g +ℤ pos k *ℤ l) z ≡ true) n e) (subst (λ (k : ℕ). le_z z (l +ℤ pos k *ℤ g) ≡ true) n f)

module _ (t : Total) where
  abbrev low : ℤ
  low = negsuc 2147483647

  abbrev high : ℤ
  high = pos 2147483647

  can_made : can_make t.count t.sum ≡ true → (zs : List ℤ) × Make zs t
  unfolding can_make
  can_made e =
      let p = both (le_z (low *ℤ pos t.count) t.sum) (le_z t.sum (high *ℤ pos t.count)) e in
      let b = between_sums low high t.sum t.count refl (ap (λ (y : ℤ). le_z y t.sum) (*ℤ_comm (pos t.count) low) ∙ p.0) (ap (le_z t.sum) (*ℤ_comm (pos t.count) high) ∙ p.1) in
      (b.them, record { each = λ z m. record { low = b.from z m; high = b.to z m }; count = b.count; sum = b.sum })

  made_can : (zs : List ℤ) → Make zs t → can_make t.count t.sum ≡ true
  unfolding can_make
  made_can zs m =
      let k = ap (λ (n : ℕ). pos n *ℤ low) m.count ∙ *ℤ_comm (pos t.count) low in
      let j = ap (λ (n : ℕ). pos n *ℤ high) m.count ∙ *ℤ_comm (pos t.count) high in
      both_of (ap₂ le_z (sym k) (sym m.sum) ∙ bound_all le_z at-most_refl add_most low zs (λ z i. (m.each z i).low))
      (ap₂ le_z (sym m.sum) (sym j) ∙ bound_all (λ a b. le_z b a) at-most_refl (λ a b c d e f. add_most b a d c e f) high zs (λ z i. (m.each z i).high))

  -- A sum passes the test of stop 8 just if so many readings make it;
  pub can_make_iff : (can_make t.count t.sum ≡ true) ↔ ((zs : List ℤ) × Make zs t)
  can_make_iff = (can_made, λ m. made_can m.0 m.1)

  module _ (l g : ℤ) where
    suits-made : 1 ≤ t.count → Reading l → Reading g → suits t l g ≡ true → (zs : List ℤ) × Make zs t × Span zs l g
    unfolding suits
    suits-made h p q e =
        let x = both (le_z l g) (le_z (g +ℤ pos (t.count - 1) *ℤ l) t.sum && le_z t.sum (l +ℤ pos (t.count - 1) *ℤ g)) e in
        let y = both (le_z (g +ℤ pos (t.count - 1) *ℤ l) t.sum) (le_z t.sum (l +ℤ pos (t.count - 1) *ℤ g)) x.1 in
        spanned l g p q x.0 t.count t.sum h y.0 y.1

    made-suits : (zs : List ℤ) → Make zs t → Span zs l g → suits t l g ≡ true
    unfolding suits
    made-suits zs m s =
        let n : length zs - 1 ≡ t.count - 1 = ap (λ (k : ℕ). k - 1) m.count in
        let d = bound_one le_z at-most_refl add_most l g zs s.greatest s.from in
        let u = bound_one (λ a b. le_z b a) at-most_refl (λ a b c d e f. add_most b a d c e f) g l zs s.least s.to in
        both_of (s.from g s.greatest) (both_of
        (ap₂ (λ (k : ℕ) (y : ℤ). le_z (g +ℤ pos k *ℤ l) y) (sym n) (sym m.sum) ∙ d)
        (ap₂ (λ (k : ℕ) (y : ℤ). le_z y (l +ℤ pos k *ℤ g)) (sym n) (sym m.sum) ∙ u))

    -- a least and a greatest reading pass that of stop 19 just if so many readings with that sum have them.
    pub suits_iff : 1 ≤ t.count → Reading l → Reading g → (suits t l g ≡ true) ↔ ((zs : List ℤ) × Make zs t × Span zs l g)
    suits_iff h p q = (suits-made h p q, λ m. made-suits m.0 m.1 m.2)

    -- Figures with known extremes are those of readings just if there are such readings.
    pub makes_iff : Makes (record { sums = t; extremes = Known l g }) ↔ ((zs : List ℤ) × Make zs t × Span zs l g)
    makes_iff = (
      λ f. suits-made f.counted (mag_reading l f.suited.0) (mag_reading g f.suited.1) f.suited.2,
      λ m. record {
        counted = subst (λ (n : ℕ). 1 ≤ n) m.1.count (members-some m.2.least);
        made = made_can m.0 m.1;
        suited = (reading_mag l (m.1.each l m.2.least), reading_mag g (m.1.each g m.2.greatest), made-suits m.0 m.1 m.2);
      },
    )
