-- One pass over two rising lists of rows is their folding: in each step the earlier row is done, or two rows with equal codes are.
use mathlib.Core.Path.{◌≡◌, refl, sym, ◌∙◌, ap, ap₂}
use mathlib.Core.Logic.{◌≢◌, ◌⊎◌, inl, inr}
use mathlib.Core.Bool.{Bool, true, false}
use mathlib.Core.List.Memᴰ
use mathlib.Core.List.{List, [], ◌∷◌, ◌++◌, map, append-nil, append_assoc}
use Prim.Native.Nat.{ℕ, ◌+◌, ◌≤◌}
use native.Mathlib.Omega.{arith}
use lib.ListN.{length, length-append}
use Rattle.lists.specs.Lists.{◌∈◌, keep}
use Rattle.lists.specs.Order.{Rising, earlier, same}
use Rattle.lists.proofs.Tests.{cases, truth, refuted}
use Rattle.lists.proofs.Pairwise.{keep_one, pairwise_imp, pairwise_map, pairwise_of_map}
use Rattle.lists.proofs.Order.{by_codes, same-eq, same_refl, strict_turned}
use Rattle.cube.specs.declared.Total.{Total}
use Rattle.cube.specs.Measure.{Measure, Adds, Row, sums, total_of, total_at, codes_of}
use Rattle.cube.specs.Bounds.{count_of}
use Rattle.cube.specs.Table.{Table}
use Rattle.rows_merge.specs.United.{as_one, united, merged, Merging}
use Rattle.cube.proofs.Regroup.{taking, more_swap, sum_taking}
use Rattle.rows_merge.proofs.Appending.{codes_in, codes-left, codes_right, table-append, more-none, at-append, folded_unique}

-- how the first rows of two lists stand to each other
pub order : (x y : List ℕ) → ((earlier x y ≡ true) × (earlier y x ≡ false)) ⊎ (((earlier x y ≡ false) × (earlier y x ≡ true)) ⊎ ((earlier x y ≡ false) × (earlier y x ≡ false) × (x ≡ y)))
order x y = cases (truth (earlier x y))
    (λ e. inl (e, strict_turned by_codes x y e))
    (λ e. cases (truth (earlier y x)) (λ f. inr (inl (e, f))) (λ f. inr (inr (e, f, by_codes.total x y e f))))

-- ---- the steps

module _ {A : Type 0} (M : Measure A) (r q : Row A) (a b : List (Row A)) where
  pub merged-left : earlier r.codes q.codes ≡ true → merged M (r ∷ a) (q ∷ b) ≡ r ∷ merged M a (q ∷ b)
  merged-left e = rw e

  pub merged_right : earlier r.codes q.codes ≡ false → earlier q.codes r.codes ≡ true → merged M (r ∷ a) (q ∷ b) ≡ q ∷ merged M (r ∷ a) b
  merged_right e f = rw (e, f)

  pub merged-both : earlier r.codes q.codes ≡ false → earlier q.codes r.codes ≡ false → merged M (r ∷ a) (q ∷ b) ≡ as_one M r q ∷ merged M a b
  merged-both e f = rw (e, f)

pub merged-none : {A : Type 0} (M : Measure A) (a : List (Row A)) → merged M a [] ≡ a
merged-none M [] = refl
merged-none M (r ∷ a) = refl

-- ---- the pass: each step takes a row off the front, and puts one behind what is done

module _ {A : Type 0} (M : Measure A) (a b : List (Row A)) where
  pub merging_start : Merging M a b [] a b
  merging_start = record { whole = refl }

  -- what comes first of what is left is put behind what is done
  pub merging-step : (done left right left' right' : List (Row A)) (r : Row A) → merged M left right ≡ r ∷ merged M left' right'
      → Merging M a b done left right → Merging M a b (done ++ r ∷ []) left' right'
  merging-step done left right left' right' r e g = record {
    whole = append_assoc done (r ∷ []) (merged M left' right') ∙ ap (λ (l : List (Row A)). done ++ l) (sym e) ∙ g.whole;
  }

  pub merging-done : (done : List (Row A)) → Merging M a b done [] [] → done ≡ merged M a b
  merging-done done g = sym (append-nil done) ∙ g.whole

  -- what is left has as many rows as either list, so a full output with a row left is too many (number 18)
  merged_longer : (left right : List (Row A)) → (length left ≤ length (merged M left right)) × (length right ≤ length (merged M left right))
  merged_longer [] right = (omega arith, omega arith)
  merged_longer (r ∷ left) [] = (omega arith, omega arith)
  merged_longer (r ∷ left) (q ∷ right) = cases (order r.codes q.codes)
      (λ o. let p = merged_longer left (q ∷ right) in rw o.0 (omega (arith, p.0), omega (arith, p.1)))
      (λ u. cases u
      (λ o. let p = merged_longer (r ∷ left) right in rw (o.0, o.1) (omega (arith, p.0), omega (arith, p.1)))
      (λ o. let p = merged_longer left right in rw (o.0, o.1) (omega (arith, p.0), omega (arith, p.1))))

  pub merging_longer : (done left right : List (Row A)) → Merging M a b done left right
      → (length done + length left ≤ length (merged M a b)) × (length done + length right ≤ length (merged M a b))
  merging_longer done left right g =
      let p = merged_longer left right in
      let n : length (merged M a b) ≡ length done + length (merged M left right) = ap length (sym g.whole) ∙ length-append done (merged M left right) in
      (omega (arith, n, p.0), omega (arith, n, p.1))

-- ---- whatever each list's rows have in common, and two rows as one keep, the merged rows have

module _ {A : Type 0} (M : Measure A) (P : Row A → Type 0) (k : (r q : Row A) → r.codes ≡ q.codes → P r → P q → P (as_one M r q)) where
  pub merged-each : (a b : List (Row A)) → ((r : Row A) → r ∈ a → P r) → ((r : Row A) → r ∈ b → P r) → (r : Row A) → r ∈ merged M a b → P r
  merged-each [] b f g r m = g r m
  merged-each (q ∷ a) [] f g r m = f r m
  merged-each (p ∷ a) (q ∷ b) f g r m = cases (order p.codes q.codes)
      (λ o. cases (Memᴰ.cases_cons (rw o.0 at m))
      (λ e. f r (Memᴰ.head e))
      (λ i. merged-each a (q ∷ b) (λ s j. f s (Memᴰ.tail j)) g r i))
      (λ u. cases u
      (λ o. cases (Memᴰ.cases_cons (rw (o.0, o.1) at m))
      (λ e. g r (Memᴰ.head e))
      (λ i. merged-each (p ∷ a) b f (λ s j. g s (Memᴰ.tail j)) r i))
      (λ o. cases (Memᴰ.cases_cons (rw (o.0, o.1) at m))
      (λ e. rw e (k p q o.2 (f p (Memᴰ.head refl)) (g q (Memᴰ.head refl))))
      (λ i. merged-each a b (λ s j. f s (Memᴰ.tail j)) (λ s j. g s (Memᴰ.tail j)) r i)))

module _ {A : Type 0} (M : Measure A) where
  -- each row's codes are among the merged ones
  merged_fst : {x : List ℕ} (a b : List (Row A)) → x ∈ codes_of a → x ∈ codes_of (merged M a b)
  merged_fst [] b m = absurd (Memᴰ.not-nil m)
  merged_fst (r ∷ a) [] m = m
  merged_fst (r ∷ a) (q ∷ b) m = cases (order r.codes q.codes)
      (λ o. rw o.0 (cases (Memᴰ.cases_cons m) Memᴰ.head (λ i. Memᴰ.tail (merged_fst a (q ∷ b) i))))
      (λ u. cases u
      (λ o. rw (o.0, o.1) (Memᴰ.tail (merged_fst (r ∷ a) b m)))
      (λ o. rw (o.0, o.1) (cases (Memᴰ.cases_cons m) Memᴰ.head (λ i. Memᴰ.tail (merged_fst a b i)))))

  merged_snd : {x : List ℕ} (a b : List (Row A)) → x ∈ codes_of b → x ∈ codes_of (merged M a b)
  merged_snd [] b m = m
  merged_snd (r ∷ a) [] m = absurd (Memᴰ.not-nil m)
  merged_snd (r ∷ a) (q ∷ b) m = cases (order r.codes q.codes)
      (λ o. rw o.0 (Memᴰ.tail (merged_snd a (q ∷ b) m)))
      (λ u. cases u
      (λ o. rw (o.0, o.1) (cases (Memᴰ.cases_cons m) Memᴰ.head (λ i. Memᴰ.tail (merged_snd (r ∷ a) b i))))
      (λ o. rw (o.0, o.1) (cases (Memᴰ.cases_cons m) (λ e. Memᴰ.head (e ∙ sym o.2)) (λ i. Memᴰ.tail (merged_snd a b i)))))

  -- rows by their codes
  abbrev Up : List (Row A) → Type 0
  Up = Rising (λ p q. earlier p.codes q.codes)

  -- what comes before all of both comes before the merged
  merged-above : (x : List ℕ) (a b : List (Row A)) → ((r : Row A) → r ∈ a → earlier x r.codes ≡ true) → ((r : Row A) → r ∈ b → earlier x r.codes ≡ true)
      → (r : Row A) → r ∈ merged M a b → earlier x r.codes ≡ true
  merged-above x = merged-each M (λ r. earlier x r.codes ≡ true) (λ r q e f g. f)

  -- and so does what comes before the first of a rising list
  above_cons : (x : List ℕ) (q : Row A) (b : List (Row A)) → earlier x q.codes ≡ true → Up (q ∷ b) → (s : Row A) → s ∈ q ∷ b → earlier x s.codes ≡ true
  above_cons x q b e v s m = cases (Memᴰ.cases_cons m) (λ h. rw h e) (λ i. by_codes.trans x q.codes s.codes e (v.0 s i))

  merged_up : (a b : List (Row A)) → Up a → Up b → Up (merged M a b)
  merged_up [] b u v = v
  merged_up (r ∷ a) [] u v = u
  merged_up (r ∷ a) (q ∷ b) u v = cases (order r.codes q.codes)
      (λ o. rw o.0 (merged-above r.codes a (q ∷ b) u.0 (above_cons r.codes q b o.0 v), merged_up a (q ∷ b) u.1 v))
      (λ w. cases w
      (λ o. rw (o.0, o.1) (merged-above q.codes (r ∷ a) b (above_cons q.codes r a o.1 u) v.0, merged_up (r ∷ a) b u v.1))
      (λ o. rw (o.0, o.1) (merged-above r.codes a b u.0 (rw o.2 v.0), merged_up a b u.1 v.1)))

  merged-rising : (a b : List (Row A)) → Rising earlier (codes_of a) → Rising earlier (codes_of b) → Rising earlier (codes_of (merged M a b))
  merged-rising a b u v =
      pairwise_map (λ x y. earlier x y ≡ true) (λ r. r.codes) (merged M a b)
      (merged_up a b (pairwise_of_map (λ x y. earlier x y ≡ true) (λ r. r.codes) a u) (pairwise_of_map (λ x y. earlier x y ≡ true) (λ r. r.codes) b v))

  module _ (E : Adds M) where
    -- ---- the totals of both are added

    taking_left : (p : Bool) (a t u : A) → taking M E p a (M.more t u) ≡ M.more (taking M E p a t) u
    taking_left true a t u = sym (E.more_assoc a t u)
    taking_left false a t u = refl

    taking_right : (p : Bool) (a t u : A) → taking M E p a (M.more t u) ≡ M.more t (taking M E p a u)
    taking_right true a t u = more_swap M E a t u
    taking_right false a t u = refl

    taking_two : (p : Bool) (a b t u : A) → taking M E p (M.more a b) (M.more t u) ≡ M.more (taking M E p a t) (taking M E p b u)
    taking_two true a b t u = E.more_assoc a b (M.more t u) ∙ ap (M.more a) (more_swap M E b t u) ∙ sym (E.more_assoc a t (M.more b u))
    taking_two false a b t u = refl

    -- the total of the rows whose codes pass
    abbrev passed : (List ℕ → Bool) → List (Row A) → A
    passed p l = total_of M (keep (λ r. p r.codes) l)

    pub passed_merged : (p : List ℕ → Bool) (a b : List (Row A)) → passed p (merged M a b) ≡ M.more (passed p a) (passed p b)
    passed_merged p [] b = sym (E.none_more (passed p b))
    passed_merged p (r ∷ a) [] = sym (more-none M E (passed p (r ∷ a)))
    passed_merged p (r ∷ a) (q ∷ b) = cases (order r.codes q.codes)
        (λ o. ap (passed p) (merged-left M r q a b o.0) ∙ sum_taking M E p r (merged M a (q ∷ b))
        ∙ ap (taking M E (p r.codes) r.total) (passed_merged p a (q ∷ b)) ∙ taking_left (p r.codes) r.total (passed p a) (passed p (q ∷ b))
        ∙ ap (λ (t : A). M.more t (passed p (q ∷ b))) (sym (sum_taking M E p r a)))
        (λ u. cases u
        (λ o. ap (passed p) (merged_right M r q a b o.0 o.1) ∙ sum_taking M E p q (merged M (r ∷ a) b)
        ∙ ap (taking M E (p q.codes) q.total) (passed_merged p (r ∷ a) b) ∙ taking_right (p q.codes) q.total (passed p (r ∷ a)) (passed p b)
        ∙ ap (M.more (passed p (r ∷ a))) (sym (sum_taking M E p q b)))
        (λ o. ap (passed p) (merged-both M r q a b o.0 o.1) ∙ sum_taking M E p (as_one M r q) (merged M a b)
        ∙ ap (taking M E (p r.codes) (M.more r.total q.total)) (passed_merged p a b)
        ∙ taking_two (p r.codes) r.total q.total (passed p a) (passed p b)
        ∙ ap₂ M.more (sym (sum_taking M E p r a)) (ap (λ (x : List ℕ). taking M E (p x) q.total (passed p b)) o.2 ∙ sym (sum_taking M E p q b))))

    -- a row of rising rows has the total of the rows with its codes
    at_own : (rows : List (Row A)) → Rising earlier (codes_of rows) → (r : Row A) → r ∈ rows → total_at M rows r.codes ≡ r.total
    at_own rows u r m =
        let one : keep (λ q. same r.codes q.codes) rows ≡ r ∷ [] =
        keep_one (λ q. same r.codes q.codes) rows
        (pairwise_imp (λ p q. earlier p.codes q.codes ≡ true) (λ p q. same r.codes p.codes ≡ true → same r.codes q.codes ≢ true) rows
        (λ p q i j h f g. by_codes.irrefl q.codes (rw (sym (same-eq r.codes p.codes f) ∙ same-eq r.codes q.codes g) at h))
        (pairwise_of_map (λ x y. earlier x y ≡ true) (λ q. q.codes) rows u))
        m (same_refl r.codes) in
        ap (total_of M) one ∙ E.none_more r.total

    -- One pass over rising rows is their folding.
    pub united-merged : (d : ℕ) (a b : List (Row A)) → Table d a → Table d b → Rising earlier (codes_of a) → Rising earlier (codes_of b) → united M d a b ≡ merged M a b
    unfolding united
    united-merged d a b t u v w = sym (folded_unique M d (a ++ b) (merged M a b) (table-append d a b t u) (merged-rising a b v w)
        (λ x. (
          λ m. let r = Memᴰ.of_map (λ q. q.codes) (merged M a b) m in rw (← r.2) (merged-each M (λ r. r.codes ∈ codes_of (a ++ b)) (λ r q e f g. f) a b
              (λ r i. codes-left a b (Memᴰ.map (λ q. q.codes) i)) (λ r i. codes_right a b (Memᴰ.map (λ q. q.codes) i)) r.0 r.1),
          λ m. cases (codes_in a b m) (merged_fst a b) (merged_snd a b),
        ))
        (λ r m. sym (at_own (merged M a b) (merged-rising a b v w) r m) ∙ passed_merged (same r.codes) a b ∙ sym (at-append M E a b r.codes)))

  -- rows merged with themselves
  pub merged_self : (a : List (Row A)) → merged M a a ≡ map (λ r. as_one M r r) a
  merged_self [] = refl
  merged_self (r ∷ a) = let e : earlier r.codes r.codes ≡ false = refuted (by_codes.irrefl r.codes) in rw e (ap (λ (l : List (Row A)). as_one M r r ∷ l) (merged_self a))

-- the counts of both are added
pub count-merged : (a b : List (Row Total)) → count_of (merged sums a b) ≡ count_of a + count_of b
count-merged [] b = omega arith
count-merged (r ∷ a) [] = omega arith
count-merged (r ∷ a) (q ∷ b) = cases (order r.codes q.codes)
    (λ o. rw o.0 (omega (arith, count-merged a (q ∷ b))))
    (λ u. cases u
    (λ o. rw (o.0, o.1) (omega (arith, count-merged (r ∷ a) b)))
    (λ o. rw (o.0, o.1) (omega (arith, count-merged a b))))
