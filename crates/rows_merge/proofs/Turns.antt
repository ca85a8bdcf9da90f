-- One row of the merge: whose turn it is says what comes first of what is left.
use Rattle.std.proofs.Common.{Ordering}
use Rattle.std.specs.Ordering.{nat_cmp, is_lt, is_eq}
use Rattle.std.specs.Cmp.Lexicographic.{slice_cmp}
use mathlib.Core.Path.{◌≡◌, refl, sym, ap, ap₂, ◌∙◌}
use mathlib.Core.Bool.{Bool, true, false, false≢true}
use mathlib.Core.List.{List, [], ◌∷◌, ◌++◌}
use Prim.Native.Nat.{ℕ, zero, suc, ◌+◌, ◌≤◌, ◌<◌}
use native.Mathlib.Numerals.{add-one}
use native.Mathlib.Omega.{arith}
use lib.Dec.{ltb}
use lib.ListN.{length, get_or, drop, length-drop, length-map, drop_of_length-le}
use lib.Seq.{drop-cons}
use borrow.Author.Tests.{ltb-true, ltb-false}
use Rattle.lists.specs.Order.{earlier, same}
use Rattle.lists.proofs.Tests.{cases, truth, refuted}
use Rattle.lists.proofs.Order.{by_codes, same-eq, same_refl}
use Rattle.cube.specs.Measure.{Measure, Row, codes_of}
use Rattle.archive_entries.proofs.After.{earlier_cmp, same_cmp}
use Rattle.rows_merge.specs.declared.Turn.{Turn}
use Rattle.rows_merge.specs.declared.Turn.TheVariants.{First, Second, Both}
use Rattle.rows_merge.specs.United.{as_one, merged, Merging}
use Rattle.rows_merge.specs.Turns.{turn_by, turn}
use Rattle.rows_merge.proofs.Merging.{merged-left, merged_right, merged-both, merged-none, merging-step}

-- ---- the turn, by the places in both lists

module _ (xs ys : List (List ℕ)) (i j : ℕ) where
  pub turn-none : length xs ≤ i → turn (drop i xs) (drop j ys) ≡ Second
  unfolding turn
  turn-none h = rw (drop_of_length-le xs h)

  pub turn-only : i < length xs → length ys ≤ j → turn (drop i xs) (drop j ys) ≡ First
  unfolding turn
  turn-only h k = rw (drop-cons xs i [], drop_of_length-le ys k)

  turn-codes : i < length xs → j < length ys → turn (drop i xs) (drop j ys) ≡ turn_by (earlier (get_or xs i []) (get_or ys j [])) (same (get_or xs i []) (get_or ys j []))
  unfolding turn
  turn-codes h k = rw (drop-cons xs i [], drop-cons ys j [])

-- by a comparison of the codes
pub turn-compared : (xs ys : List (List ℕ)) (i j : ℕ) {x y : List ℕ} {o : Ordering} → i < length xs → j < length ys → x ≡ get_or xs i [] → y ≡ get_or ys j []
    → o ≡ slice_cmp nat_cmp x y → turn (drop i xs) (drop j ys) ≡ turn_by (is_lt o) (is_eq o)
turn-compared xs ys i j {x} {y} {o} h k p q e =
    turn-codes xs ys i j h k ∙ ap₂ (λ (v w : List ℕ). turn_by (earlier v w) (same v w)) (sym p) (sym q) ∙ sym (ap₂ turn_by (earlier_cmp x y o e) (same_cmp x y o e))

-- ---- what the turn says of the merge

first-is : (s t : Bool) → turn_by s t ≡ First → s ≡ true
first-is true t e = refl
first-is false true e = absurd (false≢true cc)
first-is false false e = absurd (false≢true cc)

second_is : (s t : Bool) → turn_by s t ≡ Second → (s ≡ false) × (t ≡ false)
second_is true t e = absurd (false≢true cc)
second_is false true e = absurd (false≢true cc)
second_is false false e = (refl, refl)

both_is : (s t : Bool) → turn_by s t ≡ Both → (s ≡ false) × (t ≡ true)
both_is true t e = absurd (false≢true cc)
both_is false true e = (refl, refl)
both_is false false e = absurd (false≢true cc)

-- whoever's turn it is has a row left
some_first : (xs ys : List (List ℕ)) → turn xs ys ≡ First → 0 < length xs
unfolding turn
some_first [] ys e = absurd (false≢true cc)
some_first (x ∷ xs) ys e = omega arith

some-second : (xs ys : List (List ℕ)) → turn xs ys ≡ Second → 0 < length xs + length ys → 0 < length ys
unfolding turn
some-second [] ys e h = omega (arith, h)
some-second (x ∷ xs) [] e h = absurd (false≢true cc)
some-second (x ∷ xs) (y ∷ ys) e h = omega arith

some-both : (xs ys : List (List ℕ)) → turn xs ys ≡ Both → (0 < length xs) × (0 < length ys)
unfolding turn
some-both [] ys e = absurd (false≢true cc)
some-both (x ∷ xs) [] e = absurd (false≢true cc)
some-both (x ∷ xs) (y ∷ ys) e = (omega arith, omega arith)

module _ {A : Type 0} (M : Measure A) where
  first_on : (r : Row A) (k m : List (Row A)) → turn (codes_of (r ∷ k)) (codes_of m) ≡ First → merged M (r ∷ k) m ≡ r ∷ merged M k m
  unfolding turn
  first_on r k [] e = ap (λ (l : List (Row A)). r ∷ l) (sym (merged-none M k))
  first_on r k (q ∷ m) e = merged-left M r q k m (first-is (earlier r.codes q.codes) (same r.codes q.codes) e)

  second_on : (q : Row A) (k m : List (Row A)) → turn (codes_of k) (codes_of (q ∷ m)) ≡ Second → merged M k (q ∷ m) ≡ q ∷ merged M k m
  unfolding turn
  second_on q [] m e = refl
  second_on q (r ∷ k) m e =
      let s = second_is (earlier r.codes q.codes) (same r.codes q.codes) e in
      cases (truth (earlier q.codes r.codes))
      (λ t. merged_right M r q k m s.0 t)
      (λ t. absurd (false≢true (sym s.1 ∙ ap (λ (x : List ℕ). same x q.codes) (by_codes.total r.codes q.codes s.0 t) ∙ same_refl q.codes)))

  both_on : (r q : Row A) (k m : List (Row A)) → turn (codes_of (r ∷ k)) (codes_of (q ∷ m)) ≡ Both → merged M (r ∷ k) (q ∷ m) ≡ as_one M r q ∷ merged M k m
  unfolding turn
  both_on r q k m e =
      let s = both_is (earlier r.codes q.codes) (same r.codes q.codes) e in
      let x : r.codes ≡ q.codes = same-eq r.codes q.codes s.1 in
      merged-both M r q k m s.0 (refuted (λ t. by_codes.irrefl q.codes (rw x at t)))

codes-drop : {A : Type 0} (i : ℕ) (rows : List (Row A)) → codes_of (drop i rows) ≡ drop i (codes_of rows)
codes-drop zero rows = refl
codes-drop (suc i) [] = refl
codes-drop (suc i) (r ∷ rows) = codes-drop i rows

module _ {A : Type 0} (M : Measure A) (z : Row A) (a b : List (Row A)) (i j : ℕ) where
  -- whose turn it is, by places
  abbrev here : Turn
  here = turn (drop i (codes_of a)) (drop j (codes_of b))

  pub left-first : here ≡ First → i < length a
  left-first e = omega (arith, some_first (drop i (codes_of a)) (drop j (codes_of b)) e, length-drop i (codes_of a), length-map a (λ r. r.codes))

  pub left-second : here ≡ Second → i ≤ length a → i + j < length a + length b → j < length b
  left-second e h k =
      let p = length-drop i (codes_of a) in
      let q = length-drop j (codes_of b) in
      let v = length-map a (λ r. r.codes) in
      let w = length-map b (λ r. r.codes) in
      cases (truth (ltb j (length b))) (λ f. ltb-true j (length b) f)
      (λ f. let g = ltb-false j (length b) f in omega (arith, some-second (drop i (codes_of a)) (drop j (codes_of b)) e (omega (arith, p, q, v, w, h, k)), q, w))

  pub left_both : here ≡ Both → (i < length a) × (j < length b)
  left_both e =
      let s = some-both (drop i (codes_of a)) (drop j (codes_of b)) e in
      (omega (arith, s.0, length-drop i (codes_of a), length-map a (λ r. r.codes)), omega (arith, s.1, length-drop j (codes_of b), length-map b (λ r. r.codes)))

  turned : (t : Turn) → here ≡ t → turn (codes_of (drop i a)) (codes_of (drop j b)) ≡ t
  turned t e = rw (codes-drop i a, codes-drop j b) e

  module _ (done : List (Row A)) (g : Merging M a b done (drop i a) (drop j b)) where
    pub merging-first : here ≡ First → Merging M a b (done ++ get_or a i z ∷ []) (drop (i + 1) a) (drop j b)
    merging-first e =
        let c = drop-cons a i z (left-first e) in
        merging-step M a b done (drop i a) (drop j b) (drop (i + 1) a) (drop j b) (get_or a i z)
        (rw (c, add-one i) (first_on M (get_or a i z) (drop (suc i) a) (drop j b) (rw c at (turned First e)))) g

    pub merging-second : here ≡ Second → j < length b → Merging M a b (done ++ get_or b j z ∷ []) (drop i a) (drop (j + 1) b)
    merging-second e h =
        let c = drop-cons b j z h in
        merging-step M a b done (drop i a) (drop j b) (drop i a) (drop (j + 1) b) (get_or b j z)
        (rw (c, add-one j) (second_on M (get_or b j z) (drop i a) (drop (suc j) b) (rw c at (turned Second e)))) g

    pub merging-both : here ≡ Both → Merging M a b (done ++ as_one M (get_or a i z) (get_or b j z) ∷ []) (drop (i + 1) a) (drop (j + 1) b)
    merging-both e =
        let c = drop-cons a i z (left_both e).0 in
        let k = drop-cons b j z (left_both e).1 in
        merging-step M a b done (drop i a) (drop j b) (drop (i + 1) a) (drop (j + 1) b) (as_one M (get_or a i z) (get_or b j z))
        (rw (c, k, add-one i, add-one j) (both_on M (get_or a i z) (get_or b j z) (drop (suc i) a) (drop (suc j) b) (rw (c, k) at (turned Both e)))) g
