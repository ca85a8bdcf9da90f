-- Lists in one flat list, by their places; one more set behind one of them; whether one of a list passes a test, read from the left.
use mathlib.Core.Path.{◌≡◌, refl, sym, ap, ap₂, ◌∙◌}
use mathlib.Core.Logic.{◌≢◌}
use mathlib.Core.Bool.{Bool, false, ◌||◌}
use mathlib.Core.List.{List, [], ◌∷◌, ◌++◌}
use Prim.Native.Nat.{ℕ, zero, suc, ◌+◌, ◌-◌, ◌*◌, ◌≤◌, ◌<◌}
use native.Mathlib.Nat.{not-suc-le-zero, le_of_suc-le-suc}
use native.Mathlib.Numerals.{add-one}
use native.Mathlib.Omega.{arith}
use lib.Dec.{eqb, ltb}
use lib.ListN.{length, get_or, take, drop, set, length-set, length-drop, drop_of_length-le}
use lib.Seq.{drop-cons, drop-drop, get_or-drop, get_or-set_same, get_or-set_other, take-suc-set, take-set-le, drop-set-lt, drop-set-add, length-take-le, ext_get_or}
use borrow.Author.Tests.{eqb-true, eqb-false, ltb-true, ltb-false}
use Rattle.lists.specs.Lists.{some}
use Rattle.lists.proofs.Tests.{cases, truth}
use Rattle.rows_lists.specs.Lists.{lists_of, Short}

-- ---- a test, from a place on

module _ (p : ℕ → Bool) (l : List ℕ) (i : ℕ) where
  pub some_next : i < length l → some p (drop i l) ≡ p (get_or l i 0) || some p (drop (i + 1) l)
  some_next h = rw (add-one, drop-cons l i 0 h)

  pub some-done : length l ≤ i → some p (drop i l) ≡ false
  some-done h = rw (drop_of_length-le l h)

-- ---- lists by their places

pub lists_length : (n : ℕ) (ls : List ℕ) → length (lists_of n ls) ≡ n
unfolding lists_of
lists_length zero ls = refl
lists_length (suc n) ls = ap suc (lists_length n (drop 71 ls))

pub lists_at : (n i : ℕ) (ls : List ℕ) → i < n → get_or (lists_of n ls) i [] ≡ take (get_or ls (i * 71) 0) (drop (i * 71 + 1) ls)
unfolding lists_of
lists_at zero i ls h = absurd (not-suc-le-zero h)
lists_at (suc n) zero ls h = refl
lists_at (suc n) (suc i) ls h =
    let e : 71 + i * 71 ≡ suc i * 71 = omega arith in
    let g : 71 + (i * 71 + 1) ≡ suc i * 71 + 1 = omega arith in
    lists_at n i (drop 71 ls) (le_of_suc-le-suc h)
    ∙ ap₂ take (get_or-drop 71 ls (i * 71) 0 ∙ ap (λ (k : ℕ). get_or ls k 0) e) (drop-drop (i * 71 + 1) 71 ls ∙ ap (λ (k : ℕ). drop k ls) g)

-- so many sets has a list that there is room for
pub list_length : (n i : ℕ) (ls : List ℕ) → i < n → n * 71 ≤ length ls → Short n ls → length (get_or (lists_of n ls) i []) ≡ get_or ls (i * 71) 0
list_length n i ls h k f = rw (lists_at n i ls h)
    (length-take-le (get_or ls (i * 71) 0) (drop (i * 71 + 1) ls) (rw length-drop (omega (arith, f i h))))

-- ---- a set put behind the list of a row

-- a part that a place is not in
part_out : (l : List ℕ) (from n p v : ℕ) → (from ≤ p → from + n ≤ p) → take n (drop from (set l p v)) ≡ take n (drop from l)
part_out l from n p v out = cases (truth (ltb p from))
    (λ t. rw (drop-set-lt from l p v (ltb-true p from t)))
    (λ t. let g : p ≡ from + (p - from) = omega (arith, ltb-false p from t) in
    let w : n ≤ p - from = omega (arith, out (ltb-false p from t)) in
    ap (λ (q : ℕ). take n (drop from (set l q v))) g ∙ ap (take n) (drop-set-add from l (p - from) v) ∙ take-set-le n (drop from l) (p - from) v w)

module _ (n row s : ℕ) (ls : List ℕ) (room : n * 71 ≤ length ls) (h : row < n) (f : Short n ls) (k : get_or ls (row * 71) 0 < 70) where
  abbrev place : ℕ
  place = row * 71 + 1 + get_or ls (row * 71) 0

  -- the set is written, then how many there are now
  abbrev written : List ℕ
  written = set ls place s

  abbrev longer : List ℕ
  longer = set written (row * 71) (get_or ls (row * 71) 0 + 1)

  size-here : get_or longer (row * 71) 0 ≡ get_or ls (row * 71) 0 + 1
  size-here = get_or-set_same written (row * 71) (get_or ls (row * 71) 0 + 1) 0 (rw length-set (omega (arith, h, room)))

  size-other : (i : ℕ) → i ≢ row → get_or longer (i * 71) 0 ≡ get_or ls (i * 71) 0
  size-other i q =
      get_or-set_other written (row * 71) (i * 71) (get_or ls (row * 71) 0 + 1) 0 (λ e. omega (arith, q, e))
      ∙ get_or-set_other ls place (i * 71) s 0 (λ e. omega (arith, q, k, e))

  -- its own list has the set behind it
  put_here : take (get_or longer (row * 71) 0) (drop (row * 71 + 1) longer) ≡ take (get_or ls (row * 71) 0) (drop (row * 71 + 1) ls) ++ s ∷ []
  put_here = rw (size-here, drop-set-lt (row * 71 + 1) written (row * 71) (get_or ls (row * 71) 0 + 1) (omega arith), drop-set-add (row * 71 + 1) ls (get_or ls (row * 71) 0) s, add-one)
      (take-suc-set (drop (row * 71 + 1) ls) (get_or ls (row * 71) 0) s (rw length-drop (omega (arith, k, h, room))))

  -- the others are as they were
  put_other : (i : ℕ) → i < n → i ≢ row → take (get_or longer (i * 71) 0) (drop (i * 71 + 1) longer) ≡ take (get_or ls (i * 71) 0) (drop (i * 71 + 1) ls)
  put_other i l q =
      let m = get_or ls (i * 71) 0 in
      ap (λ (m : ℕ). take m (drop (i * 71 + 1) longer)) (size-other i q)
      ∙ part_out written (i * 71 + 1) m (row * 71) (get_or ls (row * 71) 0 + 1) (λ t. omega (arith, t, f i l, q))
      ∙ part_out ls (i * 71 + 1) m place s (λ t. omega (arith, t, f i l, k, q))

  pub lists_put : lists_of n longer ≡ set (lists_of n ls) row (get_or (lists_of n ls) row [] ++ s ∷ [])
  lists_put = ext_get_or [] (lists_of n longer) (set (lists_of n ls) row more)
      (lists_length n longer ∙ sym (length-set (lists_of n ls) row more ∙ lists_length n ls))
      (λ i l. let m : i < n = rw (lists_length n longer) at l in
      lists_at n i longer m ∙ cases (truth (eqb i row))
      (λ q. rw (eqb-true i row q, get_or-set_same (lists_of n ls) row more [] (rw lists_length h), lists_at n row ls h) put_here)
      (λ q. rw (get_or-set_other (lists_of n ls) row i more [] (eqb-false i row q), lists_at n i ls m) (put_other i m (eqb-false i row q))))
    where
      more : List ℕ
      more = get_or (lists_of n ls) row [] ++ s ∷ []
