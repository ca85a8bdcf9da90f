-- A set noted in the lists of some rows, one row after the other.
use mathlib.Core.Path.{◌≡◌, refl, sym, ap, subst, ◌∙◌}
use mathlib.Core.Logic.{◌≢◌}
use mathlib.Core.List.Memᴰ
use mathlib.Core.List.{List, [], ◌∷◌, ◌++◌}
use Prim.Native.Nat.{ℕ, ◌+◌, ◌≤◌, ◌<◌}
use native.Mathlib.Nat.{le_trans}
use native.Mathlib.Numerals.{add-one}
use native.Mathlib.Omega.{arith}
use lib.Dec.{eqb}
use lib.ListN.{length, get_or, drop, set, length-set, length-append, drop_of_length-le}
use lib.Seq.{drop-cons, get_or-set_same, get_or-set_other}
use borrow.Author.Tests.{eqb-true, eqb-false}
use Rattle.lists.specs.Lists.{◌∈◌, Distinct}
use Rattle.lists.proofs.Tests.{cases, truth}
use Rattle.lists.proofs.Members.{at_in}
use Rattle.rows_lists.specs.Lists.{Fit, noted}

module _ (s : ℕ) where
  -- the list of row x with the set behind it
  abbrev longer : List (List ℕ) → ℕ → List ℕ
  longer ls x = get_or ls x [] ++ s ∷ []

  pub noted-length : (l : List ℕ) (ls : List (List ℕ)) → length (noted s l ls) ≡ length ls
  unfolding noted
  noted-length [] ls = refl
  noted-length (x ∷ l) ls = noted-length l (set ls x (longer ls x)) ∙ length-set ls x (longer ls x)

  -- the lists of the other rows are as they were,
  pub noted-out : (l : List ℕ) (ls : List (List ℕ)) (i : ℕ) → ((x : ℕ) → x ∈ l → x ≢ i) → get_or (noted s l ls) i [] ≡ get_or ls i []
  unfolding noted
  noted-out [] ls i h = refl
  noted-out (x ∷ l) ls i h =
      noted-out l (set ls x (longer ls x)) i (λ y m. h y (Memᴰ.tail m))
      ∙ get_or-set_other ls x i (longer ls x) [] (λ e. h x (Memᴰ.head refl) (sym e))

  -- and those of the rows have the set behind them
  pub noted_in : (l : List ℕ) (ls : List (List ℕ)) (i : ℕ) → Distinct l → i ∈ l → i < length ls → get_or (noted s l ls) i [] ≡ longer ls i
  unfolding noted
  noted_in [] ls i d m h = absurd (Memᴰ.not-nil m)
  noted_in (x ∷ l) ls i d (Memᴰ.head e) h =
      let v = longer ls x in
      noted-out l (set ls x v) i (λ y m q. d.0 y m (sym (q ∙ e)))
      ∙ subst (λ (z : ℕ). get_or (set ls x v) z [] ≡ longer ls z) (sym e) (get_or-set_same ls x v [] (subst (λ (z : ℕ). z < length ls) e h))
  noted_in (x ∷ l) ls i d (Memᴰ.tail m) h =
      let v = longer ls x in
      noted_in l (set ls x v) i d.1 m (rw length-set h) ∙ ap (λ (k : List ℕ). k ++ s ∷ []) (get_or-set_other ls x i v [] (λ e. d.0 i m (sym e)))

  -- no list gets shorter
  put_longer : (ls : List (List ℕ)) (x i : ℕ) → i < length ls → length (get_or ls i []) ≤ length (get_or (set ls x (longer ls x)) i [])
  put_longer ls x i h = cases (truth (eqb i x))
      (λ q. rw (eqb-true i x q, get_or-set_same ls x (longer ls x) [] (subst (λ (z : ℕ). z < length ls) (eqb-true i x q) h)) (omega (arith, length-append (get_or ls x []) (s ∷ []))))
      (λ q. rw (get_or-set_other ls x i (longer ls x) [] (eqb-false i x q)) (omega arith))

  noted_longer : (l : List ℕ) (ls : List (List ℕ)) (i : ℕ) → i < length ls → length (get_or ls i []) ≤ length (get_or (noted s l ls) i [])
  unfolding noted
  noted_longer [] ls i h = omega arith
  noted_longer (x ∷ l) ls i h = le_trans (put_longer ls x i h) (noted_longer l (set ls x (longer ls x)) i (rw length-set h))

-- ---- the rows before place i are done: with the set noted for the others the lists are `all`

pub noting_done : (s : ℕ) (lone : List ℕ) (ls all : List (List ℕ)) (i : ℕ) → length lone ≤ i → noted s (drop i lone) ls ≡ all → ls ≡ all
unfolding noted
noting_done s lone ls all i h e = rw (drop_of_length-le lone h) at e

module _ (s : ℕ) (lone : List ℕ) (ls all : List (List ℕ)) (i : ℕ) (h : i < length lone) (e : noted s (drop i lone) ls ≡ all) where
  abbrev row : ℕ
  row = get_or lone i 0

  abbrev more : List (List ℕ)
  more = set ls row (get_or ls row [] ++ s ∷ [])

  next : noted s (drop (i + 1) lone) more ≡ all
  unfolding noted
  next = rw add-one (ap (λ (l : List ℕ). noted s l ls) (sym (drop-cons lone i 0 h)) ∙ e)

  pub noting_more : {new : List (List ℕ)} → new ≡ more → noted s (drop (i + 1) lone) new ≡ all
  noting_more q = ap (noted s (drop (i + 1) lone)) q ∙ next

  pub noting_room : row < length ls → Fit all → length (get_or ls row []) < 70
  noting_room low fit =
      let v = get_or ls row [] ++ s ∷ [] in
      let size : length all ≡ length ls = ap length (sym next) ∙ noted-length s (drop (i + 1) lone) more ∙ length-set ls row v in
      let here : length v ≤ length (get_or all row []) = subst (λ (z : List ℕ). length z ≤ length (get_or all row [])) (get_or-set_same ls row v [] low)
      (subst (λ (z : List (List ℕ)). length (get_or more row []) ≤ length (get_or z row [])) next (noted_longer s (drop (i + 1) lone) more row (rw length-set low))) in
      omega (arith, here, length-append (get_or ls row []) (s ∷ []), fit (get_or all row []) (at_in [] all row (rw size low)))
