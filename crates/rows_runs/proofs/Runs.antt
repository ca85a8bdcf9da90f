-- The runs of a list of rows in the order of their keys: where a run ends, which keys the runs have, and which rows; the runs of lists one behind the other.
use mathlib.Core.Path.{◌≡◌, refl, sym, ap, subst, ◌∙◌}
use mathlib.Core.Logic.{◌⊎◌, inl, inr}
use mathlib.Core.Bool.{true, false}
use mathlib.Core.List.Memᴰ
use mathlib.Core.List.{List, [], ◌∷◌, ◌++◌, map, flat_map}
use Prim.Native.Nat.{ℕ, zero, suc, ◌+◌, ◌-◌, ◌≤◌, ◌<◌}
use native.Mathlib.Omega.{arith}
use lib.Dec.{ltb}
use lib.ListN.{length, get_or, drop, drop_of_length-le}
use lib.Seq.{drop-cons, slice, slice_empty, slice-cons}
use borrow.Author.Tests.{ltb-true, ltb-false}
use Rattle.lists.specs.Lists.{◌∈◌, keep, Pairwise}
use Rattle.lists.specs.Order.{earlier, insert, sort, Rising}
use Rattle.lists.proofs.Tests.{cases, truth}
use Rattle.lists.proofs.Members.{keep-none, flat_in}
use Rattle.lists.proofs.Places.{pairwise_at}
use Rattle.lists.proofs.Order.{by_codes, same-eq, same_refl, not_same}
use Rattle.lists.proofs.Sorted.{sort-rising}
use Rattle.rows_runs.specs.Runs.{Run, members, runs, attach, Ends}
use Rattle.rows_order.specs.Few.{Ordered}
use Rattle.rows_order.proofs.Arranged.{alike, before-all}

module _ (key : ℕ → List ℕ) where
  -- ---- the first run starts with the first row

  attach-first : (y : ℕ) (rs : List Run) → (m : List ℕ) × (qs : List Run) × (attach key y rs ≡ record { first = y; more = m } ∷ qs)
  attach-first y [] = ([], [], refl)
  attach-first y (r ∷ rs) = cases (truth (earlier (key y) (key r.first)))
      (λ e. ([], r ∷ rs, rw e))
      (λ e. (r.first ∷ r.more, rs, rw e))

  pub runs-first : (y : ℕ) (l : List ℕ) → (m : List ℕ) × (qs : List Run) × (runs key (y ∷ l) ≡ record { first = y; more = m } ∷ qs)
  unfolding runs
  runs-first y l = attach-first y (runs key l)

  pub runs-one : (x : ℕ) → runs key (x ∷ []) ≡ record { first = x; more = [] } ∷ runs key []
  unfolding runs
  runs-one x = refl

  -- the next row starts a run of its own, or is of the same run
  pub runs-part : (x y : ℕ) (l : List ℕ) → earlier (key x) (key y) ≡ true → runs key (x ∷ y ∷ l) ≡ record { first = x; more = [] } ∷ runs key (y ∷ l)
  unfolding runs
  runs-part x y l e = rw ((attach-first y (runs key l)).2, e)

  pub runs-join : (x y : ℕ) (l m : List ℕ) (qs : List Run) → earlier (key x) (key y) ≡ false → runs key (y ∷ l) ≡ record { first = y; more = m } ∷ qs
      → runs key (x ∷ y ∷ l) ≡ record { first = x; more = y ∷ m } ∷ qs
  unfolding runs
  runs-join x y l m qs e q = rw (q, e)

  -- a run by its places: no row of it comes after the first, and the row behind it does
  run_at : (l : List ℕ) (k from r : ℕ) → Ordered key l → from + suc k ≡ r → r ≤ length l
      → ((j : ℕ) → from < j → j < r → earlier (key (get_or l from 0)) (key (get_or l j 0)) ≡ false)
      → (r < length l → earlier (key (get_or l from 0)) (key (get_or l r 0)) ≡ true)
      → runs key (drop from l) ≡ record { first = get_or l from 0; more = slice (suc from) r l } ∷ runs key (drop r l)
  run_at l zero from r o q h f g =
      let e : suc from ≡ r = omega arith in
      rw (drop-cons l from 0 (omega arith), e, slice_empty r l) (cases (truth (ltb r (length l)))
      (λ t. let p = ltb-true r (length l) t in rw (drop-cons l r 0 p) (runs-part (get_or l from 0) (get_or l r 0) (drop (suc r) l) (g p)))
      (λ t. rw (drop_of_length-le l {i = r} (ltb-false r (length l) t)) (runs-one (get_or l from 0))))
  run_at l (suc k) from r o q h f g =
      let x = get_or l from 0 in
      let y = get_or l (suc from) 0 in
      let e : earlier (key x) (key y) ≡ false = f (suc from) (omega arith) (omega arith) in
      let s : key x ≡ key y = by_codes.total (key x) (key y) e (pairwise_at 0 (λ x y. earlier (key y) (key x) ≡ false) l from (suc from) o (omega arith) (omega arith)) in
      let rest = run_at l k (suc from) r o (omega arith) h (λ j i t. rw (← s) (f j (omega arith) t)) (λ t. rw (← s) (g t)) in
      rw (drop-cons l from 0 (omega arith), drop-cons l (suc from) 0 (omega arith), slice-cons (suc from) r l 0 (omega arith) h)
      (runs-join x y (drop (suc (suc from)) l) (slice (suc (suc from)) r l) (runs key (drop r l)) e (rw (drop-cons l (suc from) 0 (omega arith)) at rest))

  pub ends_at : (l : List ℕ) (from r : ℕ) → Ordered key l → from < r → r ≤ length l
      → ((j : ℕ) → from < j → j < r → earlier (key (get_or l from 0)) (key (get_or l j 0)) ≡ false)
      → (r < length l → earlier (key (get_or l from 0)) (key (get_or l r 0)) ≡ true) → Ends key l from r
  ends_at l from r o h k f g = record { after = h; within = k; run = run_at l (r - suc from) from r o (omega arith) k f g }

  -- ---- the cells of the runs

  abbrev pub cell_of : Run → List ℕ
  cell_of r = key r.first

  attach_in : (x : ℕ) {r : Run} (rs : List Run) → r ∈ attach key x rs → (r.first ≡ x) ⊎ (r ∈ rs)
  attach_in x [] m = inl (ap (λ (q : Run). q.first) (Memᴰ.eq_of_singleton m))
  attach_in x (q ∷ rs) m = cases (truth (earlier (key x) (key q.first)))
      (λ e. cases (Memᴰ.cases_cons (rw e at m)) (λ p. inl (ap (λ (q : Run). q.first) p)) inr)
      (λ e. cases (Memᴰ.cases_cons (rw e at m)) (λ p. inl (ap (λ (q : Run). q.first) p)) (λ i. inr (Memᴰ.tail i)))

  pub runs_in : {r : Run} (l : List ℕ) → r ∈ runs key l → r.first ∈ l
  unfolding runs
  runs_in [] m = absurd (Memᴰ.not-nil m)
  runs_in (x ∷ l) m = cases (attach_in x (runs key l) m) Memᴰ.head (λ i. Memᴰ.tail (runs_in l i))

  attach-sort : (x : ℕ) (rs : List Run) → ((r : Run) → r ∈ rs → earlier (cell_of r) (key x) ≡ false)
      → map cell_of (attach key x rs) ≡ insert earlier (key x) (map cell_of rs)
  attach-sort x [] h = refl
  attach-sort x (r ∷ rs) h = cases (truth (earlier (key x) (cell_of r)))
      (λ e. rw e)
      (λ e. let f = h r (Memᴰ.head refl) in rw (e, f) (ap (λ (k : List ℕ). k ∷ map cell_of rs) (by_codes.total (key x) (cell_of r) e f)))

  -- the keys of the runs are the keys of the rows, each once, in order
  pub runs-sort : (l : List ℕ) → Ordered key l → map cell_of (runs key l) ≡ sort earlier (map key l)
  unfolding runs
  runs-sort [] o = refl
  runs-sort (x ∷ l) o =
      attach-sort x (runs key l) (λ r m. o.0 r.first (runs_in l m)) ∙ ap (insert earlier (key x)) (runs-sort l o.1)

  pub runs-rising : (l : List ℕ) → Ordered key l → Rising earlier (map cell_of (runs key l))
  runs-rising l o = rw (runs-sort l o) (sort-rising earlier by_codes (map key l))

  -- ---- a run has all the rows of its key

  abbrev Whole : List ℕ → Run → Type 0
  Whole l r = r.first ∷ r.more ≡ keep (alike key (cell_of r)) l

  whole-more : (x : ℕ) (l : List ℕ) (r : Run) → earlier (key x) (cell_of r) ≡ true → Whole l r → Whole (x ∷ l) r
  whole-more x l r e w = rw (not_same (key x) (cell_of r) e) w

  whole-join : (x y : ℕ) (l m : List ℕ) → key x ≡ key y → y ∷ m ≡ keep (alike key (key y)) (y ∷ l) → x ∷ y ∷ m ≡ keep (alike key (key x)) (x ∷ y ∷ l)
  whole-join x y l m s w = rw (same_refl (key x)) (ap (λ (t : List ℕ). x ∷ t) (w ∙ ap (λ (k : List ℕ). keep (alike key k) (y ∷ l)) (sym s)))

  pub runs-whole : {r : Run} (l : List ℕ) → Ordered key l → r ∈ runs key l → Whole l r
  unfolding runs
  runs-whole [] o m = absurd (Memᴰ.not-nil (runs_in [] m))
  runs-whole {r} (x ∷ []) o m = rw (Memᴰ.eq_of_singleton m, same_refl (key x))
  runs-whole {r} (x ∷ y ∷ l) o m =
      let f = runs-first y l in
      cases (truth (earlier (key x) (key y)))
      (λ e. cases (Memᴰ.cases_cons (rw (runs-part x y l e) at m))
      (λ q. let none : keep (alike key (key x)) (y ∷ l) ≡ [] = keep-none (alike key (key x)) (y ∷ l)
      (λ z i p. by_codes.irrefl (key z) (rw (same-eq (key x) (key z) p) at (before-all key x y l o.1 e i))) in
      subst (λ (z : Run). Whole (x ∷ y ∷ l) z) (sym q) (rw (same_refl (key x), none)))
      (λ i. whole-more x (y ∷ l) r (before-all key x y l o.1 e (runs_in (y ∷ l) i)) (runs-whole (y ∷ l) o.1 i)))
      (λ e. let s : key x ≡ key y = by_codes.total (key x) (key y) e (o.0 y (Memᴰ.head refl)) in
      cases (Memᴰ.cases_cons (rw (runs-join x y l f.0 f.1 e f.2) at m))
      (λ q. subst (λ (z : Run). Whole (x ∷ y ∷ l) z) (sym q) (whole-join x y l f.0 s (runs-whole {r = record { first = y; more = f.0 }} (y ∷ l) o.1 (rw f.2 (Memᴰ.head refl)))))
      (λ i. whole-more x (y ∷ l) r (rw s ((rw f.2 at (runs-rising (y ∷ l) o.1)).0 (cell_of r) (Memᴰ.map cell_of i)))
      (runs-whole (y ∷ l) o.1 (rw f.2 (Memᴰ.tail i)))))

  attach-members : (x : ℕ) (rs : List Run) → flat_map members (attach key x rs) ≡ x ∷ flat_map members rs
  unfolding flat_map
  attach-members x [] = refl
  attach-members x (r ∷ rs) = cases (truth (earlier (key x) (cell_of r))) (λ e. rw e) (λ e. rw e)

  -- the rows of the runs are those of the list
  pub runs-members : (l : List ℕ) → flat_map members (runs key l) ≡ l
  unfolding runs flat_map
  runs-members [] = refl
  runs-members (x ∷ l) = attach-members x (runs key l) ∙ ap (λ (m : List ℕ). x ∷ m) (runs-members l)

  -- ---- lists one behind the other, the rows of each before those of the next

  attach-append : (x : ℕ) (r : Run) (rs qs : List Run) → attach key x (r ∷ rs ++ qs) ≡ attach key x (r ∷ rs) ++ qs
  attach-append x r rs qs = cases (truth (earlier (key x) (cell_of r))) (λ e. rw e) (λ e. rw e)

  pub runs_append : (l m : List ℕ) → ((x y : ℕ) → x ∈ l → y ∈ m → earlier (key x) (key y) ≡ true) → runs key (l ++ m) ≡ runs key l ++ runs key m
  unfolding runs
  runs_append [] m h = refl
  runs_append (x ∷ []) [] h = refl
  runs_append (x ∷ []) (y ∷ m) h = runs-part x y m (h x y (Memᴰ.head refl) (Memᴰ.head refl))
  runs_append (x ∷ y ∷ l) m h =
      let f = attach-first y (runs key l) in
      ap (attach key x) (runs_append (y ∷ l) m (λ z w i j. h z w (Memᴰ.tail i) j))
      ∙ rw f.2 (attach-append x (record { first = y; more = f.0 }) f.1 (runs key m))

  pub runs-flat : {A : Type 0} (f : A → List ℕ) (l : List A) → Pairwise (λ a b. (x y : ℕ) → x ∈ f a → y ∈ f b → earlier (key x) (key y) ≡ true) l
      → runs key (flat_map f l) ≡ flat_map (λ a. runs key (f a)) l
  unfolding runs flat_map
  runs-flat f [] p = refl
  runs-flat f (a ∷ l) p =
      runs_append (f a) (flat_map f l) (λ x y i j. let r = flat_in f l j in p.0 r.0 r.1 x y i r.2) ∙ ap (λ (rs : List Run). runs key (f a) ++ rs) (runs-flat f l p.1)

-- keys by which rows come in the same order make the same runs
module _ (key other : ℕ → List ℕ) where
  attach-same : (x : ℕ) (rs : List Run) → ((r : Run) → r ∈ rs → earlier (key x) (cell_of key r) ≡ earlier (other x) (cell_of other r)) → attach key x rs ≡ attach other x rs
  attach-same x [] h = refl
  attach-same x (r ∷ rs) h = rw (h r (Memᴰ.head refl))

  pub runs_same : (l : List ℕ) → ((x y : ℕ) → x ∈ l → y ∈ l → earlier (key x) (key y) ≡ earlier (other x) (other y)) → runs key l ≡ runs other l
  unfolding runs
  runs_same [] h = refl
  runs_same (x ∷ l) h =
      ap (attach key x) (runs_same l (λ y z i j. h y z (Memᴰ.tail i) (Memᴰ.tail j)))
      ∙ attach-same x (runs other l) (λ r m. h x r.first (Memᴰ.head refl) (Memᴰ.tail (runs_in other l m)))
