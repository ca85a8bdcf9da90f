-- Rows in the order of a key that refines another one: one group of the coarser key after the other, the rows of each ordered by what the finer key adds.
use mathlib.Core.Path.{◌≡◌, refl, sym, ap, subst, ◌∙◌}
use mathlib.Core.Bool.{Bool, true, false}
use mathlib.Core.List.{List, [], ◌∷◌, ◌++◌, flat_map}
use Prim.Native.Nat.{ℕ, ◌<◌}
use Rattle.lists.specs.Lists.{◌∈◌, keep, Pairwise}
use Rattle.lists.specs.Order.{earlier}
use Rattle.lists.proofs.Tests.{refuted}
use Rattle.lists.proofs.Members.{keep_in, keep_append, keep-part, flat_in, flat-same}
use Rattle.lists.proofs.Pairwise.{pairwise_imp, pairwise_of_map, pairwise_flat}
use Rattle.lists.proofs.Order.{by_codes, strict_turned, same-eq, same_refl}
use Rattle.rows_order.specs.Index.{arranged}
use Rattle.rows_runs.specs.Runs.{Run, members, runs, again}
use Rattle.rows_order.proofs.Numbers.{numbers, numbers_in}
use Rattle.rows_order.specs.Few.{Ordered}
use Rattle.rows_order.proofs.Arranged.{alike, arranged_ordered, arranged_in, arranged-keep}
use Rattle.rows_runs.proofs.Runs.{cell_of, runs-rising, runs-whole, runs-members, runs-flat, runs_same}
use Rattle.rows_order.proofs.Sorted.{sorted_unique, arranged_sorted, stable_ordered, stable-keep, stable_in}

-- of the first n rows, those that the key `short` parts are in its order by `long` too, and the others in the order of `more`
pub record Refined (n : ℕ) (short more long : ℕ → List ℕ) : Type 0 where
  pub parted : (i j : ℕ) → i < n → j < n → earlier (short i) (short j) ≡ true → earlier (long i) (long j) ≡ true
  pub equal : (i j : ℕ) → i < n → j < n → short i ≡ short j → earlier (long i) (long j) ≡ earlier (more i) (more j)

pub keep-flat : {A : Type 0} (p : ℕ → Bool) (f : A → List ℕ) (l : List A) → keep p (flat_map f l) ≡ flat_map (λ a. keep p (f a)) l
unfolding flat_map
keep-flat p f [] = refl
keep-flat p f (x ∷ l) = keep_append p (f x) (flat_map f l) ∙ ap (λ (m : List ℕ). keep p (f x) ++ m) (keep-flat p f l)

module _ {n : ℕ} {short more long : ℕ → List ℕ} (f : Refined n short more long) where
  -- rows of one longer key are of one shorter key, and of one key of the added dimensions
  alike-short : (i j : ℕ) → i < n → j < n → long i ≡ long j → short i ≡ short j
  alike-short i j h k e = by_codes.total (short i) (short j)
      (refuted (λ t. by_codes.irrefl (long j) (rw e at (f.parted i j h k t))))
      (refuted (λ t. by_codes.irrefl (long j) (rw e at (f.parted j i k h t))))

  alike-more : (i j : ℕ) → i < n → j < n → long i ≡ long j → more i ≡ more j
  alike-more i j h k e =
      let s = alike-short i j h k e in
      by_codes.total (more i) (more j)
      (refuted (λ t. by_codes.irrefl (long j) (rw e at (f.equal i j h k s ∙ t))))
      (refuted (λ t. by_codes.irrefl (long j) (rw e at (f.equal j i k h (sym s) ∙ t))))

  -- the groups by the shorter key
  abbrev groups : List Run
  groups = runs short (arranged short n)

  member_of : {r : Run} → r ∈ groups → (x : ℕ) → x ∈ members r → (x < n) × (cell_of short r ≡ short x)
  member_of {r} m x i =
      let k = keep_in (alike short (cell_of short r)) (arranged short n) (subst (λ (l : List ℕ). x ∈ l) (runs-whole short (arranged short n) (arranged_ordered short n) m) i) in
      (arranged_in short n k.0, same-eq (cell_of short r) (short x) k.1)

  again_of : {r : Run} → r ∈ groups → (x : ℕ) → x ∈ again more r → (x < n) × (cell_of short r ≡ short x)
  again_of {r} m x i = member_of m x (stable_in more (members r) i)

  again_ordered : (r : Run) → r ∈ groups → Ordered long (again more r)
  again_ordered r m = pairwise_imp (λ x y. earlier (more y) (more x) ≡ false) (λ x y. earlier (long y) (long x) ≡ false) (again more r)
      (λ x y i j e. let p = again_of m x i in
      let q = again_of m y j in
      f.equal y x q.0 p.0 (sym q.1 ∙ p.1) ∙ e)
      (stable_ordered more (members r))

  -- rows of an earlier group come before those of a later one
  groups-part : (r q : Run) → r ∈ groups → q ∈ groups → earlier (cell_of short r) (cell_of short q) ≡ true → (x y : ℕ) → x ∈ again more r → y ∈ again more q → earlier (long x) (long y) ≡ true
  groups-part r q m o e x y i j =
      let a = again_of m x i in
      let b = again_of o y j in
      f.parted x y a.0 b.0 (subst (λ (c : List ℕ). earlier c (short y) ≡ true) a.1 (subst (λ (c : List ℕ). earlier (cell_of short r) c ≡ true) b.1 e))

  again-parts : (z : ℕ) → z < n → keep (alike long (long z)) (flat_map (again more) groups) ≡ keep (alike long (long z)) (numbers n)
  again-parts z h =
      let p = alike long (long z) in
      let into_more : (x : ℕ) → x < n → p x ≡ true → alike more (more z) x ≡ true = λ x k t. rw (← alike-more z x h k (same-eq (long z) (long x) t)) (same_refl (more z)) in
      let into-short : (x : ℕ) → x < n → p x ≡ true → alike short (short z) x ≡ true = λ x k t. rw (← alike-short z x h k (same-eq (long z) (long x) t)) (same_refl (short z)) in
      keep-flat p (again more) groups
      ∙ flat-same (λ r. keep p (again more r)) (λ r. keep p (members r)) groups
      (λ r m. sym (keep-part p (alike more (more z)) (again more r) (λ x i. into_more x (again_of m x i).0))
      ∙ ap (keep p) (stable-keep more (more z) (members r))
      ∙ keep-part p (alike more (more z)) (members r) (λ x i. into_more x (member_of m x i).0))
      ∙ sym (keep-flat p members groups)
      ∙ ap (keep p) (runs-members short (arranged short n))
      ∙ sym (keep-part p (alike short (short z)) (arranged short n) (λ x i. into-short x (arranged_in short n i)))
      ∙ ap (keep p) (arranged-keep short (short z) n)
      ∙ keep-part p (alike short (short z)) (numbers n) (λ x i. into-short x (numbers_in n i))

  groups-apart : Pairwise (λ r q. (x y : ℕ) → x ∈ again more r → y ∈ again more q → earlier (long x) (long y) ≡ true) groups
  groups-apart = pairwise_imp (λ r q. earlier (cell_of short r) (cell_of short q) ≡ true) (λ r q. (x y : ℕ) → x ∈ again more r → y ∈ again more q → earlier (long x) (long y) ≡ true) groups
      groups-part (pairwise_of_map (λ c e. earlier c e ≡ true) (cell_of short) groups (runs-rising short (arranged short n) (arranged_ordered short n)))

  -- the order by the longer key, and its groups
  pub order_refined : arranged long n ≡ flat_map (again more) groups
  order_refined = sorted_unique long n (arranged_sorted long n) (record {
    ordered = pairwise_flat (λ x y. earlier (long y) (long x) ≡ false) (again more) groups again_ordered
        (pairwise_imp (λ r q. (x y : ℕ) → x ∈ again more r → y ∈ again more q → earlier (long x) (long y) ≡ true)
        (λ r q. (x y : ℕ) → x ∈ again more r → y ∈ again more q → earlier (long y) (long x) ≡ false) groups
        (λ r q m o h x y i j. strict_turned by_codes (long x) (long y) (h x y i j)) groups-apart);
    below = λ x m. let r = flat_in (again more) groups m in (again_of r.1 x r.2).0;
    parts = again-parts;
  })

  pub groups_refined : runs long (arranged long n) ≡ flat_map (λ r. runs more (again more r)) groups
  groups_refined =
      ap (runs long) order_refined ∙ runs-flat long (again more) groups groups-apart
      ∙ flat-same (λ r. runs long (again more r)) (λ r. runs more (again more r)) groups
      (λ r m. runs_same long more (again more r) (λ x y i j. let p = again_of m x i in
      let q = again_of m y j in
      f.equal x y p.0 q.0 (sym p.1 ∙ q.1)))
