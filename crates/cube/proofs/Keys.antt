-- Keys: a set is one just if it holds a smallest key, and just if it fixes every dimension.
use mathlib.Core.Path.{◌≡◌, refl, sym, ◌∙◌, ap, ap₂}
use mathlib.Core.Logic.{◌≢◌, ◌↔◌}
use mathlib.Core.Bool.{true, false, not, ◌||◌, false≢true, or-true}
use mathlib.Core.List.Memᴰ
use mathlib.Core.List.{List, [], ◌∷◌}
use Prim.Native.Nat.{ℕ, zero, suc, ◌-◌, ◌/◌, ◌%◌, ◌^◌, ◌≤◌, ◌<◌}
use native.Mathlib.Omega.{arith}
use lib.ListN.{length}
use lib.Pow.{pow_pos}
use borrow.Author.Tests.{eqb-true, le-leb}
use Rattle.lists.specs.Lists.{◌∈◌, every, Pairwise, Distinct}
use Rattle.lists.specs.Order.{same, Rising}
use Rattle.lists.proofs.Tests.{cases, truth, refuted, both, both_of, every_in, every_of}
use Rattle.lists.proofs.Order.{same-eq, same_refl}
use Rattle.lists.proofs.Sorted.{rising-one, rising_unique}
use Rattle.lattice.specs.Sets.{before, sets, holds}
use Rattle.lattice.proofs.Sets.{by_lattice, holds-le, sets-in, sets_of, sets-rising}
use Rattle.cube.specs.Lattice.{Lattice, Laws}
use Rattle.cube.specs.Codes.{Coded, alike, agree, plain}
use Rattle.cube.specs.Condensed.{single}
use Rattle.cube.specs.Keys.{key, least_keys, fixes, dimension}
use Rattle.cube.proofs.Codes.{agree_refl, plain_laws}
use Rattle.cube.proofs.Singles.{single-other, single_of}
use Rattle.cube.proofs.Smallest.{smallest_pairwise, least_in, least-held, least-distinct, least-least, least_iff}
use Rattle.cube.proofs.Antichain.{antichain_short}

-- ---- any lattice

module _ (L : Lattice) (xs : List (List ℕ)) (s : ℕ) where
  -- on a key, rows that agree are one,
  pub key-other : {x y : List ℕ} → key L xs s ≡ true → x ∈ xs → y ∈ xs → L.agree s x y ≡ true → x ≡ y
  unfolding key
  key-other {x} e m n a = single-other L xs s x (every_in (single L xs s) e m) n a

  -- and where all rows that agree are one, it is a key
  pub key_of : ((x y : List ℕ) → x ∈ xs → y ∈ xs → L.agree s x y ≡ true → x ≡ y) → key L xs s ≡ true
  unfolding key
  key_of h = every_of (single L xs s) xs (λ x m. single_of L xs s x (λ y n a. h x y m n a))

  -- A node is a key just if no two different rows agree on it.
  pub key_iff : (key L xs s ≡ true) ↔ ((x y : List ℕ) → x ∈ xs → y ∈ xs → x ≢ y → L.agree s x y ≡ false)
  key_iff = (
    λ e x y m n d. refuted (λ a. d (key-other e m n a)),
    λ h. key_of (λ x y m n a. cases (truth (same x y)) (same-eq x y)
        (λ e. absurd (false≢true (sym (h x y m n (λ q. false≢true (sym e ∙ ap (same x) (sym q) ∙ same_refl x))) ∙ a)))),
  )

  module _ (t : ℕ) where
    pub fixes-in : {x y : List ℕ} → fixes L xs s t ≡ true → x ∈ xs → y ∈ xs → L.agree s x y ≡ true → L.agree t x y ≡ true
    unfolding fixes
    fixes-in {x} {y} e m n a = rw a at (every_in (λ y. not (L.agree s x y) || L.agree t x y) (every_in (λ x. every (λ y. not (L.agree s x y) || L.agree t x y) xs) e m) n)

    pub fixes_of : ((x y : List ℕ) → x ∈ xs → y ∈ xs → L.agree s x y ≡ true → L.agree t x y ≡ true) → fixes L xs s t ≡ true
    unfolding fixes
    fixes_of h = every_of (λ x. every (λ y. not (L.agree s x y) || L.agree t x y) xs) xs (λ x m.
        every_of (λ y. not (L.agree s x y) || L.agree t x y) xs (λ y n. cases (truth (L.agree s x y)) (λ a. rw (h x y m n a, or-true)) (λ a. rw a)))

pub fixes_iff : (L : Lattice) (xs : List (List ℕ)) (s t : ℕ)
    → (fixes L xs s t ≡ true) ↔ ((x y : List ℕ) → x ∈ xs → y ∈ xs → L.agree s x y ≡ true → L.agree t x y ≡ true)
fixes_iff L xs s t = (λ e x y m n a. fixes-in L xs s t e m n a, fixes_of L xs s t)

module _ (L : Lattice) (W : Laws L) (xs : List (List ℕ)) where
  all_in : (s : ℕ) → s ∈ L.nodes → s ∈ L.nodes
  all_in s m = m

  -- The smallest keys are just the keys that hold no other key;
  pub least_keys_iff : (m : ℕ) → (m ∈ least_keys L xs) ↔ ((m ∈ L.nodes) × (key L xs m ≡ true) × ((t : ℕ) → t ∈ L.nodes → key L xs t ≡ true → L.holds m t ≡ true → t ≡ m))
  unfolding least_keys
  least_keys_iff = least_iff L W (key L xs) L.nodes all_in W.order

  least_keys-distinct : Distinct (least_keys L xs)
  unfolding least_keys
  least_keys-distinct = least-distinct L W (key L xs) L.nodes all_in W.order

  least_keys-least : {m n : ℕ} → m ∈ least_keys L xs → n ∈ least_keys L xs → L.holds m n ≡ true → m ≡ n
  unfolding least_keys
  least_keys-least = least-least L W (key L xs) L.nodes all_in W.order

  pub least_keys_pairwise : (R : ℕ → ℕ → Type 0) → Pairwise R L.nodes → Pairwise R (least_keys L xs)
  unfolding least_keys
  least_keys_pairwise R o = smallest_pairwise L W (key L xs) R L.nodes [] tt o (λ e s m n. absurd (Memᴰ.not-nil m))

  module _ (v : (x : List ℕ) → x ∈ xs → L.valid x) where
    -- a node that holds a key is a key,
    pub key_up : (s t : ℕ) → L.holds s t ≡ true → key L xs t ≡ true → key L xs s ≡ true
    key_up s t h e = key_of L xs s (λ x y m n a. key-other L xs t e m n (W.agree_down s t x y (v x m) h a))

    -- so a node is a key just if it holds a smallest one.
    pub key-holds : {s : ℕ} → s ∈ L.nodes → (key L xs s ≡ true) ↔ ((m : ℕ) × (m ∈ least_keys L xs) × (L.holds s m ≡ true))
    unfolding least_keys
    key-holds {s} i = (
      λ e. least-held L W (key L xs) L.nodes all_in W.order i e,
      λ h. key_up s h.0 h.2 (least_in L W (key L xs) L.nodes all_in W.order h.1).1,
    )

    -- A node fixes each node that it holds,
    pub fixes-held : (s t : ℕ) → L.holds s t ≡ true → fixes L xs s t ≡ true
    fixes-held s t h = fixes_of L xs s t (λ x y m n a. W.agree_down s t x y (v x m) h a)

    -- and is a key just if it fixes the finest one,
    key-finest : (s : ℕ) → (key L xs s ≡ true) ↔ (fixes L xs s L.finest ≡ true)
    key-finest s = (
      λ e. fixes_of L xs s L.finest (λ x y m n a. rw (key-other L xs s e m n a) (W.agree_refl L.finest y)),
      λ e. key_of L xs s (λ x y m n a. W.agree_finest x y (v x m) (v y n) (fixes-in L xs s L.finest e m n a)),
    )

    -- so the finest node is a key.
    pub finest-key : key L xs L.finest ≡ true
    finest-key = (key-finest L.finest).1 (fixes-held L.finest L.finest (W.holds_refl L.finest))

  -- with no row or one every node is a key
  pub key-few : length xs ≤ 1 → (s : ℕ) → key L xs s ≡ true
  key-few h s = key_of L xs s (λ x y m n a. one xs h m n)
    where
      one : {x y : List ℕ} (l : List (List ℕ)) → length l ≤ 1 → x ∈ l → y ∈ l → x ≡ y
      one [] h m n = absurd (Memᴰ.not-nil m)
      one (z ∷ []) h m n = Memᴰ.eq_of_singleton m ∙ sym (Memᴰ.eq_of_singleton n)
      one (z ∷ w ∷ l) h m n = absurd (omega arith)

-- ---- sets of dimensions

-- rows that agree on every dimension are one
alike-one : (n a b : ℕ) → 1 ≤ n → alike n a b ≡ true → a ≡ b
alike-one zero a b h e = absurd (omega arith)
alike-one (suc n) a b h e = eqb-true a b e

agree-all : (d : ℕ) (x y : List ℕ) → Coded d x → Coded d y → ((i : ℕ) → i < d → agree (2 ^ i) x y ≡ true) → x ≡ y
agree-all zero [] [] k l h = refl
agree-all zero [] (b ∷ y) k l h = absurd l
agree-all zero (a ∷ x) y k l h = absurd k
agree-all (suc d) [] y k l h = absurd k
agree-all (suc d) (a ∷ x) [] k l h = absurd l
agree-all (suc d) (a ∷ x) (b ∷ y) k l h =
    let now = both (alike (2 ^ 0 % 2) a b) (agree (2 ^ 0 / 2) x y) (h 0 (omega arith)) in
    ap₂ ◌∷◌ (alike-one (2 ^ 0 % 2) a b (omega arith) now.0)
    (agree-all d x y k.1 l.1 (λ i g.
    let r = both (alike (2 ^ suc i % 2) a b) (agree (2 ^ suc i / 2) x y) (h (suc i) (omega arith)) in
    let q : 2 ^ suc i / 2 ≡ 2 ^ i = omega arith in
    rw q at r.1))

-- every set holds the empty one
holds-none : (d s : ℕ) → holds d s 0 ≡ true
holds-none zero s = refl
holds-none (suc d) s = both_of (le-leb 0 (s % 2) (omega arith)) (holds-none d (s / 2))

module _ (d : ℕ) (xs : List (List ℕ)) where
  -- the smallest keys go by lattice order,
  pub least_keys-rising : Rising before (least_keys (plain d) xs)
  least_keys-rising = least_keys_pairwise (plain d) (plain_laws d) xs (λ s t. before s t ≡ true) (sets-rising d)

  -- up to 8 dimensions are at most 70,
  pub least_keys-short : d ≤ 8 → length (least_keys (plain d) xs) ≤ 70
  least_keys-short h = antichain_short d h (least_keys (plain d) xs) (λ m i. sets-in d ((least_keys_iff (plain d) (plain_laws d) xs m).0 i).0)
      (least_keys-distinct (plain d) (plain_laws d) xs) (λ m n i j. least_keys-least (plain d) (plain_laws d) xs i j)

  -- and with no row or one the empty set is the only one.
  pub least_keys-few : length xs ≤ 1 → least_keys (plain d) xs ≡ 0 ∷ []
  least_keys-few h = rising_unique before by_lattice (least_keys (plain d) xs) (0 ∷ []) least_keys-rising (rising-one before 0)
      (λ m i. let r = (least_keys_iff (plain d) (plain_laws d) xs m).0 i in
      Memᴰ.head (sym (r.2 0 none (key-few (plain d) (plain_laws d) xs h 0) (holds-none d m))))
      (λ m i. Memᴰ.cast (Memᴰ.eq_of_singleton i) ((least_keys_iff (plain d) (plain_laws d) xs 0).1 (none, key-few (plain d) (plain_laws d) xs h 0, λ t j e f. below t j f)))
    where
      none : 0 ∈ sets d
      none = sets_of d (pow_pos d)

      -- the empty set holds no other
      below : (t : ℕ) → t ∈ sets d → holds d 0 t ≡ true → t ≡ 0
      below t j f = omega (arith, (holds-le d 0 t (sets-in d j) f).0)

  -- A set is a key just if it fixes every dimension.
  pub key-fixes : ((x : List ℕ) → x ∈ xs → Coded d x) → (s : ℕ) → (key (plain d) xs s ≡ true) ↔ ((i : ℕ) → 1 ≤ i → i ≤ d → fixes (plain d) xs s (dimension i) ≡ true)
  key-fixes v s = (
    λ e i g h. fixes_of (plain d) xs s (dimension i) (λ x y m n a. rw (key-other (plain d) xs s e m n a) (agree_refl (dimension i) y)),
    λ f. key_of (plain d) xs s (λ x y m n a. agree-all d x y (v x m) (v y n) (λ i g.
        let q : suc i - 1 ≡ i = omega arith in
        rw q at (fixes-in (plain d) xs s (dimension (suc i)) (f (suc i) (omega arith) (omega arith)) m n a))),
  )
