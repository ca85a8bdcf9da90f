-- The nodes one level coarser than a node; the list of a row has just the nodes on which it is single and on none one level coarser.
use mathlib.Core.Path.{◌≡◌, refl, sym, ◌∙◌, ap, ap₂}
use mathlib.Core.Logic.{◌≢◌, ◌⊎◌, inl, inr}
use mathlib.Core.Bool.{Bool, true, false, not, ◌&&◌, false≢true}
use mathlib.Core.List.Memᴰ
use mathlib.Core.List.{List, [], ◌∷◌, ◌++◌}
use Prim.Native.Nat.{ℕ, suc, ◌+◌, ◌*◌, ◌/◌, ◌%◌, ◌<◌, ◌≤◌}
use native.Mathlib.Omega.{arith}
use native.Mathlib.Nat.{mul_comm, mul-le-mul_left, mod-lt, div-add-mod, div-lt_iff_lt-mul, add-mul-div_left, add-mul-mod_self_left}
use lib.Dec.{eqb, ltb}
use lib.ListN.{length}
use borrow.Author.Tests.{eqb-true, eq-eqb, ltb-true, lt-ltb, ltb-false}
use Rattle.lists.specs.Lists.{◌∈◌, Pairwise, keep, every, some, only, below}
use Rattle.lists.specs.Order.{Strict}
use Rattle.lists.proofs.Tests.{cases, truth, both, both_of, refuted, every_in, every_of}
use Rattle.lists.proofs.Members.{only_in, keep_in, keep_of, below_in, below_of}
use Rattle.lists.proofs.Pairwise.{pairwise_imp, pairwise_keep, pairwise_append}
use Rattle.lists.proofs.Sorted.{rising_unique}
use Rattle.cube.specs.Lattice.{Lattice}
use Rattle.cube.specs.Codes.{Coded}
use Rattle.cube.specs.Condensed.{proper, single, smallest, listed}
use Rattle.cube.proofs.Nodes.{proper_in, proper_of}
use Rattle.cube.proofs.Singles.{single_up}
use Rattle.cube.proofs.Smallest.{listed_iff}
use Rattle.family_nodes.specs.Nodes.{node_count, levels_of, finer}
use Rattle.family_nodes.specs.Families.{Levels, heights, families}
use Rattle.family_nodes.specs.Coarser.{rises, ending}
use Rattle.family_nodes.proofs.Nodes.{Some, digit, higher-both, higher_of, finer-refl, quotient_lt, fore, rest}
use Rattle.family_nodes.proofs.Laws.{some-levels, families-laws, falling}

-- ---- nodes one level coarser

-- one level more in the first dimension, and in a later one
pub first_rise : (h n : ℕ) → suc (n % h) < h → ((n + 1) % h ≡ n % h + 1) × ((n + 1) / h ≡ n / h)
first_rise h n k =
    let e : n + 1 ≡ n % h + 1 + h * (n / h) = omega (arith, div-add-mod n h) in
    let g = digit (n % h + 1) h (n / h) (omega (arith, k)) in
    (ap (λ m. m % h) e ∙ g.0, ap (λ m. m / h) e ∙ g.1)

later_rise : (h n s : ℕ) → 1 ≤ h → ((n + h * s) % h ≡ n % h) × ((n + h * s) / h ≡ n / h + s)
later_rise h n s p = (add-mul-mod_self_left n h s, add-mul-div_left n s p)

rises-cases : (h : ℕ) (hs : List ℕ) (n : ℕ) {s : ℕ} → s ∈ rises (h ∷ hs) n → ((s ≡ 1) × (suc (n % h) < h)) ⊎ ((r : ℕ) × (r ∈ rises hs (n / h)) × (h * r ≡ s))
rises-cases h hs n m = cases (only_in (ltb (suc (n % h)) h) m)
    (λ q. inl (q.0, ltb-true (suc (n % h)) h q.1))
    (λ i. inr (Memᴰ.of_map (λ s. h * s) (rises hs (n / h)) i))

pub only-tail : {A : Type 0} {x : A} {l : List A} (b : Bool) (y : A) → x ∈ l → x ∈ only b y l
only-tail true y m = Memᴰ.tail m
only-tail false y m = m

-- each is a node, coarser than n
pub rises-coarser : (hs : List ℕ) (n s : ℕ) → Some hs → n < node_count hs → s ∈ rises hs n → (1 ≤ s) × (n + s < node_count hs) × (finer hs n (n + s) ≡ true)
rises-coarser [] n s p k m = absurd (Memᴰ.not-nil m)
rises-coarser (h ∷ hs) n s p k m = cases (rises-cases h hs n m)
    (λ q.
    let g = first_rise h n q.1 in
    let i = quotient_lt h (node_count hs) n (fore p) k in
    let j : (n + 1) / h < node_count hs = rw g.1 i in
    let b : n + 1 < node_count hs * h = (div-lt_iff_lt-mul {k = h} {x = n + 1} {y = node_count hs} (fore p)).0 j in
    rw q.0 (
      omega arith,
      rw (mul_comm h (node_count hs)) b,
      higher_of (n % h) ((n + 1) % h) (levels_of hs (n / h)) (levels_of hs ((n + 1) / h)) (omega (arith, g.0)) (rw g.1 (finer-refl hs (n / h))),
    ))
    (λ q.
    let g = later_rise h n q.0 (fore p) in
    let r = rises-coarser hs (n / h) q.0 (rest p) (quotient_lt h (node_count hs) n (fore p) k) q.1 in
    let j : (n + h * q.0) / h < node_count hs = rw g.1 r.1 in
    let b : n + h * q.0 < node_count hs * h = (div-lt_iff_lt-mul {k = h} {x = n + h * q.0} {y = node_count hs} (fore p)).0 j in
    let z : h * 1 ≤ h * q.0 = mul-le-mul_left h r.0 in
    rw (← q.2) (
      omega (arith, z, fore p),
      rw (mul_comm h (node_count hs)) b,
      higher_of (n % h) ((n + h * q.0) % h) (levels_of hs (n / h)) (levels_of hs ((n + h * q.0) / h)) (omega (arith, g.0)) (rw g.1 r.2),
    ))

pub strictly : (a b : ℕ) → a ≤ b → a ≢ b → a < b
strictly a b h n = cases (truth (ltb a b)) (λ e. ltb-true a b e) (λ e. let g : a ≡ b = omega (arith, ltb-false a b e, h) in absurd (n g))

-- and each coarser node is one of them or coarser than it
pub rises-below : (hs : List ℕ) (n m : ℕ) → Some hs → n < node_count hs → m < node_count hs → finer hs n m ≡ true → n ≢ m → (s : ℕ) × (s ∈ rises hs n) × (finer hs (n + s) m ≡ true)
rises-below [] n m p k l e d = absurd (d (omega (arith, k, l)))
rises-below (h ∷ hs) n m p k l e d =
    let r = higher-both (n % h) (m % h) (levels_of hs (n / h)) (levels_of hs (m / h)) e in
    cases (truth (eqb (n / h) (m / h)))
    (λ q.
    let same_rest : n / h ≡ m / h = eqb-true (n / h) (m / h) q in
    let less : n % h < m % h = strictly (n % h) (m % h) r.0 (λ z. d (sym (div-add-mod n h) ∙ ap₂ (λ a b. h * a + b) same_rest z ∙ div-add-mod m h)) in
    let top : m % h < h = mod-lt m (fore p) in
    let room : suc (n % h) < h = omega (arith, less, top) in
    let g = first_rise h n room in (
      1,
      rw (lt-ltb (suc (n % h)) h room) (Memᴰ.head refl),
      higher_of ((n + 1) % h) (m % h) (levels_of hs ((n + 1) / h)) (levels_of hs (m / h)) (omega (arith, g.0, less)) (rw g.1 r.1),
    ))
    (λ q.
    let i = rises-below hs (n / h) (m / h) (rest p) (quotient_lt h (node_count hs) n (fore p) k) (quotient_lt h (node_count hs) m (fore p) l) r.1
    (λ z. false≢true (sym q ∙ eq-eqb (n / h) (m / h) z)) in
    let g = later_rise h n i.0 (fore p) in (
      h * i.0,
      only-tail (ltb (suc (n % h)) h) 1 (Memᴰ.map (λ s. h * s) i.1),
      higher_of ((n + h * i.0) % h) (m % h) (levels_of hs ((n + h * i.0) / h)) (levels_of hs (m / h)) (omega (arith, g.0, r.0)) (rw g.1 i.2),
    ))

-- ---- our list

-- the smallest nodes keep the order of the nodes
smallest-order : (L : Lattice) (p : ℕ → Bool) (R : ℕ → ℕ → Type 0) (l acc : List ℕ) → Pairwise R acc → Pairwise R l → ((e s : ℕ) → e ∈ acc → s ∈ l → R e s) → Pairwise R (smallest L p l acc)
smallest-order L p R [] acc a b c = a
smallest-order L p R (s ∷ l) acc a b c =
    let t = p s && not (some (L.holds s) acc) in
    smallest-order L p R l (acc ++ only t s [])
    (pairwise_append R acc (only t s []) a (one t) (λ e y m n. cases (only_in t n) (λ q. rw q.0 (c e s m (Memᴰ.head refl))) (λ i. absurd (Memᴰ.not-nil i))))
    b.1
    (λ e y m n. cases (Memᴰ.append_cases acc m) (λ i. c e y i (Memᴰ.tail n))
    (λ i. cases (only_in t i) (λ q. rw q.0 (b.0 y n)) (λ j. absurd (Memᴰ.not-nil j))))
  where
    one : (t : Bool) → Pairwise R (only t s [])
    one true = (λ y m. absurd (Memᴰ.not-nil m), tt)
    one false = tt

proper-keeps : (L : Lattice) (R : ℕ → ℕ → Type 0) → Pairwise R L.nodes → Pairwise R (proper L)
unfolding proper
proper-keeps L R h = pairwise_keep R (λ s. not (eqb s L.finest)) L.nodes h

listed-keeps : (L : Lattice) (xs : List (List ℕ)) (x : List ℕ) (R : ℕ → ℕ → Type 0) → Pairwise R (proper L) → Pairwise R (listed L xs x)
unfolding listed
listed-keeps L xs x R h = smallest-order L (λ s. single L xs s x) R (proper L) [] tt h (λ e s m n. absurd (Memᴰ.not-nil m))

abbrev falls-by : ℕ → ℕ → Bool
falls-by a b = ltb b a

by-falling : Strict falls-by
by-falling = record {
  trans = λ x y z e f. lt-ltb z x (omega (arith, ltb-true y x e, ltb-true z y f));
  total = λ x y e f. omega (arith, ltb-false y x e, ltb-false x y f);
  irrefl = λ x e. omega (arith, ltb-true x x e);
}

module _ (ts : List Levels) (xs : List (List ℕ)) (x : List ℕ) (k : Coded (length ts) x) where
  abbrev F : Lattice
  F = families ts

  abbrev hs : List ℕ
  hs = heights ts

  node_of : {n : ℕ} → n ∈ proper F → n < node_count hs
  node_of m = below_in (node_count hs) (proper_in F (families-laws ts) m).0

  -- n is listed just if the row is single on it, and on no node one level coarser.
  ending_of : (n : ℕ) → n ∈ listed F xs x → (n ∈ proper F) × (ending ts xs n x ≡ true)
  unfolding ending
  ending_of n m =
      let i = (listed_iff F (families-laws ts) xs x n).0 m in (
        i.0,
        both_of i.1 (every_of (λ s. not (single F xs (n + s) x)) (rises hs n) (λ s j.
            let r = rises-coarser hs n s (some-levels ts) (node_of i.0) j in
            let p : n + s ∈ proper F = proper_of F (families-laws ts) (below_of (node_count hs) r.1) (λ z. omega (arith, z, r.0)) in
            let q : single F xs (n + s) x ≡ false = refuted (λ e. let z = i.2 (n + s) p e r.2 in omega (arith, z, r.0)) in
            ap not q)),
      )

  ending-in : (n : ℕ) → n ∈ proper F → ending ts xs n x ≡ true → n ∈ listed F xs x
  unfolding ending
  ending-in n m e =
      let b = both (single F xs n x) (every (λ s. not (single F xs (n + s) x)) (rises hs n)) e in
      (listed_iff F (families-laws ts) xs x n).1 (
        m,
        b.0,
        λ t i f g. cases (truth (eqb n t))
            (λ z. sym (eqb-true n t z))
            (λ z.
            let r = rises-below hs n t (some-levels ts) (node_of m) (node_of i) g (λ w. false≢true (sym z ∙ eq-eqb n t w)) in
            let c : not (single F xs (n + r.0) x) ≡ true = every_in (λ s. not (single F xs (n + s) x)) b.1 r.1 in
            let u : single F xs (n + r.0) x ≡ true = single_up F (families-laws ts) xs (n + r.0) t x k r.2 f in
            absurd (false≢true (sym (ap not u) ∙ c))),
      )

  -- So our list is found node by node, by falling number, with no look at what was listed before.
  pub listed-is : listed F xs x ≡ keep (λ n. ending ts xs n x) (proper F)
  listed-is = rising_unique falls-by by-falling (listed F xs x) (keep (λ n. ending ts xs n x) (proper F)) listed-falls
      (pairwise_keep (λ a b. falls-by a b ≡ true) (λ n. ending ts xs n x) (proper F) proper-falls)
      (λ n m. let r = ending_of n m in keep_of (λ n. ending ts xs n x) r.0 r.1)
      (λ n m. let r = keep_in (λ n. ending ts xs n x) (proper F) m in ending-in n r.0 r.1)
    where
      nodes-fall : Pairwise (λ a b. falls-by a b ≡ true) (below (node_count hs))
      nodes-fall = pairwise_imp (λ e s. s < e) (λ a b. falls-by a b ≡ true) (below (node_count hs)) (λ a b i j h. lt-ltb b a h) (falling (node_count hs))

      proper-falls : Pairwise (λ a b. falls-by a b ≡ true) (proper F)
      proper-falls = proper-keeps F (λ a b. falls-by a b ≡ true) nodes-fall

      listed-falls : Pairwise (λ a b. falls-by a b ≡ true) (listed F xs x)
      listed-falls = listed-keeps F xs x (λ a b. falls-by a b ≡ true) proper-falls
