-- Cells listed set by set in lattice order, those of a set by codes, rise by their keys: our normal cells do.
use mathlib.Core.Path.{◌≡◌, sym, ◌∙◌, ap}
use mathlib.Core.Logic.{◌≢◌}
use mathlib.Core.Bool.{Bool, true, not}
use mathlib.Core.List.Memᴰ
use mathlib.Core.List.{List, [], ◌∷◌, flat_map}
use Prim.Native.Nat.{ℕ}
use native.Mathlib.Omega.{arith}
use lib.Dec.{eqb, leb, ltb}
use lib.ListN.{length}
use Rattle.lists.specs.Lists.{◌∈◌}
use Rattle.lists.specs.Order.{Strict, Rising, earlier}
use Rattle.lists.proofs.Tests.{cases}
use Rattle.lists.proofs.Pairwise.{pairwise_append, pairwise_flat, pairwise_imp, pairwise_keep}
use Rattle.lists.proofs.Order.{earlier-lt, earlier-eq, earlier_skip, earlier_differs, by_codes}
use Rattle.lattice.specs.Sets.{size, before, full, sets}
use Rattle.lattice.proofs.Sets.{before_is, sets-rising}
use Rattle.cube.specs.Codes.{set-of, keys, plain}
use Rattle.cube.specs.Cube.{within, blank, cuboid}
use Rattle.cube.specs.Condensed.{proper, shared, common, normals, Base}
use Rattle.cube.proofs.Codes.{plain_laws}
use Rattle.cube.proofs.Cells.{cuboid-rising}
use Rattle.cube.proofs.Existing.{blank-within}
use Rattle.cube.proofs.Nodes.{proper_in}
use Rattle.cube.proofs.Normals.{shared_in, common_in}

-- cells are ordered by their keys
abbrev pub comes_before : List ℕ → List ℕ → Bool
comes_before c e = earlier (keys c) (keys e)

pub by-keys : Strict comes_before
by-keys = record {
  trans = λ x y z. by_codes.trans (keys x) (keys y) (keys z);
  total = λ x y e f. cc (by_codes.total (keys x) (keys y) e f);
  irrefl = λ x. by_codes.irrefl (keys x);
}

-- the first key in which two cells differ decides: the sizes of their sets, the sets, the codes
module _ (c e : List ℕ) where
  abbrev s : ℕ
  s = set-of c

  abbrev u : ℕ
  u = set-of e

  pub keys-size : size s ≢ size u → comes_before c e ≡ ltb (size s) (size u)
  keys-size n = earlier_differs (size s) (size u) (s ∷ c) (u ∷ e) n

  pub keys-set : size s ≡ size u → s ≢ u → comes_before c e ≡ ltb s u
  keys-set q n = earlier_skip (size s) (size u) (s ∷ c) (u ∷ e) q ∙ earlier_differs s u c e n

  pub keys-codes : s ≡ u → comes_before c e ≡ earlier c e
  keys-codes q = earlier_skip (size s) (size u) (s ∷ c) (u ∷ e) (ap size q) ∙ earlier_skip s u c e q

  two_sets : before s u ≡ true → comes_before c e ≡ true
  two_sets h = cases (before_is s u h)
      (λ l. earlier-lt (size s) (size u) (s ∷ c) (u ∷ e) l)
      (λ l. earlier-eq (size s) (size u) (s ∷ c) (u ∷ e) l.0 (earlier-lt s u c e l.1))

-- f lists what lies at the cells of a set, by their codes
pub keys-rising : {A : Type 0} (codes : A → List ℕ) (f : ℕ → List A) (l : List ℕ) → Rising before l
    → ((s : ℕ) → s ∈ l → Rising (λ p q. earlier (codes p) (codes q)) (f s)) → ((s : ℕ) (p : A) → s ∈ l → p ∈ f s → set-of (codes p) ≡ s)
    → Rising (λ p q. comes_before (codes p) (codes q)) (flat_map f l)
keys-rising {A} codes f l r by at = pairwise_flat (λ p q. comes_before (codes p) (codes q) ≡ true) f l
    (λ s h. pairwise_imp (λ p q. earlier (codes p) (codes q) ≡ true) (λ p q. comes_before (codes p) (codes q) ≡ true) (f s)
    (λ p q i j e. keys-codes (codes p) (codes q) (at s p h i ∙ sym (at s q h j)) ∙ e)
    (by s h))
    (pairwise_imp (λ s t. before s t ≡ true) (λ s t. (p q : A) → p ∈ f s → q ∈ f t → comes_before (codes p) (codes q) ≡ true) l
    (λ s t i j h p q m n. two_sets (codes p) (codes q) (rw (at s p i m, at t q j n) h))
    r)

module _ (d : ℕ) (xs : List (List ℕ)) (b : Base (plain d) xs) where
  proper-rising : Rising before (proper (plain d))
  unfolding proper
  proper-rising = pairwise_keep (λ s t. before s t ≡ true) (λ s. not (eqb s (full d))) (sets d) (sets-rising d)

  shared-rising : (s : ℕ) → Rising earlier (shared (plain d) xs s)
  unfolding shared
  shared-rising s = pairwise_keep (λ c e. earlier c e ≡ true) (λ c. leb 2 (length (within (plain d) xs c))) (cuboid (plain d) xs s) (cuboid-rising (plain d) xs s)

  shared-set : (s : ℕ) (c : List ℕ) → s ∈ proper (plain d) → c ∈ shared (plain d) xs s → set-of c ≡ s
  shared-set s c h m =
      let x = (shared_in (plain d) (plain_laws d) xs b s m).0 in
      ap set-of x.2 ∙ (plain_laws d).node_cell s x.0 (b.valid x.0 x.1) (proper_in (plain d) (plain_laws d) h).0

  common-rising : Rising comes_before (common (plain d) xs)
  unfolding common
  common-rising = keys-rising (λ c. c) (shared (plain d) xs) (proper (plain d)) proper-rising (λ s h. shared-rising s) shared-set

  pub normals-rising : Rising comes_before (normals (plain d) xs)
  unfolding normals
  normals-rising = pairwise_append (λ c e. comes_before c e ≡ true) (blank (plain d) xs) (common (plain d) xs) (blank-rising xs) common-rising
      (λ c e m n. absurd (omega (arith, blank-within (plain d) xs m e, common_in (plain d) (plain_laws d) xs b n)))
    where
      blank-rising : (l : List (List ℕ)) → Rising comes_before (blank (plain d) l)
      blank-rising [] = (λ y i. absurd (Memᴰ.not-nil i), tt)
      blank-rising (x ∷ l) = tt
