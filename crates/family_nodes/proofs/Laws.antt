-- The nodes of families have the laws of a lattice, so the theorems of the condensed cube hold for them.
use mathlib.Core.Path.{◌≡◌, refl, sym, ◌∙◌, ap, ap₂}
use mathlib.Core.Logic.{◌≢◌}
use mathlib.Core.Bool.{true, false, false≢true}
use mathlib.Core.List.Memᴰ
use mathlib.Core.List.{List, [], ◌∷◌, nil≢cons}
use Prim.Native.Nat.{ℕ, zero, suc, ◌+◌, ◌-◌, ◌<◌, ◌≤◌}
use native.Mathlib.Omega.{arith}
use native.Mathlib.Nat.{zero-mod, zero-div}
use lib.Dec.{ltb}
use lib.ListN.{length, get_or, replicate}
use borrow.Author.Tests.{ltb-true, lt-ltb}
use Rattle.lists.specs.Lists.{◌∈◌, Pairwise, below}
use Rattle.lists.specs.Order.{same}
use Rattle.lists.proofs.Tests.{both, refuted}
use Rattle.lists.proofs.Members.{below_in, below_of}
use Rattle.lists.proofs.Pairwise.{pairwise_imp}
use Rattle.lists.proofs.Order.{same-eq, same_refl}
use Rattle.cube.specs.Lattice.{Laws}
use Rattle.cube.specs.Codes.{ALL, Coded}
use Rattle.cube.proofs.Codes.{coded-length}
use Rattle.family_nodes.specs.Nodes.{node_count, levels_of, no_higher, finer}
use Rattle.family_nodes.specs.Families.{Levels, height, heights, lift, lifted, coarse, node, falls_in, families}
use Rattle.family_nodes.proofs.Nodes.{Some, count-pos, finer-refl, finer-trans, finer-zero, finer-le, higher-both, tops, levels-top}

pub some-levels : (ts : List Levels) → Some (heights ts)
some-levels ts h m = let r = Memᴰ.of_map height ts m in omega (arith, r.2)

-- codes that are one at a level are one at each higher level
lift-up : (t : Levels) (l m a b : ℕ) → l ≤ m → lift t l a ≡ lift t l b → lift t m a ≡ lift t m b
lift-up t zero m a b h e = ap (lift t m) e
lift-up t (suc l) zero a b h e = absurd (omega arith)
lift-up [] (suc l) (suc m) a b h e = refl
lift-up (v ∷ t) (suc l) (suc m) a b h e = lift-up t l m (get_or v.table a ALL) (get_or v.table b ALL) (omega arith) e

lifted-up : (ts : List Levels) (ls ms x y : List ℕ) → no_higher ls ms ≡ true → lifted ts ls x ≡ lifted ts ls y → lifted ts ms x ≡ lifted ts ms y
lifted-up [] ls ms x y h e = refl
lifted-up (t ∷ ts) [] [] x y h e = refl
lifted-up (t ∷ ts) [] (m ∷ ms) x y h e = absurd (false≢true h)
lifted-up (t ∷ ts) (l ∷ ls) [] x y h e = absurd (false≢true h)
lifted-up (t ∷ ts) (l ∷ ls) (m ∷ ms) [] [] h e = refl
lifted-up (t ∷ ts) (l ∷ ls) (m ∷ ms) [] (b ∷ y) h e = absurd (nil≢cons e)
lifted-up (t ∷ ts) (l ∷ ls) (m ∷ ms) (a ∷ x) [] h e = absurd (nil≢cons (sym e))
lifted-up (t ∷ ts) (l ∷ ls) (m ∷ ms) (a ∷ x) (b ∷ y) h e =
    let r = higher-both l m ls ms h in
    ap₂ ◌∷◌ (lift-up t l m a b r.0 cc) (lifted-up ts ls ms x y r.1 cc)

-- node 0 shows the codes themselves,
coarse-zero : (ts : List Levels) (x : List ℕ) → length x ≡ length ts → coarse ts 0 x ≡ x
coarse-zero [] [] h = refl
coarse-zero [] (a ∷ x) h = absurd (omega (arith, h))
coarse-zero (t ∷ ts) [] h = absurd (omega (arith, h))
coarse-zero (t ∷ ts) (a ∷ x) h = rw (zero-mod (height t), zero-div (height t), coarse-zero ts x (omega (arith, h)))

pub coarse-finest : (ts : List Levels) (x : List ℕ) → Coded (length ts) x → coarse ts 0 x ≡ x
coarse-finest ts x k = coarse-zero ts x (coded-length (length ts) x k)

-- and the last one ALL everywhere
lift-top : (t : Levels) (a : ℕ) → lift t (suc (length t)) a ≡ ALL
lift-top [] a = refl
lift-top (v ∷ t) a = lift-top t (get_or v.table a ALL)

lifted-top : (ts : List Levels) (x : List ℕ) → length x ≡ length ts → lifted ts (tops (heights ts)) x ≡ replicate (length ts) ALL
lifted-top [] x h = refl
lifted-top (t ∷ ts) [] h = absurd (omega (arith, h))
lifted-top (t ∷ ts) (a ∷ x) h =
    let e : length t + 2 - 1 ≡ suc (length t) = omega arith in
    ap₂ ◌∷◌ (ap (λ l. lift t l a) e ∙ lift-top t a) (lifted-top ts x (omega (arith, h)))

pub coarse-top : (ts : List Levels) (x : List ℕ) → Coded (length ts) x → coarse ts (node_count (heights ts) - 1) x ≡ replicate (length ts) ALL
coarse-top ts x k = ap (λ (ls : List ℕ). lifted ts ls x) (levels-top (heights ts) (some-levels ts)) ∙ lifted-top ts x (coded-length (length ts) x k)

-- nodes by falling number
pub falling : (n : ℕ) → Pairwise (λ e s. s < e) (below n)
falling zero = tt
falling (suc n) = (λ s m. below_in n m, falling n)

falls_node : (ts : List Levels) (c x : List ℕ) → falls_in ts c x ≡ true → (node c ∈ below (node_count (heights ts))) × (c ≡ node c ∷ coarse ts (node c) x)
falls_node ts [] x e = absurd (false≢true e)
falls_node ts (n ∷ c) x e =
    let k = node_count (heights ts) in
    let r = both (ltb n k) (same c (coarse ts n x)) e in
    (below_of k (ltb-true n k r.0), ap (λ (l : List ℕ). n ∷ l) (same-eq c (coarse ts n x) r.1))

module _ (ts : List Levels) where
  abbrev hs : List ℕ
  hs = heights ts

  abbrev k : ℕ
  k = node_count hs

  pub families-laws : Laws (families ts)
  families-laws = record {
    finest_in = below_of k (count-pos hs (some-levels ts));
    finest_holds = finer-zero hs;
    order = pairwise_imp (λ e s. s < e) (λ e s. (e ≢ s) × (finer hs e s ≡ false)) (below k)
        (λ e s i j h. (λ q. omega (arith, q, h), refuted (λ f. omega (arith, h, finer-le hs e s (some-levels ts) (below_in k i) f))))
        (falling k);
    holds_refl = finer-refl hs;
    holds_trans = finer-trans hs;
    agree_refl = λ s x. same_refl (coarse ts s x);
    agree_down = λ s t x y v h a. rw (lifted-up ts (levels_of hs s) (levels_of hs t) x y h (same-eq (coarse ts s x) (coarse ts s y) a)) (same_refl (coarse ts t y));
    agree_finest = λ x y v w a. sym (coarse-finest ts x v) ∙ same-eq (coarse ts 0 x) (coarse ts 0 y) a ∙ coarse-finest ts y w;
    whole_in = below_of k (omega (arith, count-pos hs (some-levels ts)));
    node_cell = λ s x v m. refl;
    falls_cell = λ s x y v m. rw (lt-ltb s k (below_in k m));
    cell-of = λ c x v f. falls_node ts c x f;
  }
