-- With one level everywhere the cells are those of the plain archive, each with its node in front; so are the lists and the normal cells.
use mathlib.Core.Path.{◌≡◌, refl, sym, ◌∙◌, ap, ap₂, subst}
use mathlib.Core.Logic.{◌≢◌, ◌↔◌, inl, inr}
use mathlib.Core.Bool.{Bool, true, false, ◌&&◌, ◌||◌, not, false≢true}
use mathlib.Core.List.Memᴰ
use mathlib.Core.List.{List, [], ◌∷◌, map, Permᴰ}
use Prim.Native.Nat.{ℕ, zero, suc, ◌+◌, ◌/◌, ◌%◌, ◌^◌, ◌<◌}
use native.Mathlib.Omega.{arith}
use lib.Dec.{eqb, leb, ltb}
use lib.ListN.{length, replicate, length-replicate}
use borrow.Author.Tests.{ltb-true, lt-ltb, leb-true, leb-false, le-leb, le-ltb, lt-leb}
use Rattle.lists.specs.Lists.{◌∈◌, every, Distinct}
use Rattle.lists.specs.Order.{same, earlier}
use Rattle.lists.proofs.Tests.{cases, truth, both, both_of, refuted}
use Rattle.lists.proofs.Members.{keep_same, below_in, below_of}
use Rattle.lists.proofs.Pairwise.{pairwise_imp, pairwise_map}
use Rattle.lists.proofs.Order.{same-eq, same_refl, by_codes}
use Rattle.lists.proofs.Pigeonhole.{fewest, fewest_only}
use Rattle.lattice.specs.Sets.{full, holds}
use Rattle.lattice.proofs.Sets.{full-suc, full-lt, sets-in, sets_of}
use Rattle.cube.specs.Measure.{Measure, Row, total_of, codes_of}
use Rattle.cube.specs.Lattice.{Lattice}
use Rattle.cube.specs.Codes.{ALL, Coded, shown, cell, set-of, keys, agree, falls, plain}
use Rattle.cube.specs.Cube.{within, blank, Exists, total, complete}
use Rattle.cube.specs.Condensed.{proper, single, listed, normals, Base}
use Rattle.cube.specs.Table.{Table, listed_before}
use Rattle.cube.proofs.Codes.{plain_laws, coded-length, falls_cell, agree_same, agree_refl, set-cell, cell-of, set-whole}
use Rattle.cube.proofs.Nodes.{proper_in, proper_of}
use Rattle.cube.proofs.Complete.{complete_iff, complete-rising as plain-rising}
use Rattle.cube.proofs.Folding.{coded}
use Rattle.cube.proofs.Smallest.{listed_in, listed-distinct, listed_iff}
use Rattle.cube.proofs.Normals.{normals_iff, normals_exist, normals-distinct}
use Rattle.family_nodes.specs.Nodes.{node_count, finer}
use Rattle.family_nodes.specs.Families.{Levels, heights, lift, coarse, node, falls_in, families, listed_by_node}
use Rattle.family_nodes.specs.Flat.{flat, turned, fronted, with_node}
use Rattle.family_nodes.proofs.Laws.{families-laws}
use Rattle.family_nodes.proofs.Ordered.{complete-rising}

-- dimensions of one level are flat
pub one-level : (ts : List Levels) → ((t : Levels) → t ∈ ts → t ≡ []) → ts ≡ flat (length ts)
one-level [] h = refl
one-level (t ∷ ts) h = ap₂ ◌∷◌ (h t (Memᴰ.head refl)) (one-level ts (λ u m. h u (Memᴰ.tail m)))

abbrev twos : ℕ → List ℕ
twos d = heights (flat d)

pub count-flat : (d : ℕ) → node_count (twos d) ≡ 2 ^ d
count-flat zero = refl
count-flat (suc d) = omega (arith, count-flat d)

-- a set and its node, dimension by dimension
halved : (d s n : ℕ) → s + n ≡ full (suc d) → (s % 2 + n % 2 ≡ 1) × (s / 2 + n / 2 ≡ full d)
halved d s n e = (omega (arith, (full-suc d).0, e), omega (arith, (full-suc d).0, (full-suc d).1, e))

lift-shown : (k l a : ℕ) → k + l ≡ 1 → lift [] l a ≡ shown k a
lift-shown zero zero a e = absurd (omega (arith, e))
lift-shown (suc k) zero a e = refl
lift-shown zero (suc l) a e = refl
lift-shown (suc k) (suc l) a e = absurd (omega (arith, e))

coarse-flat : (d s n : ℕ) (x : List ℕ) → s + n ≡ full d → length x ≡ d → coarse (flat d) n x ≡ cell s x
coarse-flat zero s n [] e h = refl
coarse-flat zero s n (a ∷ x) e h = absurd (omega (arith, h))
coarse-flat (suc d) s n [] e h = absurd (omega (arith, h))
coarse-flat (suc d) s n (a ∷ x) e h =
    let p = halved d s n e in
    ap₂ ◌∷◌ (lift-shown (s % 2) (n % 2) a p.0) (coarse-flat d (s / 2) (n / 2) x p.1 (omega (arith, h)))

-- the order of nodes is that of sets
leb-turned : (a b k l : ℕ) → a + k ≡ 1 → b + l ≡ 1 → leb k l ≡ leb b a
leb-turned a b k l e f = cases (truth (leb b a))
    (λ h. le-leb k l (omega (arith, leb-true b a h, e, f)) ∙ sym h)
    (λ h. lt-leb k l (omega (arith, leb-false b a h, e, f)) ∙ sym h)

finer-flat : (d s t m n : ℕ) → s + m ≡ full d → t + n ≡ full d → finer (twos d) m n ≡ holds d s t
finer-flat zero s t m n e f = refl
finer-flat (suc d) s t m n e f =
    let p = halved d s m e in
    let q = halved d t n f in
    ap₂ ◌&&◌ (leb-turned (s % 2) (t % 2) (m % 2) (n % 2) p.0 q.0) (finer-flat d (s / 2) (t / 2) (m / 2) (n / 2) p.1 q.1)

same_truth : (a b : Bool) → (a ≡ true → b ≡ true) → (b ≡ true → a ≡ true) → a ≡ b
same_truth true b f g = sym (f refl)
same_truth false b f g = sym (refuted (λ e. false≢true (g e)))

pub every-same : {A : Type 0} (p q : A → Bool) (l : List A) → ((x : A) → x ∈ l → p x ≡ q x) → every p l ≡ every q l
every-same p q [] h = refl
every-same p q (x ∷ l) h = ap₂ ◌&&◌ (h x (Memᴰ.head refl)) (every-same p q l (λ y m. h y (Memᴰ.tail m)))

-- lists with the same members, none twice, are the same up to the order
permuted : {A : Type 0} (l m : List A) → Distinct l → Distinct m → ((x : A) → x ∈ l → x ∈ m) → ((x : A) → x ∈ m → x ∈ l) → Permᴰ m l
permuted l m p q f g = let e : length l ≡ length m = omega (arith, fewest l m p f, fewest m l q g) in fewest_only l m p f e

listed-once : {A : Type 0} (p : Row A) → listed_by_node p p ≢ true
listed-once p e =
    let n = node p.codes in
    let f : eqb n n && earlier p.codes p.codes ≡ true = rw (le-ltb n n (omega arith)) at e in
    by_codes.irrefl p.codes (both (eqb n n) (earlier p.codes p.codes) f).1

module _ (d : ℕ) where
  abbrev F : Lattice
  F = families (flat d)

  abbrev P : Lattice
  P = plain d

  -- every code below ALL, in as many dimensions
  pub coded-flat : (x : List ℕ) → Coded d x → F.valid x
  coded-flat x k = subst (λ n. Coded n x) (sym (length-replicate d [])) k

  pub turned_lt : (s : ℕ) → turned d s < node_count (twos d)
  turned_lt s = omega (arith, count-flat d, full-lt d)

  node-lt : {n : ℕ} → n < node_count (twos d) → n < 2 ^ d
  node-lt h = omega (arith, count-flat d, h)

  pub turned-sum : (s : ℕ) → s < 2 ^ d → s + turned d s ≡ full d
  turned-sum s h = omega (arith, h)

  pub turned-back : (s : ℕ) → s < 2 ^ d → turned d (turned d s) ≡ s
  turned-back s h = omega (arith, h)

  -- ---- codes fall in the same cells

  falls-in : (n : ℕ) (c x : List ℕ) → Coded d x → falls_in (flat d) (n ∷ c) x ≡ true → (falls c x ≡ true) × (n ≡ turned d (set-of c))
  falls-in n c x k e =
      let r = both (ltb n (node_count (twos d))) (same c (coarse (flat d) n x)) e in
      let h : n < 2 ^ d = node-lt (ltb-true n (node_count (twos d)) r.0) in
      let s = turned d n in
      let i : s + n ≡ full d = omega (arith, h) in
      let j : s < 2 ^ d = omega (arith, full-lt d) in
      let q : c ≡ cell s x = same-eq c (coarse (flat d) n x) r.1 ∙ coarse-flat d s n x i (coded-length d x k) in
      let z : set-of c ≡ s = ap set-of q ∙ set-cell d s x k j in
      (ap (λ (b : List ℕ). falls b x) q ∙ falls_cell d s x x k ∙ agree_refl s x, omega (arith, z, h))

  falls_of : (c x : List ℕ) → Coded d x → falls c x ≡ true → falls_in (flat d) (fronted d c) x ≡ true
  falls_of c x k e =
      let r = cell-of d c x k e in
      let s = set-of c in
      let q : coarse (flat d) (turned d s) x ≡ c = coarse-flat d s (turned d s) x (turned-sum s r.0) (coded-length d x k) ∙ sym r.1 in
      both_of (lt-ltb (turned d s) (node_count (twos d)) (turned_lt s)) (ap (same c) q ∙ same_refl c)

  pub falls-fronted : (c x : List ℕ) → Coded d x → falls_in (flat d) (fronted d c) x ≡ falls c x
  falls-fronted c x k = same_truth (falls_in (flat d) (fronted d c) x) (falls c x) (λ e. (falls-in (turned d (set-of c)) c x k e).0) (falls_of c x k)

  -- so each cell has the same rows and the same total,
  pub total-fronted : {A : Type 0} (M : Measure A) (rows : List (Row A)) → Table d rows → (c : List ℕ) → total F M rows (fronted d c) ≡ total P M rows c
  unfolding total
  total-fronted M rows t c =
      ap (total_of M) (keep_same (λ r. falls_in (flat d) (fronted d c) r.codes) (λ r. falls c r.codes) rows (λ r m. falls-fronted c r.codes (t r m)))

  pub whole-fronted : F.whole ≡ fronted d P.whole
  whole-fronted = ap₂ ◌∷◌ (omega (arith, count-flat d, set-whole d)) (ap (λ n. replicate n ALL) (length-replicate d []))

  module _ (xs : List (List ℕ)) (v : (x : List ℕ) → x ∈ xs → Coded d x) where
    pub within-fronted : (c : List ℕ) → within F xs (fronted d c) ≡ within P xs c
    within-fronted c = keep_same (falls_in (flat d) (fronted d c)) (falls c) xs (λ x m. falls-fronted c x (v x m))

    pub fronted-only : {c e : List ℕ} → fronted d c ≡ fronted d e → c ≡ e
    fronted-only q = cc

    blank-iff : (ys : List (List ℕ)) (c : List ℕ) → (c ∈ blank P ys) ↔ (fronted d c ∈ blank F ys)
    blank-iff [] c = (
      λ m. let e : fronted d c ≡ F.whole = ap (fronted d) (Memᴰ.eq_of_singleton m) ∙ sym whole-fronted in Memᴰ.head e,
      λ m. let e : fronted d c ≡ fronted d P.whole = Memᴰ.eq_of_singleton m ∙ whole-fronted in Memᴰ.head (fronted-only e),
    )
    blank-iff (y ∷ ys) c = (λ m. absurd (Memᴰ.not-nil m), λ m. absurd (Memᴰ.not-nil m))

    blank-only : (ys : List (List ℕ)) {e : List ℕ} → e ∈ blank F ys → e ≡ fronted d P.whole
    blank-only [] m = Memᴰ.eq_of_singleton m ∙ whole-fronted
    blank-only (y ∷ ys) m = absurd (Memᴰ.not-nil m)

    -- and the same cells exist: those of the plain archive with their node in front, and no others.
    pub exists-fronted : (c : List ℕ) → Exists P xs c ↔ Exists F xs (fronted d c)
    exists-fronted c = (
      λ h. cases h (λ r. inl (r.0, r.1, falls_of c r.0 (v r.0 r.1) r.2)) (λ b. inr ((blank-iff xs c).0 b)),
      λ h. cases h (λ r. inl (r.0, r.1, (falls-in (turned d (set-of c)) c r.0 (v r.0 r.1) r.2).0)) (λ b. inr ((blank-iff xs c).1 b)),
    )

    falls-fronts : (e x : List ℕ) → Coded d x → falls_in (flat d) e x ≡ true → (c : List ℕ) × (e ≡ fronted d c)
    falls-fronts [] x k f = absurd (false≢true f)
    falls-fronts (n ∷ c) x k f = (c, ap (λ m. m ∷ c) (falls-in n c x k f).1)

    pub exists_fronts : (e : List ℕ) → Exists F xs e → (c : List ℕ) × (e ≡ fronted d c)
    exists_fronts e h = cases h (λ r. falls-fronts e r.0 (v r.0 r.1) r.2) (λ b. (P.whole, blank-only xs b))

    -- ---- lists

    agree-flat : (s n : ℕ) (x y : List ℕ) → s + n ≡ full d → Coded d x → Coded d y → F.agree n x y ≡ agree s x y
    agree-flat s n x y e k l =
        ap₂ same (coarse-flat d s n x e (coded-length d x k)) (coarse-flat d s n y e (coded-length d y l)) ∙ sym (agree_same s x y)

    single-flat : (s n : ℕ) (x : List ℕ) → s + n ≡ full d → Coded d x → single F xs n x ≡ single P xs s x
    unfolding single
    single-flat s n x e k = every-same (λ y. not (F.agree n x y) || same x y) (λ y. not (agree s x y) || same x y) xs
        (λ y m. ap (λ b. not b || same x y) (agree-flat s n x y e k (v y m)))

    proper-flat : (s : ℕ) → s < 2 ^ d → s ∈ proper P → turned d s ∈ proper F
    proper-flat s h m =
        let p = proper_in P (plain_laws d) m in
        proper_of F (families-laws (flat d)) (below_of (node_count (twos d)) (turned_lt s)) (λ e. p.1 (omega (arith, e, h)))

    proper-turned : (n : ℕ) → n ∈ proper F → (n < 2 ^ d) × (turned d n ∈ proper P)
    proper-turned n m =
        let p = proper_in F (families-laws (flat d)) m in
        let h : n < 2 ^ d = node-lt (below_in (node_count (twos d)) p.0) in
        (h, proper_of P (plain_laws d) (sets_of d (omega (arith, full-lt d))) (λ e. p.1 (omega (arith, e, h))))

    module _ (x : List ℕ) (k : Coded d x) where
      -- The listed nodes are the listed sets turned round.
      pub listed-turned : (s : ℕ) → s ∈ listed P xs x → turned d s ∈ listed F xs x
      listed-turned s m =
          let i = (listed_iff P (plain_laws d) xs x s).0 m in
          let h = sets-in d (proper_in P (plain_laws d) i.0).0 in
          let e = turned-sum s h in
          (listed_iff F (families-laws (flat d)) xs x (turned d s)).1 (
            proper-flat s h i.0,
            single-flat s (turned d s) x e k ∙ i.1,
            λ n q u g.
                let r = proper-turned n q in
                let f : turned d n + n ≡ full d = omega (arith, r.0) in
                let z = i.2 (turned d n) r.1 (sym (single-flat (turned d n) n x f k) ∙ u) (sym (finer-flat d s (turned d n) (turned d s) n e f) ∙ g) in
                omega (arith, z, r.0, h),
          )

      pub listed-sets : (n : ℕ) → n ∈ listed F xs x → (n < 2 ^ d) × (turned d n ∈ listed P xs x)
      listed-sets n m =
          let i = (listed_iff F (families-laws (flat d)) xs x n).0 m in
          let r = proper-turned n i.0 in
          let e : turned d n + n ≡ full d = omega (arith, r.0) in (
            r.0,
            (listed_iff P (plain_laws d) xs x (turned d n)).1 (
              r.1,
              sym (single-flat (turned d n) n x e k) ∙ i.1,
              λ s q u g.
                  let h = sets-in d (proper_in P (plain_laws d) q).0 in
                  let f = turned-sum s h in
                  let z = i.2 (turned d s) (proper-flat s h q) (single-flat s (turned d s) x f k ∙ u) (finer-flat d (turned d n) s n (turned d s) e f ∙ g) in
                  omega (arith, z, r.0, h),
            ),
          )

      pub listed-flat : Permᴰ (listed F xs x) (map (turned d) (listed P xs x))
      listed-flat = permuted (map (turned d) (listed P xs x)) (listed F xs x)
          (pairwise_map ◌≢◌ (turned d) (listed P xs x)
          (pairwise_imp ◌≢◌ (λ s t. turned d s ≢ turned d t) (listed P xs x) (λ s t i j n e. n (omega (arith, e, set_lt s i, set_lt t j))) (listed-distinct P (plain_laws d) xs x)))
          (listed-distinct F (families-laws (flat d)) xs x)
          (λ n m. let r = Memᴰ.of_map (turned d) (listed P xs x) m in Memᴰ.cast (sym r.2) (listed-turned r.0 r.1))
          (λ n m. let r = listed-sets n m in Memᴰ.cast (sym (turned-back n r.0)) (Memᴰ.map (turned d) r.1))
        where
          set_lt : (s : ℕ) → s ∈ listed P xs x → s < 2 ^ d
          set_lt s m = sets-in d (proper_in P (plain_laws d) (listed_in P (plain_laws d) xs x m).0).0

  -- ---- normal cells

  base-flat : (xs : List (List ℕ)) → Base P xs → Base F xs
  base-flat xs b = record { valid = λ x m. coded-flat x (b.valid x m); distinct = b.distinct }

  module _ (xs : List (List ℕ)) (b : Base P xs) where
    pub normals-fronted : (c : List ℕ) → (c ∈ normals P xs) ↔ (fronted d c ∈ normals F xs)
    normals-fronted c =
        let w : length (within F xs (fronted d c)) ≡ length (within P xs c) = ap length (within-fronted xs b.valid c) in
        let p = normals_iff P (plain_laws d) xs b c in
        let f = normals_iff F (families-laws (flat d)) xs (base-flat xs b) (fronted d c) in (
          λ m. f.1 (cases (p.0 m) (λ h. inl (omega (arith, h, w))) (λ h. inr ((blank-iff xs b.valid xs c).0 h))),
          λ m. p.1 (cases (f.0 m) (λ h. inl (omega (arith, h, w))) (λ h. inr ((blank-iff xs b.valid xs c).1 h))),
        )

    -- Our normal cells are those of the plain archive with their node in front.
    pub normals-flat : Permᴰ (normals F xs) (map (fronted d) (normals P xs))
    normals-flat = permuted (map (fronted d) (normals P xs)) (normals F xs)
        (pairwise_map ◌≢◌ (fronted d) (normals P xs)
        (pairwise_imp ◌≢◌ (λ c e. fronted d c ≢ fronted d e) (normals P xs) (λ c e i j n q. n (fronted-only xs b.valid q)) (normals-distinct P (plain_laws d) xs b)))
        (normals-distinct F (families-laws (flat d)) xs (base-flat xs b))
        (λ e m. let r = Memᴰ.of_map (fronted d) (normals P xs) m in Memᴰ.cast (sym r.2) ((normals-fronted r.0).0 r.1))
        (λ e m.
        let r = exists_fronts xs b.valid e (normals_exist F (families-laws (flat d)) xs (base-flat xs b) m) in
        Memᴰ.cast r.1 (Memᴰ.map (fronted d) ((normals-fronted r.0).1 (Memᴰ.cast (sym r.1) m))))

  -- ---- the complete cube

  module _ {A : Type 0} (M : Measure A) (rows : List (Row A)) (t : Table d rows) where
    table-flat : Table (length (flat d)) rows
    table-flat r m = coded-flat r.codes (t r m)

    pub complete-fronted : (r : Row A) → (r ∈ complete P M rows) ↔ (with_node d r ∈ complete F M rows)
    complete-fronted r =
        let p = complete_iff P (plain_laws d) M rows (coded d rows t) r in
        let f = complete_iff F (families-laws (flat d)) M rows (coded (length (flat d)) rows table-flat) (with_node d r) in
        let x = exists-fronted (codes_of rows) (coded d rows t) r.codes in
        let e = total-fronted M rows t r.codes in
        (λ m. let q = p.0 m in f.1 (x.0 q.0, q.1 ∙ sym e), λ m. let q = f.0 m in p.1 (x.1 q.0, q.1 ∙ e))

    -- The complete cube has the same cells with the same totals, each with its node in front, by falling node.
    pub complete-flat : Permᴰ (complete F M rows) (map (with_node d) (complete P M rows))
    complete-flat = permuted (map (with_node d) (complete P M rows)) (complete F M rows)
        (pairwise_map ◌≢◌ (with_node d) (complete P M rows)
        (pairwise_imp (λ p q. listed_before p q ≡ true) (λ p q. with_node d p ≢ with_node d q) (complete P M rows)
        (λ p q i j h e.
        let f : p.codes ≡ q.codes = fronted-only (codes_of rows) (coded d rows t) (ap (λ (r : Row A). r.codes) e) in
        by_codes.irrefl (keys q.codes) (ap (λ (c : List ℕ). earlier (keys c) (keys q.codes)) (sym f) ∙ h))
        (plain-rising M d rows t)))
        (pairwise_imp (λ p q. listed_by_node p q ≡ true) ◌≢◌ (complete F M rows) (λ p q i j h e. listed-once q (ap (λ (r : Row A). listed_by_node r q) (sym e) ∙ h))
        (complete-rising (flat d) M rows table-flat))
        (λ r m. let q = Memᴰ.of_map (with_node d) (complete P M rows) m in Memᴰ.cast (sym q.2) ((complete-fronted q.0).0 q.1))
        (λ r m.
        let q = (complete_iff F (families-laws (flat d)) M rows (coded (length (flat d)) rows table-flat) r).0 m in
        let x = exists_fronts (codes_of rows) (coded d rows t) r.codes q.0 in
        let e : r ≡ with_node d (record { codes = x.0; total = r.total }) = ap (λ (c : List ℕ). record { codes = c; total = r.total }) x.1 in
        Memᴰ.cast e (Memᴰ.map (with_node d) ((complete-fronted (record { codes = x.0; total = r.total })).1 (Memᴰ.cast (sym e) m))))
