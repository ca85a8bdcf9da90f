-- The codes of one row more: which cells become normal, and how many entries there are.
use mathlib.Core.Path.{◌≡◌, refl, sym, ◌∙◌, ap}
use mathlib.Core.Logic.{◌≢◌, ◌⊎◌, inl, inr, ◌↔◌}
use mathlib.Core.Bool.{true, false}
use mathlib.Core.List.Memᴰ
use mathlib.Core.List.{List, ◌∷◌, ◌++◌, map}
use Prim.Native.Nat.{ℕ, suc, ◌+◌, ◌≤◌}
use native.Mathlib.Omega.{arith}
use lib.Dec.{eqb}
use lib.ListN.{length, length-append, length-map}
use borrow.Author.Tests.{eqb-true, eqb-false, eq-eqb}
use Rattle.lists.specs.Lists.{◌∈◌, keep, Distinct}
use Rattle.lists.proofs.Tests.{cases, truth}
use Rattle.lists.proofs.Members.{keep_in, keep_of}
use Rattle.lists.proofs.Pairwise.{pairwise_keep, pairwise_append, pairwise_imp, pairwise_map}
use Rattle.lists.proofs.Pigeonhole.{fewest, fewest_only, one_long}
use Rattle.cube.specs.Lattice.{Lattice, Laws}
use Rattle.cube.specs.Cube.{within}
use Rattle.cube.specs.Condensed.{proper, normals, Base}
use Rattle.rows_late.specs.Late.{over, paired}
use Rattle.cube.proofs.Nodes.{Before, proper_of, one_node}
use Rattle.cube.proofs.Existing.{blank-row}
use Rattle.cube.proofs.Normals.{normals_iff, normals-distinct, normals_not_one}
use Rattle.lists.proofs.Permutations.{perm_same}

-- ---- the cells over codes

module _ (L : Lattice) (W : Laws L) (x : List ℕ) (v : L.valid x) where
  -- are those in which they fall,
  pub over_iff : (c : List ℕ) → (c ∈ over L x) ↔ (L.falls c x ≡ true)
  unfolding over
  over_iff c = (
    λ m. let r = Memᴰ.of_map (λ s. L.cell s x) L.nodes m in rw (← r.2) (W.falls_cell r.0 x x v r.1 ∙ W.agree_refl r.0 x),
    λ f. let q = W.cell-of c x v f in Memᴰ.cast q.1 (Memᴰ.map (λ s. L.cell s x) q.0),
  )

  -- one of each node
  pub over-distinct : Distinct (over L x)
  unfolding over
  over-distinct = pairwise_map ◌≢◌ (λ s. L.cell s x) L.nodes (pairwise_imp (Before L) (λ s t. L.cell s x ≢ L.cell t x) L.nodes
      (λ s t i j b e. b.0 (one_node L W x x v v i j e)) W.order)

pub over-length : (L : Lattice) (x : List ℕ) → length (over L x) ≡ length L.nodes
unfolding over
over-length L x = length-map L.nodes (λ s. L.cell s x)

-- ---- codes xs, and ys that are these and x

module _ (L : Lattice) (W : Laws L) (xs ys : List (List ℕ)) (x : List ℕ) (b : Base L xs) (g : Base L ys) (new : x ∈ xs → ⊥)
    (f : (y : List ℕ) → (y ∈ ys) ↔ ((y ∈ xs) ⊎ (y ≡ x))) where
  more-distinct : Distinct (x ∷ xs)
  more-distinct = (λ y m e. new (Memᴰ.cast e m), b.distinct)

  more_in : (y : List ℕ) → y ∈ x ∷ xs → y ∈ ys
  more_in y m = cases (Memᴰ.cases_cons m) (λ e. (f y).1 (inr e)) (λ i. (f y).1 (inl i))

  more_of_lem : (y : List ℕ) → y ∈ ys → y ∈ x ∷ xs
  more_of_lem y m = cases ((f y).0 m) Memᴰ.tail Memᴰ.head

  -- one more
  pub more-length : length ys ≡ suc (length xs)
  more-length = omega (arith, fewest (x ∷ xs) ys more-distinct more_in, fewest ys (x ∷ xs) g.distinct more_of_lem)

  -- in each cell over x one more
  within_more : (c : List ℕ) → length (within L ys c) ≡ length (within L (x ∷ xs) c)
  within_more c = perm_same (λ l. length (keep (L.falls c) l))
      (λ y l m e. cases (truth (L.falls c y)) (λ h. rw h (ap suc e)) (λ h. rw h e))
      (λ y z l. cases (truth (L.falls c y))
      (λ h. cases (truth (L.falls c z)) (λ k. rw (h, k)) (λ k. rw (h, k)))
      (λ h. cases (truth (L.falls c z)) (λ k. rw (h, k)) (λ k. rw (h, k))))
      (fewest_only (x ∷ xs) ys more-distinct more_in (sym more-length))

  within-over : (c : List ℕ) → L.falls c x ≡ true → length (within L ys c) ≡ suc (length (within L xs c))
  within-over c h = within_more c ∙ rw h

  within_else : (c : List ℕ) → L.falls c x ≡ false → length (within L ys c) ≡ length (within L xs c)
  within_else c h = within_more c ∙ rw h

  abbrev valid : L.valid x
  valid = g.valid x ((f x).1 (inr refl))

  paired_in : {c : List ℕ} → c ∈ paired L xs x → (L.falls c x ≡ true) × (length (within L xs c) ≡ 1)
  unfolding paired
  paired_in {c} m = let k = keep_in (λ c. eqb (length (within L xs c)) 1) (over L x) m in ((over_iff L W x valid c).0 k.0, eqb-true (length (within L xs c)) 1 k.1)

  paired_of : (c : List ℕ) → L.falls c x ≡ true → length (within L xs c) ≡ 1 → c ∈ paired L xs x
  unfolding paired
  paired_of c h e = keep_of (λ c. eqb (length (within L xs c)) 1) ((over_iff L W x valid c).1 h) (eq-eqb (length (within L xs c)) 1 e)

  -- With a row before, the cells over x in which one row fell become normal; all others stay as they are.
  pub normals-more : 1 ≤ length xs → (c : List ℕ) → (c ∈ normals L ys) ↔ ((c ∈ normals L xs) ⊎ (c ∈ paired L xs x))
  normals-more h c = (
    λ m. cases ((normals_iff L W ys g c).0 m)
        (λ two. cases (truth (L.falls c x))
        (λ e. two_over e (within-over c e) two)
        (λ e. inl ((normals_iff L W xs b c).1 (inl (omega (arith, two, within_else c e))))))
        (λ i. absurd (blank-row L ys i ((f x).1 (inr refl)))),
    λ s. cases s
        (λ m. cases ((normals_iff L W xs b c).0 m)
        (λ two. (normals_iff L W ys g c).1 (inl (grows two)))
        (λ i. absurd (blank-row L xs i (one_long xs h).1)))
        (λ m. let p = paired_in m in (normals_iff L W ys g c).1 (inl (omega (arith, p.1, within-over c p.0)))),
  )
    where
      two_over : L.falls c x ≡ true → length (within L ys c) ≡ suc (length (within L xs c)) → 2 ≤ length (within L ys c) → (c ∈ normals L xs) ⊎ (c ∈ paired L xs x)
      two_over e q two = cases (truth (eqb (length (within L xs c)) 1))
          (λ o. inr (paired_of c e (eqb-true (length (within L xs c)) 1 o)))
          (λ o. inl ((normals_iff L W xs b c).1 (inl (omega (arith, q, two, eqb-false (length (within L xs c)) 1 o)))))

      grows : 2 ≤ length (within L xs c) → 2 ≤ length (within L ys c)
      grows two = cases (truth (L.falls c x)) (λ e. omega (arith, two, within-over c e)) (λ e. omega (arith, two, within_else c e))

  paired-distinct : Distinct (paired L xs x)
  unfolding paired
  paired-distinct = pairwise_keep ◌≢◌ (λ c. eqb (length (within L xs c)) 1) (over L x) (over-distinct L W x valid)

  pub normals-count : 1 ≤ length xs → length (normals L ys) ≡ length (normals L xs) + length (paired L xs x)
  normals-count h =
      let all = normals L xs ++ paired L xs x in
      let d : Distinct all = pairwise_append ◌≢◌ (normals L xs) (paired L xs x) (normals-distinct L W xs b) paired-distinct
      (λ c e m n q. normals_not_one L W xs b m (ap (λ (y : List ℕ). length (within L xs y)) q ∙ (paired_in n).1)) in
      omega (
        arith,
        length-append (normals L xs) (paired L xs x),
        fewest all (normals L ys) d (λ c m. (normals-more h c).1 (Memᴰ.append_cases (normals L xs) m)),
        fewest (normals L ys) all (normals-distinct L W ys g) (λ c m. cases ((normals-more h c).0 m) (Memᴰ.append_left (paired L xs x)) (Memᴰ.append_right (normals L xs))),
      )

  -- fewer than the nodes: no other row falls in the row's own cell
  paired-proper : {c : List ℕ} → c ∈ paired L xs x → c ∈ map (λ s. L.cell s x) (proper L)
  paired-proper {c} m =
      let p = paired_in m in
      let q = W.cell-of c x valid p.0 in
      Memᴰ.cast q.1 (Memᴰ.map (λ s. L.cell s x) (proper_of L W q.0 (λ e.
      let y = one_long (within L xs c) (omega (arith, p.1)) in
      let k = keep_in (L.falls c) xs y.1 in
      new (Memᴰ.cast (W.agree_finest x y.0 valid (b.valid y.0 k.0)
      (sym (W.falls_cell L.finest x y.0 valid W.finest_in) ∙ ap (λ (z : List ℕ). L.falls z y.0) (sym (q.1 ∙ ap (λ (s : ℕ). L.cell s x) e)) ∙ k.1)) k.0))))

  pub paired-few : length (paired L xs x) ≤ length (proper L)
  paired-few = omega (arith, fewest (paired L xs x) (map (λ s. L.cell s x) (proper L)) paired-distinct (λ c m. paired-proper m), length-map (proper L) (λ s. L.cell s x))
