-- The base rows of two archives as one list (document 02, C-15): both lists folded, with each cell's totals added.
use mathlib.Core.Path.{◌≡◌, refl, sym, ◌∙◌, ap, ap₂}
use mathlib.Core.Logic.{◌≢◌, ◌⊎◌, inl, inr, ◌↔◌}
use mathlib.Core.Bool.{true, false≢true}
use mathlib.Core.List.Memᴰ
use mathlib.Core.List.{List, [], ◌∷◌, ◌++◌, map, append_assoc, map-map}
use Prim.Native.Nat.{ℕ, ◌+◌, ◌≤◌}
use native.Mathlib.Omega.{arith}
use lib.ListN.{length, length-append}
use Rattle.lists.specs.Lists.{◌∈◌, some, keep}
use Rattle.lists.specs.Order.{Rising, earlier, same}
use Rattle.lists.proofs.Tests.{cases, truth, some_in, some_not}
use Rattle.lists.proofs.Members.{keep-none}
use Rattle.lists.proofs.Pairwise.{keep_one, pairwise_imp}
use Rattle.lists.proofs.Order.{by_codes, same-eq, same_refl}
use Rattle.lists.proofs.Sorted.{rising-distinct}
use Rattle.cube.specs.declared.Total.{Total}
use Rattle.cube.specs.Measure.{Measure, Adds, Row, sums, total_of, total_at, codes_of}
use Rattle.cube.specs.Bounds.{count_of}
use Rattle.cube.specs.Lattice.{Lattice}
use Rattle.cube.specs.Codes.{keys, plain}
use Rattle.cube.specs.Cube.{blank, Exists, total, filled, complete}
use Rattle.cube.specs.Table.{Table, folded, listed_before}
use Rattle.rows_merge.specs.United.{as_one, united}
use Rattle.cube.proofs.Sums.{sums-add}
use Rattle.cube.proofs.Codes.{plain_laws}
use Rattle.cube.proofs.Existing.{blank-same}
use Rattle.cube.proofs.Regroup.{regroup}
use Rattle.cube.proofs.Folding.{coded, folded-few, folded-rising, folded_in, total-folded}
use Rattle.cube.proofs.Complete.{complete_iff, complete-rising}
use Rattle.rows_merge.proofs.Appending.{codes_in, codes-left, codes_right, table-append, total-append, total_lacks, at-append, folded_fill, folded-same}
use Rattle.rows_merge.proofs.Merging.{merged-none, merged-each, merged_self, passed_merged, united-merged, count-merged}

module _ {A : Type 0} (M : Measure A) (d : ℕ) where
  pub folded-table : (rows : List (Row A)) → Table d rows → Table d (folded M d rows)
  folded-table rows t r m = coded d rows t r.codes ((folded_in M d rows t r.codes).0 (Memᴰ.map (λ q. q.codes) m))

  module _ (a b : List (Row A)) (t : Table d a) (u : Table d b) where
    abbrev rows : List (Row A)
    rows = a ++ b

    -- The united rows are base rows: they rise strictly by codes, and have just the codes of both.
    united-table : Table d (united M d a b)
    unfolding united
    united-table = folded-table rows (table-append d a b t u)

    pub united-rising : Rising earlier (codes_of (united M d a b))
    unfolding united
    united-rising = folded-rising M d rows (table-append d a b t u)

    pub united_in : (x : List ℕ) → (x ∈ codes_of (united M d a b)) ↔ ((x ∈ codes_of a) ⊎ (x ∈ codes_of b))
    unfolding united
    united_in x = (
      λ m. codes_in a b ((folded_in M d rows (table-append d a b t u) x).0 m),
      λ h. (folded_in M d rows (table-append d a b t u) x).1 (cases h (codes-left a b) (codes_right a b)),
    )

    -- A cell exists just if a row of either falls in it, or neither has a row and it is that of an empty table.
    pub united_exists : (L : Lattice) (c : List ℕ) → Exists L (codes_of (united M d a b)) c
        ↔ (((x : List ℕ) × (x ∈ codes_of a) × (L.falls c x ≡ true)) ⊎ (((x : List ℕ) × (x ∈ codes_of b) × (L.falls c x ≡ true)) ⊎ (c ∈ blank L (codes_of a ++ codes_of b))))
    united_exists L c =
        let e : blank L (codes_of (united M d a b)) ≡ blank L (codes_of a ++ codes_of b) = blank-same L (codes_of (united M d a b)) (codes_of a ++ codes_of b)
        (λ x m. cases ((united_in x).0 m) (Memᴰ.append_left (codes_of b)) (Memᴰ.append_right (codes_of a)))
        (λ x m. (united_in x).1 (Memᴰ.append_cases (codes_of a) m)) in (
          λ h. cases h
              (λ r. cases ((united_in r.0).0 r.1) (λ m. inl (r.0, m, r.2)) (λ m. inr (inl (r.0, m, r.2))))
              (λ m. inr (inr (rw e at m))),
          λ h. cases h (λ r. inl (r.0, (united_in r.0).1 (inl r.1), r.2))
              (λ g. cases g (λ r. inl (r.0, (united_in r.0).1 (inr r.1), r.2)) (λ m. inr (rw e m))),
        )

  module _ (E : Adds M) where
    -- rows with equal codes total before and after folding the same
    at-folded : (rows : List (Row A)) → Table d rows → (x : List ℕ) → total_at M (folded M d rows) x ≡ total_at M rows x
    at-folded rows t x =
        let ks = codes_of (folded M d rows) in
        ap (λ (l : List (Row A)). total_at M l x) (folded_fill M d rows t)
        ∙ regroup M E (same x) rows ks (rising-distinct earlier by_codes ks (folded-rising M d rows t))
        (λ r m. (folded_in M d rows t r.codes).1 (Memᴰ.map (λ q. q.codes) m))

    module _ (a b : List (Row A)) (t : Table d a) (u : Table d b) where
      -- Each cell has the total of both cells.
      pub united-total : (L : Lattice) (c : List ℕ) → total L M (united M d a b) c ≡ M.more (total L M a c) (total L M b c)
      unfolding united
      united-total L c = total-folded M d (a ++ b) (table-append d a b t u) L E c ∙ total-append M E L a b c

      -- Which comes first does not matter.
      pub united_comm : united M d a b ≡ united M d b a
      unfolding united
      united_comm = folded-same M d (a ++ b) (b ++ a) (table-append d a b t u) (table-append d b a u t)
          (λ x m. cases (codes_in a b m) (codes_right b a) (codes-left b a))
          (λ x m. cases (codes_in b a m) (codes_right a b) (codes-left a b))
          (λ x. at-append M E a b x ∙ E.more_comm (total_at M a x) (total_at M b x) ∙ sym (at-append M E b a x))

      -- Folding either first does not matter,
      united-front : united M d (folded M d a) b ≡ folded M d (a ++ b)
      unfolding united
      united-front = folded-same M d (folded M d a ++ b) (a ++ b) (table-append d (folded M d a) b (folded-table a t) u) (table-append d a b t u)
          (λ x m. cases (codes_in (folded M d a) b m) (λ i. codes-left a b ((folded_in M d a t x).0 i)) (codes_right a b))
          (λ x m. cases (codes_in a b m) (λ i. codes-left (folded M d a) b ((folded_in M d a t x).1 i)) (codes_right (folded M d a) b))
          (λ x. at-append M E (folded M d a) b x ∙ ap (λ (s : A). M.more s (total_at M b x)) (at-folded a t x) ∙ sym (at-append M E a b x))

    module _ (a b : List (Row A)) (t : Table d a) (u : Table d b) where
      united_behind : united M d a (folded M d b) ≡ folded M d (a ++ b)
      unfolding united
      united_behind = united_comm a (folded M d b) t (folded-table b u) ∙ united-front b a u t ∙ united_comm b a u t

      -- so the base rows of two tables as one are the base rows of both tables, one behind the other.
      pub united-folded : united M d (folded M d a) (folded M d b) ≡ folded M d (a ++ b)
      unfolding united
      united-folded = united-front a (folded M d b) t (folded-table b u) ∙ united_behind

    -- Three united either way are the same.
    pub united_assoc : (a b c : List (Row A)) → Table d a → Table d b → Table d c → united M d (united M d a b) c ≡ united M d a (united M d b c)
    unfolding united
    united_assoc a b c t u v =
        united-front (a ++ b) c (table-append d a b t u) v ∙ ap (folded M d) (append_assoc a b c)
        ∙ sym (united_behind a (b ++ c) t (table-append d b c u v))

    -- ---- of base rows

    -- United with no rows, base rows stay as they are.
    pub united-none-left : (b : List (Row A)) → Table d b → Rising earlier (codes_of b) → united M d [] b ≡ b
    united-none-left b u v = united-merged M E d [] b (λ r m. absurd (Memᴰ.not-nil m)) u tt v

    pub united-none_right : (a : List (Row A)) → Table d a → Rising earlier (codes_of a) → united M d a [] ≡ a
    united-none_right a t v = united-merged M E d a [] t (λ r m. absurd (Memᴰ.not-nil m)) v tt ∙ merged-none M a

    -- United with themselves, they have the same codes, each with its total twice.
    pub united_self : (a : List (Row A)) → Table d a → Rising earlier (codes_of a) → united M d a a ≡ map (λ r. as_one M r r) a
    united_self a t v = united-merged M E d a a t t v v ∙ merged_self M a

    -- What the rows of both have in common, and two rows as one keep, the united rows have.
    pub united-each : (P : Row A → Type 0) → ((r q : Row A) → r.codes ≡ q.codes → P r → P q → P (as_one M r q)) → (a b : List (Row A)) → Table d a → Table d b
        → Rising earlier (codes_of a) → Rising earlier (codes_of b) → ((r : Row A) → r ∈ a → P r) → ((r : Row A) → r ∈ b → P r) → (r : Row A) → r ∈ united M d a b → P r
    united-each P k a b t u v w f g r m = merged-each M P k a b f g r (rw (united-merged M E d a b t u v w) at m)

-- ---- the cubes added

module _ {A : Type 0} (M : Measure A) (E : Adds M) (d : ℕ) where
  -- a complete cube has for each cell its total, and nothing for a cell in which no row falls
  cube_at : (rows : List (Row A)) → Table d rows → (c : List ℕ) → total_at M (complete (plain d) M rows) c ≡ total (plain d) M rows c
  cube_at rows t c =
      let cube = complete (plain d) M rows in
      let iff = complete_iff (plain d) (plain_laws d) M rows (coded d rows t) in
      cases (truth (some (λ r. same c r.codes) cube))
      (λ e. let r = some_in (λ r. same c r.codes) cube e in
      let q : c ≡ r.0.codes = same-eq c r.0.codes r.2 in
      let one : keep (λ r. same c r.codes) cube ≡ r.0 ∷ [] = keep_one (λ r. same c r.codes) cube
      (pairwise_imp (λ p q. listed_before p q ≡ true) (λ p q. same c p.codes ≡ true → same c q.codes ≢ true) cube
      (λ p q i j h f g. by_codes.irrefl (keys c) (rw (← same-eq c p.codes f, ← same-eq c q.codes g) at h))
      (complete-rising M d rows t))
      r.1 r.2 in
      ap (total_of M) one ∙ E.none_more r.0.total ∙ ((iff r.0).0 r.1).1 ∙ ap (total (plain d) M rows) (sym q))
      (λ e. ap (total_of M) (keep-none (λ r. same c r.codes) cube (λ r m f. false≢true (sym (some_not (λ r. same c r.codes) e m) ∙ f)))
      ∙ sym (total_lacks (plain d) M rows c (λ x m f. false≢true (sym (some_not (λ r. same c r.codes) e ((iff (filled (plain d) M rows c)).1 (inl (x, m, f), refl))) ∙ same_refl c))))

  -- The cube of both is the two cubes added: for each cell the totals of both, one behind the other.
  pub united_cubes : (a b : List (Row A)) → Table d a → Table d b → (c : List ℕ)
      → total_at M (complete (plain d) M (united M d a b)) c ≡ total_at M (complete (plain d) M a ++ complete (plain d) M b) c
  united_cubes a b t u c =
      cube_at (united M d a b) (united-table M d a b t u) c ∙ united-total M d E a b t u (plain d) c
      ∙ sym (at-append M E (complete (plain d) M a) (complete (plain d) M b) c ∙ ap₂ M.more (cube_at a t c) (cube_at b u c))

-- ---- rows with their totals twice

module _ (L : Lattice) {A : Type 0} (M : Measure A) (E : Adds M) (a : List (Row A)) where
  abbrev double : List (Row A)
  double = map (λ r. as_one M r r) a

  pub codes_double : codes_of double ≡ codes_of a
  codes_double = map-map (λ r. r.codes) (λ r. as_one M r r) a

  pub total_double : (c : List ℕ) → total L M double c ≡ M.more (total L M a c) (total L M a c)
  unfolding total
  total_double c = ap (λ (l : List (Row A)). total_of M (keep (λ r. L.falls c r.codes) l)) (sym (merged_self M a)) ∙ passed_merged M E (L.falls c) a a

-- ---- how many rows and readings

pub united-few : {A : Type 0} (M : Measure A) (d : ℕ) (a b : List (Row A)) → length (united M d a b) ≤ length a + length b
unfolding united
united-few M d a b = omega (arith, folded-few M d (a ++ b), length-append a b)

pub united-count : (d : ℕ) (a b : List (Row Total)) → Table d a → Table d b → Rising earlier (codes_of a) → Rising earlier (codes_of b) → count_of (united sums d a b) ≡ count_of a + count_of b
united-count d a b t u v w = rw (united-merged sums sums-add d a b t u v w) (count-merged a b)
