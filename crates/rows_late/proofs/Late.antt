-- One record more (document 02, C-18): just the cells over it gain it, and entries grow by little.
use mathlib.Core.Path.{◌≡◌, refl, sym, ◌∙◌, ap, ap₂}
use mathlib.Core.Logic.{◌⊎◌, inl, inr, ◌↔◌}
use mathlib.Core.Bool.{true, false}
use mathlib.Core.List.Memᴰ
use mathlib.Core.List.{List, [], ◌∷◌, ◌++◌, map, map-map, map-append}
use Prim.Native.Nat.{ℕ, suc, ◌+◌, ◌^◌, ◌≤◌}
use native.Mathlib.Omega.{arith}
use lib.ListN.{length, length-map}
use Rattle.lists.specs.Lists.{◌∈◌}
use Rattle.lists.specs.Order.{Rising, earlier}
use Rattle.lists.proofs.Tests.{cases}
use Rattle.lists.proofs.Members.{keep-length}
use Rattle.lists.proofs.Order.{by_codes}
use Rattle.lists.proofs.Sorted.{rising-one, rising_unique, rising-distinct}
use Rattle.lists.proofs.Pigeonhole.{fewest}
use Rattle.lattice.proofs.Sets.{sets-count, sets-length}
use Rattle.cube.specs.Measure.{Measure, Adds, Row, codes_of}
use Rattle.cube.specs.Lattice.{Lattice, Laws}
use Rattle.cube.specs.Codes.{Coded, falls, plain}
use Rattle.cube.specs.Cube.{Exists, total}
use Rattle.cube.specs.Condensed.{Entry, base, normal, listed, normals, Base, base_entry, normal_entry, ours}
use Rattle.cube.specs.Table.{Table, folded}
use Rattle.cube.proofs.Codes.{falls-whole, plain_laws}
use Rattle.cube.proofs.Nodes.{proper-few}
use Rattle.cube.proofs.Existing.{blank-row, blank-whole}
use Rattle.cube.proofs.Normals.{normals_in, normals-distinct}
use Rattle.cube.proofs.Empty.{ours-none}
use Rattle.cube.proofs.Ours.{ours-length}
use Rattle.cube.proofs.Folding.{coded}
use Rattle.rows_merge.specs.United.{united, merged}
use Rattle.rows_merge.proofs.Appending.{more-none, total_lacks}
use Rattle.rows_merge.proofs.Merging.{united-merged}
use Rattle.rows_merge.proofs.United.{united_in, united-total, united-rising, united-folded, united-none-left}
use Rattle.rows_late.specs.Late.{late, over, paired, emptied}
use Rattle.rows_late.proofs.Growing.{over-length, more-length, normals-count, paired-few}

-- ---- entries but for their totals depend on the codes alone

module _ (L : Lattice) {A : Type 0} (M : Measure A) where
  abbrev bare : List ℕ → Row A
  bare x = record { codes = x; total = M.none }

  abbrev outline : List (List ℕ) → List (Entry A)
  outline xs = map (λ x. base (bare x) (listed L xs x)) xs ++ map (λ c. normal (bare c)) (normals L xs)

  emptied-ours : (rows : List (Row A)) → map (emptied M) (ours L M rows) ≡ outline (codes_of rows)
  unfolding ours
  emptied-ours rows =
      map-append (emptied M) (map (base_entry L M rows) rows) (map (normal_entry L M rows) (normals L (codes_of rows)))
      ∙ ap₂ ◌++◌
      (map-map (emptied M) (base_entry L M rows) rows ∙ sym (map-map (λ x. base (bare x) (listed L (codes_of rows) x)) (λ r. r.codes) rows))
      (map-map (emptied M) (normal_entry L M rows) (normals L (codes_of rows)))

  pub ours-codes : (rows others : List (Row A)) → codes_of rows ≡ codes_of others → map (emptied M) (ours L M rows) ≡ map (emptied M) (ours L M others)
  ours-codes rows others e = emptied-ours rows ∙ ap outline e ∙ sym (emptied-ours others)

one_table : {A : Type 0} (d : ℕ) (r : Row A) → Coded d r.codes → Table d (r ∷ [])
one_table d r k q m = rw (Memᴰ.eq_of_singleton m) k

module _ {A : Type 0} (M : Measure A) (d : ℕ) (rows : List (Row A)) (t : Table d rows) (r : Row A) (k : Coded d r.codes) where
  abbrev x : List ℕ
  x = r.codes

  abbrev xs : List (List ℕ)
  xs = codes_of rows

  abbrev after : List (Row A)
  after = late M d rows r

  -- The rows have the codes that they had, and those of the record, and rise strictly by them.
  pub late_in : (y : List ℕ) → (y ∈ codes_of after) ↔ ((y ∈ xs) ⊎ (y ≡ x))
  late_in y = (
    λ m. cases ((united_in M d rows (r ∷ []) t (one_table d r k) y).0 m) inl (λ i. inr (Memᴰ.eq_of_singleton i)),
    λ h. (united_in M d rows (r ∷ []) t (one_table d r k) y).1 (cases h inl (λ e. inr (Memᴰ.head e))),
  )

  pub late-rising : Rising earlier (codes_of after)
  late-rising = united-rising M d rows (r ∷ []) t (one_table d r k)

  -- ---- entries

  -- Where the codes are known, cells, lists and the number of entries stay.
  module _ (v : Rising earlier xs) (known : x ∈ xs) where
    pub late-codes : codes_of after ≡ xs
    late-codes = rising_unique earlier by_codes (codes_of after) xs late-rising v
        (λ y m. cases ((late_in y).0 m) (λ i. i) (λ e. Memᴰ.cast e known))
        (λ y m. (late_in y).1 (inl m))

    pub late-entries_stay : (L : Lattice) → map (emptied M) (ours L M after) ≡ map (emptied M) (ours L M rows)
    late-entries_stay L = ours-codes L M after rows late-codes

    pub late-length-stays : (L : Lattice) → length (ours L M after) ≡ length (ours L M rows)
    late-length-stays L = omega (arith, ap length (late-entries_stay L), length-map (ours L M after) (emptied M), length-map (ours L M rows) (emptied M))

  -- Otherwise, with a row before, the row's own entry is new, and one for each cell over it in which one row fell.
  module _ (L : Lattice) (W : Laws L) (b : Base L xs) (w : L.valid x) (new : x ∈ xs → ⊥) where
    based : Base L (codes_of after)
    based = record {
      valid = λ y m. cases ((late_in y).0 m) (b.valid y) (λ e. rw e w);
      distinct = rising-distinct earlier by_codes (codes_of after) late-rising;
    }

    pub late-entries : 1 ≤ length rows → length (ours L M after) ≡ length (ours L M rows) + suc (length (paired L xs x))
    late-entries h = omega (
      arith,
      ours-length L M after,
      ours-length L M rows,
      length-map after (λ q. q.codes),
      length-map rows (λ q. q.codes),
      more-length L W xs (codes_of after) x b based new late_in,
      normals-count L W xs (codes_of after) x b based new late_in (omega (arith, h, length-map rows (λ q. q.codes))),
    )

    pub late-least : 1 ≤ length rows → length (ours L M rows) + 1 ≤ length (ours L M after)
    late-least h = omega (arith, late-entries h)

    pub late-most : 1 ≤ length rows → length (ours L M after) ≤ length (ours L M rows) + length L.nodes
    late-most h = omega (arith, late-entries h, paired-few L W xs (codes_of after) x b based new late_in, proper-few L W)

  -- ---- totals

  module _ (E : Adds M) where
    -- one pass over the base rows finds them
    pub late-merged : Rising earlier xs → after ≡ merged M rows (r ∷ [])
    late-merged v = united-merged M E d rows (r ∷ []) t (one_table d r k) v (rising-one earlier x)

    module _ (L : Lattice) (c : List ℕ) where
      -- The cells over the row gain it,
      pub late_gains : L.falls c x ≡ true → total L M after c ≡ M.more (total L M rows c) r.total
      unfolding total
      late_gains h = united-total M d E rows (r ∷ []) t (one_table d r k) L c ∙ ap (M.more (total L M rows c)) (rw h (E.none_more r.total))

      -- from nothing where there was no record,
      pub late-starts : L.falls c x ≡ true → ((y : List ℕ) → y ∈ xs → L.falls c y ≡ true → ⊥) → total L M after c ≡ r.total
      late-starts h n = late_gains h ∙ ap (λ (a : A). M.more a r.total) (total_lacks L M rows c n) ∙ E.none_more r.total

      -- and every other cell keeps its total.
      pub late_keeps : L.falls c x ≡ false → total L M after c ≡ total L M rows c
      unfolding total
      late_keeps h = united-total M d E rows (r ∷ []) t (one_table d r k) L c ∙ ap (M.more (total L M rows c)) (rw h) ∙ more-none M E (total L M rows c)

-- From no base row: the cell of an empty table goes, and the row comes.
module _ {A : Type 0} (M : Measure A) (E : Adds M) (d : ℕ) (r : Row A) (k : Coded d r.codes) where
  pub late-first : late M d [] r ≡ r ∷ []
  late-first = united-none-left M d E (r ∷ []) (one_table d r k) (rising-one earlier r.codes)

  -- The record folded into the base rows of a table makes those of the table with the record behind its rows.
  pub late-folded : (rows : List (Row A)) → Table d rows → late M d (folded M d rows) r ≡ folded M d (rows ++ r ∷ [])
  unfolding united
  late-folded rows t = ap (united M d (folded M d rows)) (sym late-first) ∙ united-folded M d E rows (r ∷ []) t (one_table d r k)

  module _ (L : Lattice) (W : Laws L) (w : L.valid r.codes) where
    one-base : Base L (r.codes ∷ [])
    one-base = record { valid = λ x m. rw (Memᴰ.eq_of_singleton m) w; distinct = (λ y m. absurd (Memᴰ.not-nil m), tt) }

    one-normals : length (normals L (r.codes ∷ [])) ≤ 0
    one-normals = fewest (normals L (r.codes ∷ [])) [] (normals-distinct L W (r.codes ∷ []) one-base) (λ c m. cases (normals_in L W (r.codes ∷ []) one-base m)
        (λ two. absurd (omega (arith, two, keep-length (L.falls c) (r.codes ∷ []))))
        (λ i. absurd (Memᴰ.not-nil i)))

    pub late-one : (length (ours L M []) ≡ 1) × (length (ours L M (late M d [] r)) ≡ 1)
    late-one = (
      ap length (ours-none L W M),
      ap (λ (l : List (Row A)). length (ours L M l)) late-first ∙ omega (arith, ours-length L M (r ∷ []), one-normals),
    )

-- ---- sets of dimensions

-- There are 2 ^ d cells over a row,
pub over-count : (d : ℕ) (x : List ℕ) → length (over (plain d) x) ≡ 2 ^ d
over-count d x = over-length (plain d) x ∙ sets-count d

module _ {A : Type 0} (M : Measure A) (d : ℕ) (rows : List (Row A)) (t : Table d rows) (r : Row A) (k : Coded d r.codes) where
  -- and they exist besides those that did.
  pub late_exists : (c : List ℕ) → Exists (plain d) (codes_of (late M d rows r)) c ↔ (Exists (plain d) (codes_of rows) c ⊎ (falls c r.codes ≡ true))
  late_exists c = (
    λ h. cases h
        (λ q. cases ((late_in M d rows t r k q.0).0 q.1) (λ m. inl (inl (q.0, m, q.2))) (λ e. inr (rw (← e) q.2)))
        (λ m. absurd (blank-row (plain d) (codes_of (late M d rows r)) m ((late_in M d rows t r k r.codes).1 (inr refl)))),
    λ h. cases h
        (λ g. cases g
        (λ q. inl (q.0, (late_in M d rows t r k q.0).1 (inl q.1), q.2))
        (λ m. inl (r.codes, (late_in M d rows t r k r.codes).1 (inr refl), rw (blank-whole (plain d) (codes_of rows) m) (falls-whole d r.codes k))))
        (λ f. inl (r.codes, (late_in M d rows t r k r.codes).1 (inr refl), f)),
  )

  -- Entries grow by 1 at least and 2 ^ d at most.
  pub late_grows : Rising earlier (codes_of rows) → (r.codes ∈ codes_of rows → ⊥) → 1 ≤ length rows
      → (length (ours (plain d) M rows) + 1 ≤ length (ours (plain d) M (late M d rows r))) × (length (ours (plain d) M (late M d rows r)) ≤ length (ours (plain d) M rows) + 2 ^ d)
  late_grows v new h =
      let b : Base (plain d) (codes_of rows) = record { valid = coded d rows t; distinct = rising-distinct earlier by_codes (codes_of rows) v } in
      (late-least M d rows t r k (plain d) (plain_laws d) b k new h, omega (arith, late-most M d rows t r k (plain d) (plain_laws d) b k new h, sets-length d))
