-- Outputs that are always enough: no result is longer than its room, so no call that is lent as much stops with 15.
use mathlib.Core.Path.{◌≡◌, refl, ap}
use mathlib.Core.Logic.{◌⊎◌}
use mathlib.Core.List.{List, [], ◌∷◌, map, flat_map}
use Prim.Native.Nat.{ℕ, zero, suc, ◌+◌, ◌-◌, ◌*◌, ◌^◌, ◌≤◌, ◌<◌}
use native.Mathlib.Nat.{le_refl, le_trans, add-le-add, mul-le-mul_right}
use native.Mathlib.Omega.{arith}
use lib.Dec.{leb, ltb}
use lib.IntN.{ℤ}
use lib.ListN.{length, length-map}
use lib.Signed.{mag}
use borrow.Author.Tests.{le-leb, ltb-true}
use Rattle.lists.proofs.Tests.{cases, truth}
use Rattle.lists.proofs.Members.{flat-length}
use Rattle.lattice.specs.Sets.{sets}
use Rattle.lattice.proofs.Sets.{sets-length}
use Rattle.fields_walk.specs.Parsed.{got}
use Rattle.fields_walk.specs.Limits.{Bytes}
use Rattle.cube.specs.declared.Total.{Total}
use Rattle.cube.specs.Measure.{Row, sums, codes_of}
use Rattle.cube.specs.Codes.{plain}
use Rattle.cube.specs.Cube.{blank, existing, filled, cells}
use Rattle.cube.specs.Condensed.{listed, common}
use Rattle.cube.specs.Table.{Table as Rows}
use Rattle.cube.proofs.Existing.{existing-few}
use Rattle.rows_ready.specs.Blank.{blanks}
use Rattle.rows_ready.proofs.Blank.{normals-count}
use Rattle.cube.proofs.Folding.{folded-few}
use Rattle.cube.proofs.Counting.{plain-counts}
use Rattle.table.specs.Layout.{Records, TableLimits}
use Rattle.table.specs.Reading.{read_table, base_rows}
use Rattle.table.proofs.Accepted.{table_forth}
use Rattle.archive_entries.specs.Layout.{Held, required, archive_bytes, Limits}
use Rattle.archive_entries.specs.Reading.{read_archive, rows_in}
use Rattle.archive_entries.proofs.Accepted.{archive_forth}
use Rattle.archive_entries.proofs.Limits.{limits-table, limits-base}
use Rattle.archive_entries.proofs.Lengths.{sets-listed, archive_length}
use Rattle.call_cuboids.specs.Cuboids.{cuboid_bytes, expansion_bytes}
use Rattle.call_cuboids.proofs.Lengths.{cuboid-length}
use Rattle.call_answers.specs.Answers.{Outcome, stop as stopped, bytes, within}
use Rattle.call_answers.specs.Calls.{builds, dims, lists_cuboid, expands}
use Rattle.call_answers.specs.Keys.{lists_keys}
use Rattle.call_answers.specs.Joins.{joins}
use Rattle.call_answers.proofs.Keys.{keys-listed, keys-short}
use Rattle.call_answers.proofs.Folded.{folded-within}
use Rattle.call_answers.proofs.Joins.{joined_bytes, joined-limits}
use Rattle.fee_list.specs.Listed.{fee_bytes}
use Rattle.fee_list.proofs.Listed.{fee_length}
use Rattle.call_fee.specs.Fees.{count_in, weights, shares_fee}
use Rattle.rows_merge.specs.United.{united}
use Rattle.rows_merge.proofs.United.{united-few}
use Rattle.rows_late.specs.Late.{late}
use Rattle.call_add.specs.Adds.{record_of, adds}
use Rattle.call_add.proofs.Adds.{added-bytes, added-limits}
use Rattle.promises.specs.Room.{at_least1, cuboid_room, expansion_room, archive_room, keys_room, fee_room}
use Rattle.promises.proofs.Promises.{built}

-- ---- the results

cells-few : (d : ℕ) (rows : List (Row Total)) (set : ℕ) → length (cells (plain d) sums rows set) ≤ at_least1 (length rows)
unfolding cells
cells-few d rows set = go rows (existing-few (plain d) (codes_of rows) set) (length-map (existing (plain d) (codes_of rows) set) (filled (plain d) sums rows))
  where
    go : (l : List (Row Total)) → length (existing (plain d) (codes_of rows) set) ≤ length (blank (plain d) (codes_of l)) + length (codes_of l)
        → length (map (filled (plain d) sums rows) (existing (plain d) (codes_of rows) set)) ≡ length (existing (plain d) (codes_of rows) set)
        → length (map (filled (plain d) sums rows) (existing (plain d) (codes_of rows) set)) ≤ at_least1 (length l)
    go [] h e = omega (arith, h, e)
    go (r ∷ l) h e = omega (arith, h, e, length-map l (λ q. q.codes))

least_mono : (m n : ℕ) → m ≤ n → at_least1 m ≤ at_least1 n
least_mono zero zero h = omega arith
least_mono zero (suc n) h = omega arith
least_mono (suc m) zero h = absurd (omega arith)
least_mono (suc m) (suc n) h = h

module _ (d : ℕ) (rows : List (Row Total)) (t : Rows d rows) where
  pub cuboid-room : (set : ℕ) → length (cuboid_bytes d rows set) ≤ cuboid_room d (length rows)
  cuboid-room set = omega (arith, cuboid-length d rows set t, mul-le-mul_right (4 * d + 12) (cells-few d rows set))

  pub expansion-room : length (expansion_bytes d rows) ≤ expansion_room d (length rows)
  unfolding expansion_bytes
  expansion-room =
      let n = cuboid_room d (length rows) in
      omega (arith, flat-length (cuboid_bytes d rows) n (sets d) (λ set m. cuboid-room set), mul-le-mul_right n (sets-length d))

-- a listed set has 4 bytes, and half a normal entry at least as many
shared-out : (d n p lists cells : ℕ) → lists + 2 * cells ≤ p * n → n * (4 * d + 16) + 4 * lists + cells * (4 * d + 12) ≤ n * (4 * d + 16 + p * (2 * d + 6))
shared-out d n p lists cells h = omega (arith, mul-le-mul_right (2 * d + 6) h)

-- with the entry of an empty table
all-out : (d n p lists cells : ℕ) → lists + 2 * cells ≤ p * n → n * (4 * d + 16) + 4 * lists + (blanks n + cells) * (4 * d + 12) ≤ at_least1 n * (4 * d + 16 + p * (2 * d + 6))
all-out d zero p lists cells h = let z : cells ≡ 0 = omega (arith, h) in rw z (omega (arith, h))
all-out d (suc n) p lists cells h = let z : blanks (suc n) + cells ≡ cells = omega arith in rw z (shared-out d (suc n) p lists cells h)

pub archive-room : (zs : List ℕ) (rows : List (Row Total)) → Limits zs rows → length (archive_bytes zs rows) ≤ archive_room (length zs) (length rows)
unfolding required
archive-room zs rows l =
    let d = length zs in
    let xs = codes_of rows in
    let count = rw (length-map rows (λ r. r.codes)) at (plain-counts d xs (limits-base zs rows l)) in
    let rest = all-out d (length rows) (2 ^ d - 1) (length (flat_map (listed (plain d) xs) xs)) (length (common (plain d) xs)) count in
    let all = rw (length-map rows (λ r. r.codes)) at (normals-count (plain d) xs) in
    omega (arith, archive_length zs rows l, sets-listed d rows rows, rest, ap (λ (n : ℕ). n * (4 * d + 12)) all)

archive_mono : (d m n : ℕ) → m ≤ n → archive_room d m ≤ archive_room d n
archive_mono d m n h = add-le-add (le_refl _) (mul-le-mul_right _ (least_mono m n h))

-- where it was built, by the rows of the table too
pub built_room : (t : Records) → TableLimits t → length (archive_bytes t.sizes (base_rows t)) ≤ archive_room (length t.sizes) (length t.rows)
built_room t l = le_trans (archive-room t.sizes (base_rows t) (folded-within t l)) (archive_mono (length t.sizes) (length (base_rows t)) (length t.rows) (folded-few sums (length t.sizes) t.rows))

-- as many shares as cells, and with a base row no more cells than base rows
weights-length : (d : ℕ) (rows : List (Row Total)) (set : ℕ) → length (weights d rows set) ≡ length (cells (plain d) sums rows set)
unfolding weights
weights-length d rows set = length-map (cells (plain d) sums rows set) count_in

pub weights-few : (d : ℕ) (rows : List (Row Total)) (set : ℕ) → 0 < length rows → length (weights d rows set) ≤ length rows
weights-few d [] set h = absurd (omega arith)
weights-few d (r ∷ rows) set h = omega (arith, weights-length d (r ∷ rows) set, cells-few d (r ∷ rows) set)

pub fee-room : (d : ℕ) (rows : List (Row Total)) (fee set : ℕ) → 0 < length rows → length (fee_bytes fee (weights d rows set)) ≤ fee_room (length rows)
fee-room d rows fee set h = omega (arith, fee_length fee (weights d rows set), weights-few d rows set h)

-- ---- the calls

enough : (xs : List ℕ) (k : ℕ) → length xs ≤ k → within k (bytes xs) ≡ bytes xs
enough xs k h = rw (le-leb (length xs) k h)

-- by the row count of a table
pub build-enough : (s : List ℕ) (t : Records) → Bytes s → read_table s ≡ got t [] → (k : ℕ) → archive_room (length t.sizes) (length t.rows) ≤ k → within k (builds s) ≡ builds s
build-enough s t b e k h = rw (built s t b e) (enough (archive_bytes t.sizes (base_rows t)) k (le_trans (built_room t (table_forth s t [] b e).0) h))

-- by the base count of an archive
module _ (s : List ℕ) (a : Held) (b : Bytes s) (e : read_archive s ≡ got a []) (k : ℕ) where
  rows-coded : Rows (dims a) (rows_in a)
  rows-coded = limits-table a.sizes (rows_in a) (archive_forth s a [] b e).0

  pub list-enough : (set : ℕ) → cuboid_room (dims a) (length a.bases) ≤ k → within k (lists_cuboid s set) ≡ lists_cuboid s set
  unfolding lists_cuboid
  list-enough set h =
      let g = rw (← length-map a.bases (λ q. q.row)) at h in
      cases (truth (ltb set (2 ^ dims a)))
      (λ f. rw (e, f) (enough (cuboid_bytes (dims a) (rows_in a) set) k (le_trans (cuboid-room (dims a) (rows_in a) rows-coded set) g)))
      (λ f. rw (e, f))

  pub expand-enough : expansion_room (dims a) (length a.bases) ≤ k → within k (expands s) ≡ expands s
  unfolding expands
  expand-enough h =
      let g = rw (← length-map a.bases (λ q. q.row)) at h in
      rw e (enough (expansion_bytes (dims a) (rows_in a)) k (le_trans (expansion-room (dims a) (rows_in a) rows-coded) g))

  -- of any archive
  pub keys-enough : keys_room ≤ k → within k (lists_keys s) ≡ lists_keys s
  keys-enough h = rw (keys-listed s a b e) (enough _ k (le_trans (keys-short s a [] b e) h))

  fee_fits : (fee set : ℕ) → (0 < length (rows_in a) → length (fee_bytes fee (weights (dims a) (rows_in a) set)) ≤ k) → within k (shares_fee s fee set) ≡ shares_fee s fee set
  unfolding shares_fee
  fee_fits fee set f = cases (truth (ltb set (2 ^ dims a)))
      (λ x. cases (truth (leb fee 1000000000))
      (λ y. cases (truth (ltb 0 (length (rows_in a))))
      (λ z. rw (e, x, y, z) (enough (fee_bytes fee (weights (dims a) (rows_in a) set)) k (f (ltb-true 0 (length (rows_in a)) z))))
      (λ z. rw (e, x, y, z)))
      (λ y. rw (e, x, y)))
      (λ x. rw (e, x))

  -- by the base count, or by the number of cells
  pub fee_enough : (fee set : ℕ) → fee_room (length a.bases) ≤ k → within k (shares_fee s fee set) ≡ shares_fee s fee set
  fee_enough fee set h = fee_fits fee set (λ n. omega (arith, h, length-map a.bases (λ q. q.row), fee-room (dims a) (rows_in a) fee set n))

  pub fee_just_enough : (fee set : ℕ) → fee_room (length (cells (plain (dims a)) sums (rows_in a) set)) ≤ k → within k (shares_fee s fee set) ≡ shares_fee s fee set
  fee_just_enough fee set h = fee_fits fee set (λ n. omega (arith, h, fee_length fee (weights (dims a) (rows_in a) set), weights-length (dims a) (rows_in a) set))

-- by the base counts of two archives, or by 1,024
module _ (s t : List ℕ) (a b : Held) (f : Bytes s) (g : Bytes t) (e : read_archive s ≡ got a []) (h : read_archive t ≡ got b []) where
  pub join-room : {x : List ℕ} → joins s t ≡ bytes x → (n : ℕ) → (length a.bases + length b.bases ≤ n) ⊎ (1024 ≤ n) → length x ≤ archive_room (dims a) n
  join-room k n m =
      let l = joined-limits s t a b f g e h k in
      let rows = united sums (dims a) (rows_in a) (rows_in b) in
      let few : length rows ≤ n = cases m
      (λ i. omega (arith, i, united-few sums (dims a) (rows_in a) (rows_in b), length-map a.bases (λ q. q.row), length-map b.bases (λ q. q.row)))
      (λ i. omega (arith, i, l.few)) in
      le_trans (rw (joined_bytes s t a b f g e h k) at (archive-room a.sizes rows l)) (archive_mono (dims a) (length rows) n few)

  pub join-enough : (k n : ℕ) → (length a.bases + length b.bases ≤ n) ⊎ (1024 ≤ n) → archive_room (dims a) n ≤ k → within k (joins s t) ≡ joins s t
  join-enough k n m i = go (joins s t) refl
    where
      go : (o : Outcome) → joins s t ≡ o → within k o ≡ o
      go (stopped j) q = refl
      go (bytes x) q = enough x k (le_trans (join-room q n m) i)

-- by the base count of an archive that a record is added to, or by 1,024
module _ (s : List ℕ) (a : Held) (f : Bytes s) (e : read_archive s ≡ got a []) (x : List ℕ) (z : ℤ) (m : mag z < 2 ^ 31) where
  pub add-room : {y : List ℕ} → adds s x z ≡ bytes y → (n : ℕ) → (length a.bases + 1 ≤ n) ⊎ (1024 ≤ n) → length y ≤ archive_room (dims a) n
  add-room k n h =
      let l = added-limits s a f e x z k m in
      let rows = late sums (dims a) (rows_in a) (record_of x z) in
      let few : length rows ≤ n = cases h
      (λ i. omega (arith, i, united-few sums (dims a) (rows_in a) (record_of x z ∷ []), length-map a.bases (λ q. q.row)))
      (λ i. omega (arith, i, l.few)) in
      le_trans (rw (added-bytes s a f e x z k) at (archive-room a.sizes rows l)) (archive_mono (dims a) (length rows) n few)

  pub add-enough : (k n : ℕ) → (length a.bases + 1 ≤ n) ⊎ (1024 ≤ n) → archive_room (dims a) n ≤ k → within k (adds s x z) ≡ adds s x z
  add-enough k n h i = go (adds s x z) refl
    where
      go : (o : Outcome) → adds s x z ≡ o → within k o ≡ o
      go (stopped j) q = refl
      go (bytes y) q = enough y k (le_trans (add-room q n h) i)
