-- C-18: an accepted archive with one record added. x are its codes, z is its reading, of 32 bits.
use mathlib.Core.Path.{◌≡◌, sym, ap, ap₂, subst, ◌∙◌}
use mathlib.Core.Logic.{◌⊎◌, inl, inr, ◌↔◌}
use mathlib.Core.Bool.{true, false, false≢true}
use mathlib.Core.List.Memᴰ
use mathlib.Core.List.{List, [], ◌∷◌, ◌++◌, map, Permᴰ}
use Prim.Native.Nat.{ℕ, ◌+◌, ◌^◌, ◌≤◌, ◌<◌}
use lib.IntN.{ℤ}
use lib.ListN.{length}
use lib.Signed.{mag}
use Rattle.std.specs.Prelude.{None, Ok}
use Rattle.lists.specs.Lists.{◌∈◌, some, Distinct}
use Rattle.lists.specs.Order.{Rising, earlier, same}
use Rattle.lists.proofs.Tests.{cases, truth, some_in, some_not, refuted}
use Rattle.lists.proofs.Order.{same-eq, same_refl}
use Rattle.fields_walk.specs.Parsed.{got}
use Rattle.fields_walk.specs.Limits.{Bytes}
use Rattle.cube.specs.declared.Total.{Total}
use Rattle.cube.specs.Measure.{plus, sums, Row, codes_of}
use Rattle.cube.specs.Codes.{Coded, falls, plain}
use Rattle.cube.specs.Cube.{blank, Exists, total}
use Rattle.cube.specs.Condensed.{ours}
use Rattle.cube.specs.Table.{Table, folded}
use Rattle.cube.proofs.Codes.{plain_laws}
use Rattle.cube.proofs.Sums.{sums-add}
use Rattle.rows_merge.proofs.Appending.{total_lacks}
use Rattle.rows_late.specs.Late.{late, over, emptied}
use Rattle.rows_late.proofs.Growing as growing
use Rattle.rows_late.proofs.Late as lates
use Rattle.table.specs.Layout.{Records}
use Rattle.table.specs.Reading.{read_table, base_rows}
use Rattle.archive_entries.specs.Layout.{Held, Limits, required, archive_bytes}
use Rattle.archive_entries.specs.Reading.{read_archive, rows_in}
use Rattle.archive_entries.proofs.Accepted.{required-rows, required-sizes, archive_forth}
use Rattle.archive_entries.proofs.Limits.{limits-table}
use Rattle.call_questions.specs.Questions.{asks}
use Rattle.call_answers.specs.Answers.{stop, bytes}
use Rattle.call_answers.specs.Calls.{dims, builds, entries_in, looks_up}
use Rattle.call_answers.specs.Joins.{filed, joins}
use Rattle.call_answers.proofs.Entries.{entries-required}
use Rattle.call_add.specs.Adds.{coded, record_of, adds}
use Rattle.call_add.specs.AddsAll.{onward, adds_all, recorded, readings, AllCoded, AllReadings}
use Rattle.call_add.proofs.Adds as adding
use Rattle.call_add.proofs.AddsAll as adding-all
use Rattle.promises.specs.Amounts.{amount_of}
use Rattle.promises.proofs.Promises.{entries-ours, no_record_just_if, cell-answered}

-- a cell exists or does not
exists_or : (d : ℕ) (xs : List (List ℕ)) (c : List ℕ) → Exists (plain d) xs c ⊎ (Exists (plain d) xs c → ⊥)
exists_or d xs c = cases (truth (some (falls c) xs))
    (λ e. inl (inl (some_in (falls c) xs e)))
    (λ e. cases (truth (some (same c) (blank (plain d) xs)))
    (λ g. let r = some_in (same c) (blank (plain d) xs) g in inl (inr (Memᴰ.cast (same-eq c r.0 r.2) r.1)))
    (λ g. inr (λ x. cases x
    (λ h. false≢true (sym (some_not (falls c) e h.1) ∙ h.2))
    (λ m. false≢true (sym (some_not (same c) g m) ∙ same_refl c)))))

-- what a look-up tells of a cell is its total, whether it exists or not
looked-amount : (s : List ℕ) (a : Held) → Bytes s → read_archive s ≡ got a [] → (q : List ℕ) → asks a.sizes q ≡ true → amount_of (looks_up s q) ≡ total (plain (dims a)) sums (rows_in a) q
looked-amount s a f e q k = cases (exists_or (dims a) (codes_of (rows_in a)) q)
    (λ x. ap amount_of (cell-answered s a f e q k x).4)
    (λ n. ap amount_of ((no_record_just_if s a f e q k).1 n) ∙ sym (total_lacks (plain (dims a)) sums (rows_in a) q (λ x m h. n (inl (x, m, h)))))

-- A result has an accepted archive.
pub add-from : (s x : List ℕ) (z : ℤ) {y : List ℕ} → Bytes s → adds s x z ≡ bytes y → (a : Held) × (read_archive s ≡ got a [])
add-from = adding.adds-from

module _ (s : List ℕ) (a : Held) (f : Bytes s) (e : read_archive s ≡ got a []) (x : List ℕ) (z : ℤ) where
  -- the base rows with the record folded in
  abbrev rows : List (Row Total)
  rows = late sums (dims a) (rows_in a) (record_of x z)

  -- Where x is one code below its size for each dimension, the call gives the archive of the base rows with the record folded in, unless 18 stops it;
  pub add-filed : coded a.sizes x ≡ true → adds s x z ≡ filed a.sizes rows
  add-filed = adding.adds-filed s a f e x z

  -- where it is not, 13.
  pub add_uncoded : coded a.sizes x ≡ false → adds s x z ≡ stop 13
  add_uncoded = adding.adds_uncoded s a f e x z

  -- It is what the archive and one that holds just the record join to.
  pub add-joined : coded a.sizes x ≡ true → (t : List ℕ) (b : Held) → Bytes t → read_archive t ≡ got b [] → a.sizes ≡ b.sizes → rows_in b ≡ record_of x z ∷ [] → adds s x z ≡ joins s t
  add-joined = adding.adds-joined s a f e x z

  module _ {y : List ℕ} (k : adds s x z ≡ bytes y) (m : mag z < 2 ^ 31) where
    -- What is not stopped is within all limits, and accepted: read back, it holds what these rows require.
    pub add-limits : Limits a.sizes rows
    add-limits = adding.added-limits s a f e x z k m

    pub add_accepted : read_archive y ≡ got (required a.sizes rows) []
    add_accepted = adding.added_accepted s a f e x z k m

    -- what the result holds
    abbrev after : Held
    after = required a.sizes rows

    table : Table (dims a) (rows_in a)
    table = limits-table a.sizes (rows_in a) (archive_forth s a [] f e).0

    rising : Rising earlier (codes_of (rows_in a))
    rising = (archive_forth s a [] f e).0.rising

    row : Coded (dims a) x
    row = adding.record_coded s a f e x z (adding.added-coded s a f e x z k)

    -- ---- Just the 2 to the power D cells over the row gain it.

    -- These are the cells in which the row falls, one of each set.
    pub over_just_if : (c : List ℕ) → (c ∈ over (plain (dims a)) x) ↔ (falls c x ≡ true)
    over_just_if = growing.over_iff (plain (dims a)) (plain_laws (dims a)) x row

    pub over-distinct : Distinct (over (plain (dims a)) x)
    over-distinct = growing.over-distinct (plain (dims a)) (plain_laws (dims a)) x row

    pub over-count : length (over (plain (dims a)) x) ≡ 2 ^ dims a
    over-count = lates.over-count (dims a) x

    -- A cell exists just if it did or lies over the row;
    pub add_exists : (c : List ℕ) → Exists (plain (dims a)) (codes_of rows) c ↔ (Exists (plain (dims a)) (codes_of (rows_in a)) c ⊎ (falls c x ≡ true))
    add_exists = lates.late_exists sums (dims a) (rows_in a) table (record_of x z) row

    -- over the row it has the reading and one in count more, and elsewhere the values that it had.
    pub add_gains : (c : List ℕ) → falls c x ≡ true → total (plain (dims a)) sums rows c ≡ plus (total (plain (dims a)) sums (rows_in a) c) (record_of x z).total
    add_gains = lates.late_gains sums (dims a) (rows_in a) table (record_of x z) row sums-add (plain (dims a))

    pub add_keeps : (c : List ℕ) → falls c x ≡ false → total (plain (dims a)) sums rows c ≡ total (plain (dims a)) sums (rows_in a) c
    add_keeps = lates.late_keeps sums (dims a) (rows_in a) table (record_of x z) row sums-add (plain (dims a))

    -- The same of every question to both archives: what is looked up after, by what was looked up before, from 0 and 0 where there was no record.
    module _ (g : Bytes y) (q : List ℕ) (h : asks a.sizes q ≡ true) where
      fits : asks after.sizes q ≡ true
      fits = ap (λ (zs : List ℕ). asks zs q) (required-sizes a.sizes rows) ∙ h

      told-after : amount_of (looks_up y q) ≡ total (plain (dims a)) sums rows q
      told-after = looked-amount y after g add_accepted q fits ∙ ap₂ (λ (zs : List ℕ) (l : List (Row Total)). total (plain (length zs)) sums l q) (required-sizes a.sizes rows) (required-rows a.sizes rows)

      told-before : amount_of (looks_up s q) ≡ total (plain (dims a)) sums (rows_in a) q
      told-before = looked-amount s a f e q h

      pub looked_gains : falls q x ≡ true → amount_of (looks_up y q) ≡ plus (amount_of (looks_up s q)) (record_of x z).total
      looked_gains o = told-after ∙ add_gains q o ∙ ap (λ (t : Total). plus t (record_of x z).total) (sym told-before)

      pub looked_keeps : falls q x ≡ false → amount_of (looks_up y q) ≡ amount_of (looks_up s q)
      looked_keeps o = told-after ∙ add_keeps q o ∙ sym told-before

      pub looked_no_record : (looks_up y q ≡ Ok None) ↔ ((looks_up s q ≡ Ok None) × (falls q x ≡ false))
      looked_no_record =
          let was = no_record_just_if s a f e q h in
          let is : (looks_up y q ≡ Ok None) ↔ (Exists (plain (dims a)) (codes_of rows) q → ⊥) =
          subst (λ (zs : List ℕ). (looks_up y q ≡ Ok None) ↔ (Exists (plain (length zs)) (codes_of rows) q → ⊥)) (required-sizes a.sizes rows)
          (subst (λ (l : List (Row Total)). (looks_up y q ≡ Ok None) ↔ (Exists (plain (dims after)) (codes_of l) q → ⊥)) (required-rows a.sizes rows) (no_record_just_if y after g add_accepted q fits)) in (
            λ n. (was.1 (λ o. is.0 n ((add_exists q).1 (inl o))), refuted (λ o. is.0 n ((add_exists q).1 (inr o)))),
            λ n. is.1 (λ o. cases ((add_exists q).0 o) (was.0 n.0) (λ h. false≢true (sym n.1 ∙ h))),
          )

    -- ---- Entries

    entries-after : entries_in after ≡ ours (plain (dims a)) sums rows
    entries-after = entries-required a.sizes rows

    counts : (n : ℕ → ℕ → Type 0) → n (length (ours (plain (dims a)) sums (rows_in a))) (length (ours (plain (dims a)) sums rows)) → n (length (entries_in a)) (length (entries_in after))
    counts n h = rw (entries-ours s a f e, entries-after) h

    -- do not grow if the row's codes are known: their cells and lists stay, in their order, so their number does;
    pub add-stays : x ∈ codes_of (rows_in a) → map (emptied sums) (entries_in after) ≡ map (emptied sums) (entries_in a)
    add-stays i = ap (map (emptied sums)) entries-after ∙ lates.late-entries_stay sums (dims a) (rows_in a) table (record_of x z) row rising i (plain (dims a)) ∙ ap (map (emptied sums)) (sym (entries-ours s a f e))

    pub add-stays-count : x ∈ codes_of (rows_in a) → length (entries_in after) ≡ length (entries_in a)
    add-stays-count i = counts (λ m n. n ≡ m) (lates.late-length-stays sums (dims a) (rows_in a) table (record_of x z) row rising i (plain (dims a)))

    -- otherwise, with at least one base row before, they grow by 1 at least and 2 to the power D at most;
    pub add_grows : (x ∈ codes_of (rows_in a) → ⊥) → 1 ≤ length (rows_in a) → (length (entries_in a) + 1 ≤ length (entries_in after)) × (length (entries_in after) ≤ length (entries_in a) + 2 ^ dims a)
    add_grows new h = counts (λ m n. (m + 1 ≤ n) × (n ≤ m + 2 ^ dims a)) (lates.late_grows sums (dims a) (rows_in a) table (record_of x z) row rising new h)

    -- from no base row they stay at one.
    pub add-first : rows_in a ≡ [] → (length (entries_in a) ≡ 1) × (length (entries_in after) ≡ 1)
    add-first n = counts (λ i j. (i ≡ 1) × (j ≡ 1))
        (subst (λ (l : List (Row Total)). (length (ours (plain (dims a)) sums l) ≡ 1) × (length (ours (plain (dims a)) sums (late sums (dims a) l (record_of x z))) ≡ 1)) (sym n)
        (lates.late-one sums sums-add (dims a) (record_of x z) row (plain (dims a)) (plain_laws (dims a)) row))

-- The archive of a table with a record added is the archive of the table with the record behind its rows.
pub add-table : (p r : List ℕ) (t v : Records) → Bytes p → Bytes r → read_table p ≡ got t [] → read_table r ≡ got v [] → (x : List ℕ) (z : ℤ)
    → t.sizes ≡ v.sizes → v.rows ≡ t.rows ++ record_of x z ∷ [] → adds (archive_bytes t.sizes (base_rows t)) x z ≡ builds r
add-table = adding.adds_built

-- ---- Records one after the other, each codes and a reading of 32 bits

module _ (s : List ℕ) (a : Held) (f : Bytes s) (e : read_archive s ≡ got a []) where
  -- the base rows and all the records, folded
  abbrev all-rows : List (Row ℤ) → List (Row Total)
  all-rows rs = folded sums (dims a) (rows_in a ++ recorded rs)

  -- Where all have a row's codes, the outcome is the archive of the base rows and all the records, folded at once, unless 18 stops it: 18 comes on the way just if it comes at the end.
  pub add-all-filed : (rs : List (Row ℤ)) → AllCoded a.sizes rs → AllReadings rs → adds_all s rs ≡ filed a.sizes (all-rows rs)
  add-all-filed = adding-all.adds-all-filed s a f e

  -- The first codes that are no row's stop it with 13, unless the records before them are too many already: then with 18.
  pub add-all_uncoded : (rs : List (Row ℤ)) (r : Row ℤ) (others : List (Row ℤ)) → AllCoded a.sizes rs → AllReadings rs → coded a.sizes r.codes ≡ false
      → adds_all s (rs ++ r ∷ others) ≡ onward (filed a.sizes (all-rows rs)) (λ t. stop 13)
  add-all_uncoded = adding-all.adds-all_uncoded s a f e

  -- What is not stopped had a row's codes each time, and is accepted: read back, it holds what these rows require.
  pub add-all-coded : (rs : List (Row ℤ)) → AllReadings rs → {y : List ℕ} → adds_all s rs ≡ bytes y → AllCoded a.sizes rs
  add-all-coded = adding-all.adds-all-coded s a f e

  pub add-all_accepted : (rs : List (Row ℤ)) → AllReadings rs → {y : List ℕ} → adds_all s rs ≡ bytes y → read_archive y ≡ got (required a.sizes (all-rows rs)) []
  add-all_accepted = adding-all.adds-all_accepted s a f e

  -- It is what the archive and one that holds just the records' rows join to.
  pub add-all-joined : (rs : List (Row ℤ)) → AllCoded a.sizes rs → AllReadings rs → (t : List ℕ) (b : Held) → Bytes t → read_archive t ≡ got b [] → a.sizes ≡ b.sizes
      → rows_in b ≡ folded sums (dims a) (recorded rs) → adds_all s rs ≡ joins s t
  add-all-joined = adding-all.adds-all-joined s a f e

  -- In any order the same outcome, 18 too, where all have a row's codes;
  pub add_any_order : {rs others : List (Row ℤ)} → Permᴰ rs others → AllReadings rs → AllCoded a.sizes rs → adds_all s rs ≡ adds_all s others
  add_any_order = adding-all.adds-all_reordered s a f e

  -- whatever the codes are, what one order gives, every other gives: one order stops just if all do.
  pub add_any_order-bytes : {rs others : List (Row ℤ)} → Permᴰ rs others → AllReadings rs → {y : List ℕ} → adds_all s rs ≡ bytes y → adds_all s others ≡ bytes y
  add_any_order-bytes = adding-all.adds-all_any s a f e

  -- Two records, either first, if each alone is not stopped: then both orders give the same archive, or 18.
  pub add-two : (x : List ℕ) (z : ℤ) (y : List ℕ) (w : ℤ) → mag z < 2 ^ 31 → mag w < 2 ^ 31 → {u v : List ℕ} → adds s x z ≡ bytes u → adds s y w ≡ bytes v → adds u y w ≡ adds v x z
  add-two x z y w = adding-all.adds_two s a f e (record { codes = x; total = z }) (record { codes = y; total = w })

-- Some rows of a table built, and the others added late in any order, give the archive of the table.
pub add-all-table : (p q : List ℕ) (t u : Records) → Bytes p → Bytes q → read_table p ≡ got t [] → read_table q ≡ got u [] → u.sizes ≡ t.sizes
    → (rs : List (Row ℤ)) → Permᴰ t.rows (u.rows ++ recorded rs) → onward (builds q) (λ s. adds_all s rs) ≡ builds p
add-all-table = adding-all.adds-all_built

-- A table's rows added one by one, in any order, to the archive without rows give the archive of the table.
pub add-all-rows : (p : List ℕ) (t : Records) → Bytes p → read_table p ≡ got t [] → (rs : List (Row ℤ)) → Permᴰ (readings t.rows) rs
    → adds_all (archive_bytes t.sizes []) rs ≡ builds p
add-all-rows = adding-all.adds-all-rows
