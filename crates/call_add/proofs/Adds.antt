-- One late reading, from an archive's bytes: the result is the archive of its base rows with the record folded in.
use mathlib.Core.Path.{◌≡◌, refl, sym, ap, ap₂, ◌∙◌}
use mathlib.Core.Bool.{true, false}
use mathlib.Core.List.Memᴰ
use mathlib.Core.List.{List, [], ◌∷◌, ◌++◌}
use Prim.Native.Nat.{ℕ, ◌^◌, ◌<◌}
use lib.IntN.{ℤ}
use lib.ListN.{length}
use lib.Signed.{mag}
use Rattle.lists.specs.Lists.{◌∈◌}
use Rattle.fields_walk.specs.Parsed.{Parsed, stop as halt, got}
use Rattle.fields_walk.specs.Limits.{Bytes}
use Rattle.fields_walk.proofs.Limits.{below-coded}
use Rattle.cube.specs.declared.Total.{Total}
use Rattle.cube.specs.Measure.{Row, sums}
use Rattle.cube.specs.Codes.{Coded}
use Rattle.cube.specs.Table.{folded}
use Rattle.cube.proofs.Sums.{sums-add}
use Rattle.rows_merge.specs.United.{united}
use Rattle.rows_late.specs.Late.{late}
use Rattle.rows_late.proofs.Late.{late-folded}
use Rattle.table.specs.Layout.{Records}
use Rattle.table.specs.Reading.{read_table, base_rows}
use Rattle.table.proofs.Accepted.{table_forth}
use Rattle.archive_entries.specs.Layout.{Held, Limits, required, archive_bytes}
use Rattle.archive_entries.specs.Reading.{read_archive, rows_in}
use Rattle.archive_entries.proofs.Accepted.{required-rows, required-sizes, archive_back, archive_forth}
use Rattle.call_answers.specs.Answers.{stop, bytes}
use Rattle.call_answers.specs.Calls.{outcome, dims, builds}
use Rattle.call_answers.specs.Joins.{few, filed, joins}
use Rattle.call_answers.proofs.Answers.{no_bytes, passed}
use Rattle.call_answers.proofs.Folded.{table-rows, folded-within}
use Rattle.call_answers.proofs.Limits.{filed-limits, limits-united}
use Rattle.call_answers.proofs.Joins.{joins-filed}
use Rattle.call_add.specs.Adds.{coded, record_of, added, adds}
use Rattle.call_add.proofs.Codes.{coded-below, below_is_coded}
use Rattle.call_add.proofs.Records.{record_limits}

module _ (s : List ℕ) (a : Held) (f : Bytes s) (e : read_archive s ≡ got a []) (x : List ℕ) (z : ℤ) where
  -- the base rows with the record folded in
  abbrev rows : List (Row Total)
  rows = late sums (dims a) (rows_in a) (record_of x z)

  before : Limits a.sizes (rows_in a)
  before = (archive_forth s a [] f e).0

  -- Codes that are no row's are refused.
  pub adds_uncoded : coded a.sizes x ≡ false → adds s x z ≡ stop 13
  unfolding adds added
  adds_uncoded h = rw (e, h)

  -- Otherwise the result is the archive of the base rows with the record folded in, where these are not too many.
  module _ (k : coded a.sizes x ≡ true) where
    pub adds-filed : adds s x z ≡ filed a.sizes rows
    unfolding adds added
    adds-filed = rw (e, k)

    pub record_coded : Coded (dims a) x
    record_coded = below-coded a.sizes x (λ y i. (before.sized.each y i).1) (coded-below a.sizes x k)

    -- So it is what the archive and one that holds just the record join to.
    pub adds-joined : (t : List ℕ) (b : Held) → Bytes t → read_archive t ≡ got b [] → a.sizes ≡ b.sizes → rows_in b ≡ record_of x z ∷ [] → adds s x z ≡ joins s t
    adds-joined t b g h w o =
        adds-filed ∙ ap (λ (l : List (Row Total)). filed a.sizes (united sums (dims a) (rows_in a) l)) (sym o) ∙ sym (joins-filed s t a b f g e h w)

  -- What is not stopped is accepted: sizes and base rows are within the limits, and read back it holds what they require.
  module _ {y : List ℕ} (k : adds s x z ≡ bytes y) where
    fitting : (coded a.sizes x ≡ true) × (filed a.sizes rows ≡ bytes y)
    unfolding adds added
    fitting = passed (coded a.sizes x) 13 (filed a.sizes rows) (rw e at k)

    pub added-coded : coded a.sizes x ≡ true
    added-coded = fitting.0

    filing : (few rows ≡ true) × (bytes (archive_bytes a.sizes rows) ≡ bytes y)
    filing = passed (few rows) 18 (bytes (archive_bytes a.sizes rows)) fitting.1

    added-few : few rows ≡ true
    added-few = filing.0

    pub added-bytes : archive_bytes a.sizes rows ≡ y
    added-bytes = let g = filing.1 in cc

    module _ (m : mag z < 2 ^ 31) where
      pub added-limits : Limits a.sizes rows
      added-limits = limits-united a.sizes (rows_in a) (record_of x z ∷ []) before (record_limits a.sizes x z m before.sized added-coded) added-few

      pub added_accepted : read_archive y ≡ got (required a.sizes rows) []
      added_accepted = ap read_archive (sym added-bytes) ∙ archive_back a.sizes rows added-limits

-- What is not refused was accepted.
pub adds-from : (s x : List ℕ) (z : ℤ) {y : List ℕ} → Bytes s → adds s x z ≡ bytes y → (a : Held) × (read_archive s ≡ got a [])
unfolding adds
adds-from s x z {y} f = go (read_archive s) refl
  where
    go : (p : Parsed Held) → read_archive s ≡ p → outcome (λ a. added a.sizes (rows_in a) x z) p ≡ bytes y → (a : Held) × (read_archive s ≡ got a [])
    go (halt n) e k = absurd (no_bytes k)
    go (got a rest) e k = (a, e ∙ ap (got a) (archive_forth s a rest f e).3)

-- The archive of a table with a record added is the archive of the table with the record behind its rows.
pub adds_built : (p r : List ℕ) (t v : Records) → Bytes p → Bytes r → read_table p ≡ got t [] → read_table r ≡ got v [] → (x : List ℕ) (z : ℤ)
    → t.sizes ≡ v.sizes → v.rows ≡ t.rows ++ record_of x z ∷ [] → adds (archive_bytes t.sizes (base_rows t)) x z ≡ builds r
unfolding builds adds added
adds_built p r t v bp br ep er x z w n =
    let zs = t.sizes in
    let d = length zs in
    let lt = (table_forth p t [] bp ep).0 in
    let lv = (table_forth r v [] br er).0 in
    let i : record_of x z ∈ v.rows = rw n (Memᴰ.append_right t.rows (Memᴰ.head refl)) in
    let k : coded zs x ≡ true = below_is_coded zs x (rw w (lv.each (record_of x z) i).below) in
    let g : Coded d x = rw w (table-rows v lv (record_of x z) i) in
    let h = archive_back zs (base_rows t) (folded-within t lt) in
    rw (h, required-sizes zs (base_rows t), k, required-rows zs (base_rows t), er)
    (ap (filed zs) (late-folded sums sums-add d (record_of x z) g t.rows (table-rows t lt))
    ∙ ap₂ (λ (ys : List ℕ) (rows : List (Row Total)). filed ys (folded sums (length ys) rows)) w (sym n)
    ∙ filed-limits v.sizes (base_rows v) (folded-within v lv))
