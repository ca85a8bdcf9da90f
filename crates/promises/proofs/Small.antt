-- C-23: each small table is a table that `build` accepts, and the tallies count the entries of the archives that it writes.
use mathlib.Core.Path.{◌≡◌, sym, ap, subst, ◌∙◌}
use mathlib.Core.Logic.{◌↔◌}
use mathlib.Core.List.Memᴰ
use mathlib.Core.List.{List, [], ◌∷◌}
use Prim.Native.Nat.{ℕ, zero, suc, ◌^◌, ◌≤◌, ◌<◌}
use native.Mathlib.Omega.{arith}
use lib.ListN.{length, replicate, length-map, length-replicate}
use lib.Pow.{pow_mono}
use lib.Signed.{mag}
use Rattle.lists.specs.Lists.{◌∈◌}
use Rattle.fields_walk.specs.Parsed.{got}
use Rattle.fields_walk.specs.Limits.{Below}
use Rattle.cube.specs.declared.Total.{Total}
use Rattle.cube.specs.Measure.{Row, sums}
use Rattle.cube.specs.Codes.{plain}
use Rattle.cube.specs.Condensed.{ours}
use Rattle.cube.specs.Table.{folded}
use Rattle.small_model.specs.Small.{up_to, row, codes_at, table, tables, Digits, Small}
use Rattle.small_model.specs.Tally.{entries, having}
use Rattle.small_model.proofs.Tables.{codes-few, small_in}
use Rattle.small_model.proofs.Promises.{tally-tables}
use Rattle.table.specs.Layout.{TableLimits, table_bytes}
use Rattle.table.specs.Reading.{read_table, base_rows}
use Rattle.table.proofs.Accepted.{table-back}
use Rattle.archive_entries.specs.Layout.{Held, required, archive_bytes}
use Rattle.archive_entries.specs.Reading.{read_archive}
use Rattle.archive_entries.proofs.Accepted.{archive_back}
use Rattle.call_answers.specs.Answers.{bytes}
use Rattle.call_answers.specs.Calls.{builds, entries_in}
use Rattle.call_answers.proofs.Entries.{entries-required}
use Rattle.call_answers.proofs.Folded.{folded-within}
use Rattle.promises.specs.Small.{small, BuiltWith}

-- sizes that are all k
sizes_each : (d k : ℕ) {z : ℕ} → z ∈ replicate d k → z ≡ k
sizes_each zero k m = absurd (Memᴰ.not-nil m)
sizes_each (suc d) k (Memᴰ.head e) = e
sizes_each (suc d) k (Memᴰ.tail m) = sizes_each d k m

-- digits are below sizes of 2 or more
digits-below : (d k : ℕ) (x : List ℕ) → 2 ≤ k → Digits d x → Below (replicate d k) x
digits-below zero k [] h g = tt
digits-below zero k (a ∷ x) h g = absurd g
digits-below (suc d) k [] h g = absurd g
digits-below (suc d) k (a ∷ x) h g = (omega (arith, g.0, h), digits-below d k x h g.1)

-- a small table has few rows
small_few : (d : ℕ) {rows : List (Row Total)} → d ≤ 8 → Small d rows → length rows ≤ 1024
unfolding tables
small_few d {rows} h s =
    let r = Memᴰ.of_map (table d) (up_to (2 ^ 2 ^ d)) (small_in d rows s) in
    subst (λ (l : List (Row Total)). length l ≤ 1024) r.2 (omega (arith, length-map (codes_at d r.0) row, codes-few d r.0, pow_mono {i = d} {j = 8} h))

module _ (d : ℕ) (some : 1 ≤ d) (few : d ≤ 8) where
  module _ (rows : List (Row Total)) (s : Small d rows) where
    long : length (small d rows).sizes ≡ d
    long = length-replicate d _

    limits : TableLimits (small d rows)
    limits = record {
      sized = record {
        some = omega (arith, some, long);
        few = omega (arith, few, long);
        each = λ z m. let e = sizes_each d _ m in (omega (arith, e), omega (arith, e));
      };
      few = small_few d few s;
      each = λ r m. let e = s.readings r m in record {
        below = digits-below d _ r.codes (omega arith) (s.sizes r m);
        reading = subst (λ (u : Total). mag u.sum < 2 ^ 31) (sym e) (omega arith);
        once = ap (λ (u : Total). u.count) e;
      };
    }

    -- Its bytes are read as these sizes and rows;
    pub small_accepted : read_table (table_bytes (small d rows)) ≡ got (small d rows) []
    small_accepted = table-back (small d rows) limits

    -- the archive of its base rows
    abbrev small_archive : List ℕ
    small_archive = archive_bytes (small d rows).sizes (base_rows (small d rows))

    abbrev small_held : Held
    small_held = required (small d rows).sizes (base_rows (small d rows))

    -- is what `build` writes,
    pub small_built : builds (table_bytes (small d rows)) ≡ bytes small_archive
    unfolding builds
    small_built = rw small_accepted

    -- is accepted,
    pub small_read : read_archive small_archive ≡ got small_held []
    small_read = archive_back (small d rows).sizes (base_rows (small d rows)) (folded-within (small d rows) limits)

    -- and has as many entries as are tallied.
    pub small_tallied : length (entries_in small_held) ≡ entries d rows
    unfolding entries
    small_tallied =
        ap length (entries-required (small d rows).sizes (base_rows (small d rows)))
        ∙ ap (λ (k : ℕ). length (ours (plain k) sums (folded sums k rows))) long

  -- So a tally counts just the small tables for which `build` writes an archive with so many entries.
  pub tally_built : (n : ℕ) (rows : List (Row Total)) → (rows ∈ having d n) ↔ (Small d rows × BuiltWith d rows n)
  tally_built n rows = (
    λ m.
        let h = (tally-tables d n rows).0 m in
        (h.0, (small_archive rows h.0, small_held rows h.0, small_built rows h.0, small_read rows h.0, small_tallied rows h.0 ∙ h.1)),
    λ h.
        let s = h.0 in
        let b = h.1 in
        let e : b.0 ≡ small_archive rows s = cc (sym b.2 ∙ small_built rows s) in
        let f : b.1 ≡ small_held rows s = cc (sym b.3 ∙ ap read_archive e ∙ small_read rows s) in
        (tally-tables d n rows).1 (s, sym (small_tallied rows s) ∙ ap (λ (a : Held). length (entries_in a)) (sym f) ∙ b.4),
  )
