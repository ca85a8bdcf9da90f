-- The entries that an accepted archive holds are our entries of its base rows.
use mathlib.Core.Path.{◌≡◌, ap, ap₂, ◌∙◌}
use mathlib.Core.List.{List, [], ◌++◌, map-map}
use Prim.Native.Nat.{ℕ}
use lib.ListN.{length}
use Rattle.cube.specs.declared.Total.{Total}
use Rattle.cube.specs.Measure.{sums, Row, codes_of}
use Rattle.cube.specs.Codes.{plain}
use Rattle.cube.specs.Condensed.{Entry, normals, ours}
use Rattle.fields_walk.specs.Parsed.{got}
use Rattle.fields_walk.specs.Limits.{Bytes}
use Rattle.archive_entries.specs.Layout.{Held, required}
use Rattle.archive_entries.specs.Reading.{read_archive, rows_in}
use Rattle.archive_entries.proofs.Accepted.{archive_forth}
use Rattle.call_answers.specs.Calls.{entries_in}

pub entries-required : (zs : List ℕ) (rows : List (Row Total)) → entries_in (required zs rows) ≡ ours (plain (length zs)) sums rows
unfolding required ours
entries-required zs rows =
    ap₂ (λ (l m : List (Entry Total)). l ++ m) (map-map _ _ rows) (map-map _ _ (normals (plain (length zs)) (codes_of rows)))

pub entries-ours : (s : List ℕ) (a : Held) → Bytes s → read_archive s ≡ got a [] → entries_in a ≡ ours (plain (length a.sizes)) sums (rows_in a)
entries-ours s a b e = ap entries_in (archive_forth s a [] b e).2 ∙ entries-required a.sizes (rows_in a)
