-- An archive is accepted exactly if it is the archive of base rows within the limits, and what is read is what was written.
use mathlib.Core.Path.{◌≡◌, refl, sym, ap, ◌∙◌}
use mathlib.Core.Logic.{◌↔◌}
use mathlib.Core.Bool.{true}
use mathlib.Core.List.{List, [], map-map, map-id}
use Prim.Native.Nat.{ℕ}
use lib.ListN.{length}
use Rattle.lists.specs.Order.{same}
use Rattle.lists.proofs.Order.{same-eq, same_refl}
use Rattle.fields_walk.specs.Parsed.{got}
use Rattle.fields_walk.specs.Limits.{Bytes}
use Rattle.fields_walk.proofs.Steps.{then_on, through_test}
use Rattle.cube.specs.declared.Total.{Total}
use Rattle.cube.specs.Measure.{Row}
use Rattle.archive_entries.specs.Layout.{Held, based, required, archive_bytes, Limits}
use Rattle.archive_entries.specs.Reading.{walk_archive, judged, rows_in, read_archive}
use Rattle.archive_entries.proofs.Walkable.{walk_forth, walk_back}
use Rattle.archive_entries.proofs.Entered.{walkable_limits}
use Rattle.archive_entries.proofs.Limits.{limits_walkable}

-- the rows of our entries are the rows
pub required-rows : (zs : List ℕ) (rows : List (Row Total)) → rows_in (required zs rows) ≡ rows
unfolding required
required-rows zs rows = map-map (λ b. b.row) (based (length zs) rows) rows ∙ map-id rows

pub required-sizes : (zs : List ℕ) (rows : List (Row Total)) → (required zs rows).sizes ≡ zs
unfolding required
required-sizes zs rows = refl

pub walked : (zs : List ℕ) (rows : List (Row Total)) → Limits zs rows → walk_archive (archive_bytes zs rows) ≡ got (required zs rows) []
unfolding archive_bytes
walked zs rows l = walk_back (required zs rows) (limits_walkable zs rows l)

pub archive_back : (zs : List ℕ) (rows : List (Row Total)) → Limits zs rows → read_archive (archive_bytes zs rows) ≡ got (required zs rows) []
unfolding read_archive
archive_back zs rows l =
    then_on (judged (archive_bytes zs rows)) (walked zs rows l)
    ∙ rw (required-sizes zs rows, required-rows zs rows, same_refl (archive_bytes zs rows))

-- what was read was walked over, and passed stop 12
pub read_forth : (s : List ℕ) {a : Held} {rest : List ℕ} → read_archive s ≡ got a rest → (walk_archive s ≡ got a rest) × (same s (archive_bytes a.sizes (rows_in a)) ≡ true)
unfolding read_archive
read_forth s e = through_test (λ h. same s (archive_bytes h.sizes (rows_in h))) 12 (walk_archive s) e

pub archive_forth : (s : List ℕ) (a : Held) (rest : List ℕ) → Bytes s → read_archive s ≡ got a rest
    → Limits a.sizes (rows_in a) × (s ≡ archive_bytes a.sizes (rows_in a)) × (a ≡ required a.sizes (rows_in a)) × (rest ≡ [])
archive_forth s a rest b e =
    let t = read_forth s e in
    let f = walk_forth s a rest b t.0 in
    let l = walkable_limits a f.0 in
    let k = same-eq s (archive_bytes a.sizes (rows_in a)) t.1 in
    let g = sym t.0 ∙ ap walk_archive k ∙ walked a.sizes (rows_in a) l in
    (l, k, cc g, f.2)

-- An archive is accepted exactly if it is the archive of sizes and base rows within the limits.
pub accepted_iff : (s : List ℕ) → Bytes s → ((a : Held) × (read_archive s ≡ got a [])) ↔ ((zs : List ℕ) × (rows : List (Row Total)) × Limits zs rows × (s ≡ archive_bytes zs rows))
accepted_iff s b = (
  λ h. let r = archive_forth s h.0 [] b h.1 in (h.0.sizes, rows_in h.0, r.0, r.1),
  λ h. (required h.0 h.1, ap read_archive h.3 ∙ archive_back h.0 h.1 h.2),
)
