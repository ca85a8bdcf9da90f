-- Stops of an archive that are more than a test of one field, each just if its sentence holds (document 01, "Stops, in checking order"): 8 and 12.
use mathlib.Core.Path.{◌≡◌, refl, sym, ap, subst, ◌∙◌}
use mathlib.Core.Logic.{◌≢◌, ◌↔◌, ◌⊎◌}
use mathlib.Core.List.Memᴰ
use mathlib.Core.List.{List, [], map, map-map, map-id}
use Prim.Native.Nat.{ℕ, ◌+◌, ◌<◌}
use lib.IntN.{ℤ}
use lib.ListN.{length}
use Rattle.lists.specs.Lists.{◌∈◌}
use Rattle.lists.proofs.Members.{map_same}
use Rattle.fields_walk.specs.Parsed.{stop, got}
use Rattle.fields_walk.specs.Fields.{word, sum}
use Rattle.fields_walk.specs.Limits.{Bytes}
use Rattle.cube.specs.declared.Total.{Total}
use Rattle.cube.specs.Measure.{sums, Row, codes_of}
use Rattle.cube.specs.Making.{Make}
use Rattle.cube.specs.Codes.{plain}
use Rattle.cube.specs.Cube.{filled}
use Rattle.cube.specs.Condensed.{listed, normals}
use Rattle.archive_entries.specs.Layout.{Based, based, Held, required}
use Rattle.archive_entries.specs.Reading.{amount, walk_archive, rows_in, read_archive}
use Rattle.archive_entries.proofs.Stops as stops

-- Where a base entry's sum z and count n stand, behind entries whose counts are `before` in all: it stops with 8 just if the count is 0, or no n readings make the sum, or the total count passes 1,048,576.
pub eight_just_if : (before : ℕ) (l : List ℕ) {z : ℤ} {n : ℕ} {rest end : List ℕ} → sum l ≡ got z rest → word rest ≡ got n end
    → (amount before l ≡ stop 8) ↔ ((n ≡ 0) ⊎ (((zs : List ℤ) → Make zs (record { sum = z; count = n }) → ⊥) ⊎ (1048576 < before + n)))
eight_just_if = stops.eight_iff

-- Bytes that pass stops 1 to 11 stop with 12 just if their lists and normal entries are not those that their sizes and base rows require.
pub twelve_just_if : (s : List ℕ) (a : Held) → Bytes s → walk_archive s ≡ got a [] → (read_archive s ≡ stop 12) ↔ (a ≢ required a.sizes (rows_in a))
twelve_just_if s a = stops.twelve_iff s a []

-- These are: for each base row the list of the smallest sets on which it is single, and the normal cells with their sums and counts.
module _ (a : Held) where
  abbrev d : ℕ
  d = length a.sizes

  abbrev rows : List (Row Total)
  rows = rows_in a

  abbrev Lists : Type 0
  Lists = (b : Based) → b ∈ a.bases → b.list ≡ listed (plain d) (codes_of rows) b.row.codes

  abbrev our_cells : List (Row Total)
  our_cells = map (filled (plain d) sums rows) (normals (plain d) (codes_of rows))

  lists-required : a ≡ required a.sizes rows → Lists
  unfolding required
  lists-required e b m =
      let q = Memᴰ.of_map (based d rows) rows (subst (λ (l : List Based). b ∈ l) (ap (λ (h : Held). h.bases) e) m) in
      subst (λ (c : Based). c.list ≡ listed (plain d) (codes_of rows) c.row.codes) q.2 refl

  bases-ours : Lists → a.bases ≡ map (based d rows) rows
  bases-ours h =
      sym (map-map (based d rows) (λ b. b.row) a.bases
      ∙ map_same (λ b. based d rows b.row) (λ b. b) a.bases (λ b m i. record { row = b.row; list = sym (h b m) i })
      ∙ map-id a.bases)

  pub required_iff : (a ≡ required a.sizes rows) ↔ (Lists × (a.cells ≡ our_cells))
  unfolding required
  required_iff = (
    λ e. (lists-required e, ap (λ (h : Held). h.cells) e),
    λ p i. record { sizes = a.sizes; bases = bases-ours p.0 i; cells = p.1 i },
  )
