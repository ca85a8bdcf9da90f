-- A listed cuboid and an expansion are read back: the cells with their totals, and nothing is left.
use mathlib.Core.Path.{◌≡◌, sym, ap, ◌∙◌}
use mathlib.Core.List.Memᴰ
use mathlib.Core.List.{List, [], map}
use Prim.Native.Nat.{ℕ, ◌^◌, ◌<◌}
use native.Mathlib.Omega.{arith}
use lib.ListN.{length, length-map}
use Rattle.lists.specs.Lists.{◌∈◌}
use Rattle.lists.proofs.Members.{flat-map}
use Rattle.lattice.specs.Sets.{sets}
use Rattle.lattice.proofs.Sets.{sets-count}
use Rattle.fields_walk.specs.Parsed.{got}
use Rattle.fields_walk.proofs.Codec.{codec_whole}
use Rattle.fields_walk.proofs.Many.{many_codec}
use Rattle.cube.specs.declared.Total.{Total}
use Rattle.cube.specs.Measure.{Row, sums, codes_of}
use Rattle.cube.specs.Codes.{plain}
use Rattle.cube.specs.Cube.{existing, filled, cells}
use Rattle.cube.proofs.Codes.{plain_laws}
use Rattle.cube.proofs.Existing.{blank-few, existing_in, existing-few}
use Rattle.cube.proofs.Complete.{cells_in}
use Rattle.archive_entries.specs.Layout.{cell_bytes, section, Limits}
use Rattle.archive_entries.proofs.Written.{Words, Wide, cells_codec}
use Rattle.archive_entries.proofs.Limits.{exists_wide, limits-base, limits-summable}
use Rattle.call_cuboids.specs.Cuboids.{cuboid_bytes, expansion_bytes, read_cuboid, read_expansion}

-- cells whose fields are not too wide, as many as a word can tell
abbrev Listable : ℕ → List (Row Total) → Type 0
Listable d cs = (length cs < 2 ^ 32) × ((r : Row Total) → r ∈ cs → Words d r.codes × Wide r.total)

module _ (zs : List ℕ) (rows : List (Row Total)) (l : Limits zs rows) where
  abbrev d : ℕ
  d = length zs

  cells-few : (s : ℕ) → length (cells (plain d) sums rows s) < 2 ^ 32
  unfolding cells
  cells-few s =
      let xs = codes_of rows in
      omega (arith, existing-few (plain d) xs s, blank-few (plain d) xs, length-map (existing (plain d) xs s) (filled (plain d) sums rows), length-map rows (λ r. r.codes), l.few)

  listable : {s : ℕ} → s ∈ sets d → Listable d (cells (plain d) sums rows s)
  listable {s} i = (cells-few s, each)
    where
      each : (r : Row Total) → r ∈ cells (plain d) sums rows s → Words d r.codes × Wide r.total
      each r m =
          let b = limits-base zs rows l in
          let q = cells_in (plain d) sums rows s m in
          let x = (existing_in (plain d) (plain_laws d) (codes_of rows) b.valid i q.0).0 in
          rw q.1 (exists_wide d rows b (limits-summable zs rows l) r.codes x)

  pub cuboid-back : {s : ℕ} → s ∈ sets d → read_cuboid d (cuboid_bytes d rows s) ≡ got (cells (plain d) sums rows s) []
  unfolding cuboid_bytes
  cuboid-back {s} i = codec_whole (cells_codec d) (cells (plain d) sums rows s) (listable i)

  pub expansion-back : read_expansion d (expansion_bytes d rows) ≡ got (map (cells (plain d) sums rows) (sets d)) []
  unfolding expansion_bytes cuboid_bytes
  expansion-back =
      let all = map (cells (plain d) sums rows) (sets d) in
      ap (read_expansion d) (sym (flat-map (section cell_bytes) (cells (plain d) sums rows) (sets d)))
      ∙ codec_whole (many_codec (cells_codec d) (2 ^ d)) all (length-map (sets d) _ ∙ sets-count d, λ cs m. let q = Memᴰ.of_map (cells (plain d) sums rows) (sets d) m in rw (← q.2) (listable q.1))
