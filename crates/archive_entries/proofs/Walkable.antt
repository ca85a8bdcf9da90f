-- What the walk over an archive's fields passes, as bytes: the fields that are read are those that were written.
use mathlib.Core.Path.{◌≡◌, refl, sym, ◌∙◌}
use mathlib.Core.List.{List, [], ◌++◌}
use Prim.Native.Nat.{ℕ, ◌-◌, ◌^◌, ◌≤◌, ◌<◌}
use native.Mathlib.Omega.{arith}
use borrow.Author.Tests.{eqb-true}
use lib.Dec.{eqb}
use lib.ListN.{length, take}
use Rattle.lists.specs.Lists.{◌∈◌}
use Rattle.lists.proofs.Pigeonhole.{no_more}
use Rattle.fields_walk.specs.Parsed.{Parsed, got, and_then}
use Rattle.fields_walk.specs.Fields.{word, header, header_bytes, ended, close}
use Rattle.fields_walk.specs.Limits.{Sized, Bytes}
use Rattle.fields_walk.proofs.Steps.{then_made, through, passed}
use Rattle.fields_walk.proofs.Codec.{Codec, codec_as, pair, codec_pair}
use Rattle.fields_walk.proofs.Ends.{header_codec, sizes-words, closing, closed, closed-got, closed-back, closed_forth}
use Rattle.cube.specs.declared.Total.{Total}
use Rattle.cube.specs.Measure.{Row}
use Rattle.archive_entries.specs.Layout.{CUBE, Based, Held, base_bytes, cell_bytes, section, layout}
use Rattle.archive_entries.specs.Reading.{bases, cells, walk_archive}
use Rattle.archive_entries.proofs.Written.{Words, Wide, Entered, bases_codec, cells_codec}

pub record Walkable (a : Held) : Type 0 where
  pub sized : Sized a.sizes
  pub few : length a.bases ≤ 1024
  pub entered : Entered a.sizes [] 0 a.bases
  pub count : length a.cells < 2 ^ 32
  pub each : (r : Row Total) → r ∈ a.cells → Words (length a.sizes) r.codes × Wide r.total

-- the fields before the check word: the sizes, and the two kinds of entries
abbrev held : List ℕ → List Based × List (Row Total) → Held
held zs p = record { sizes = zs; bases = p.0; cells = p.1 }

abbrev sections : List ℕ → List ℕ → Parsed (List Based × List (Row Total))
sections zs = pair (λ bs cs. (bs, cs)) (bases zs) (λ bs. cells (length zs))

abbrev body : List ℕ → Parsed Held
body = pair held (header CUBE) sections

abbrev body_bytes : Held → List ℕ
body_bytes a = header_bytes CUBE a.sizes ++ (section base_bytes a.bases ++ section cell_bytes a.cells)

body_codec : Codec body body_bytes Walkable
body_codec =
    codec_as (λ a. (
      λ p. record { sized = p.0; few = omega (arith, p.1.0.0.1); entered = p.1.0.1; count = p.1.1.0; each = p.1.1.1 },
      λ w. (w.sized, (((omega arith, omega (arith, w.few)), w.entered), (w.count, w.each))),
    ))
    (codec_pair held (λ a. a.sizes) (λ a. (a.bases, a.cells)) (λ a. refl) (λ zs p. refl) (λ zs p. refl) (header_codec CUBE refl)
    (λ zs s. codec_pair (λ bs cs. (bs, cs)) (λ p. p.0) (λ p. p.1) (λ p. refl) (λ bs cs. refl) (λ bs cs. refl) (bases_codec zs (sizes-words s)) (λ bs e. cells_codec (length zs))))

walk_as : (s : List ℕ) → walk_archive s ≡ closed body s
unfolding walk_archive
walk_as s =
    (λ i. and_then (header CUBE s) (λ zs l. then_made (λ bs cs. (bs, cs)) (bases zs l) (λ bs. cells (length zs)) (λ p. closing s (held zs p)) i))
    ∙ then_made held (header CUBE s) sections (closing s)

-- nothing stands behind what it passes, whether the numbers are bytes or not
pub walk_end : (s : List ℕ) {a : Held} {rest : List ℕ} → walk_archive s ≡ got a rest → rest ≡ []
unfolding close
walk_end s {rest = rest} e =
    let c = closed-got body s (sym (walk_as s) ∙ e) in
    let t = through (word c.0) (ended (take (length s - length c.0) s)) c.2 in
    let p = passed (eqb (length t.1) 0) _ 10 t.3 in
    let q = passed _ (got tt t.1) 11 p.1 in
    let n : t.1 ≡ [] = no_more t.1 (eqb-true (length t.1) 0 p.0) in
    let r : t.1 ≡ rest = cc q.1 in
    sym r ∙ n

pub walk_forth : (s : List ℕ) (a : Held) (rest : List ℕ) → Bytes s → walk_archive s ≡ got a rest → Walkable a × (s ≡ layout a) × (rest ≡ [])
unfolding layout
walk_forth s a rest b e = closed_forth body_codec s a rest b (sym (walk_as s) ∙ e)

pub walk_back : (a : Held) → Walkable a → walk_archive (layout a) ≡ got a []
unfolding layout
walk_back a w = walk_as (layout a) ∙ closed-back body_codec a w
