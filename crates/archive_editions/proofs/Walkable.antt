-- What the walk over an archive's fields passes, as bytes: the fields that are read are those that were written.
use mathlib.Core.Path.{◌≡◌, refl, sym, ◌∙◌}
use mathlib.Core.List.{List, [], ◌++◌}
use Prim.Native.Nat.{ℕ, ◌+◌, ◌-◌, ◌^◌, ◌≤◌, ◌<◌}
use native.Mathlib.Omega.{arith}
use borrow.Author.Tests.{eqb-true}
use lib.Dec.{eqb}
use lib.ListN.{length, take}
use Rattle.lists.proofs.Pigeonhole.{no_more}
use Rattle.lists.specs.Lists.{◌∈◌}
use Rattle.fields.specs.Words.{words_bytes}
use Rattle.fields_check.specs.Check.{check_of}
use Rattle.fields_walk.specs.Parsed.{Parsed, got, and_then, stop_unless}
use Rattle.fields_walk.specs.Fields.{word, ended, close}
use Rattle.fields_walk.specs.Limits.{Bytes}
use Rattle.fields_walk.proofs.Steps.{then_made, through, passed}
use Rattle.fields_walk.proofs.Codec.{Codec, codec_as, pair, codec_pair}
use Rattle.fields_walk.proofs.Ends.{sizes-words, closing, closed, closed-got, closed-back, closed_forth}
use Rattle.archive_entries.specs.Layout.{section}
use Rattle.archive_editions.specs.Format.{Format, Headed}
use Rattle.archive_editions.specs.Layout.{Based, Held, base_bytes, layout}
use Rattle.archive_editions.specs.Reading.{bases, cells, walk}
use Rattle.archive_editions.proofs.Formats.{Words, Lawful, head_codec}
use Rattle.archive_editions.proofs.Written.{Entered, bases_codec, cells_codec}

module _ {H : Type 0} (F : Format H) where
  pub record Walkable (a : Held H) : Type 0 where
    pub headed : Headed F a.header
    pub few : length a.bases ≤ 1024
    pub entered : Entered F (F.sizes a.header) [] 0 a.bases
    pub count : length a.cells < 2 ^ 32
    pub each : (c : List ℕ) → c ∈ a.cells → Words (F.width a.header + 3 + F.edition.extra) c

  -- the fields before the check word: the header, and the two kinds of entries
  abbrev held : H → List Based × List (List ℕ) → Held H
  held h p = record { header = h; bases = p.0; cells = p.1 }

  abbrev sections : H → List ℕ → Parsed (List Based × List (List ℕ))
  sections h = pair (λ bs cs. (bs, cs)) (bases F h) (λ bs. cells F h)

  abbrev body : List ℕ → Parsed (Held H)
  body = pair held F.head sections

  abbrev body_bytes : Held H → List ℕ
  body_bytes a = F.head_bytes a.header ++ (section (base_bytes F.edition.extra) a.bases ++ section words_bytes a.cells)

  walk_as : (s : List ℕ) → walk F s ≡ closed body s
  unfolding walk
  walk_as s =
      (λ i. and_then (F.head s) (λ h l. then_made (λ bs cs. (bs, cs)) (bases F h l) (λ bs. cells F h) (λ p. closing s (held h p)) i))
      ∙ then_made held (F.head s) sections (closing s)

  -- nothing stands behind what it passes, whether the numbers are bytes or not
  pub walk_end : (s : List ℕ) {a : Held H} {rest : List ℕ} → walk F s ≡ got a rest → rest ≡ []
  unfolding close
  walk_end s {rest = rest} e =
      let c = closed-got body s (sym (walk_as s) ∙ e) in
      let t = through (word c.0) (ended (take (length s - length c.0) s)) c.2 in
      let p = passed (eqb (length t.1) 0) (stop_unless (eqb t.0 (check_of (take (length s - length c.0) s))) 11 (got tt t.1)) 10 t.3 in
      let q = passed (eqb t.0 (check_of (take (length s - length c.0) s))) (got tt t.1) 11 p.1 in
      let n : t.1 ≡ [] = no_more t.1 (eqb-true (length t.1) 0 p.0) in
      let r : t.1 ≡ rest = cc q.1 in
      sym r ∙ n

  module _ (lawful : Lawful F) where
    body_codec : Codec body body_bytes Walkable
    body_codec =
        codec_as (λ a. (
          λ p. record { headed = p.0; few = omega (arith, p.1.0.0.1); entered = p.1.0.1; count = p.1.1.0; each = p.1.1.1 },
          λ w. (w.headed, (((omega arith, omega (arith, w.few)), w.entered), (w.count, w.each))),
        ))
        (codec_pair held (λ a. a.header) (λ a. (a.bases, a.cells)) (λ a. refl) (λ h p. refl) (λ h p. refl) (head_codec F lawful)
        (λ h k. codec_pair (λ bs cs. (bs, cs)) (λ p. p.0) (λ p. p.1) (λ p. refl) (λ bs cs. refl) (λ bs cs. refl)
        (bases_codec F lawful.tells lawful.limit h (sizes-words (lawful.ready h k).sized)) (λ bs e. cells_codec F h)))

    pub walk_forth : (s : List ℕ) (a : Held H) (rest : List ℕ) → Bytes s → walk F s ≡ got a rest → Walkable a × (s ≡ layout F a) × (rest ≡ [])
    unfolding layout
    walk_forth s a rest b e = closed_forth body_codec s a rest b (sym (walk_as s) ∙ e)

    pub walk_back : (a : Held H) → Walkable a → walk F (layout F a) ≡ got a []
    unfolding layout
    walk_back a w = walk_as (layout F a) ∙ closed-back body_codec a w
