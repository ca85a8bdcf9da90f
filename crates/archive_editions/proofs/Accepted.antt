-- An archive is accepted exactly if it is the archive of base rows within the limits, and what is read is what was written.
use mathlib.Core.Path.{◌≡◌, refl, sym, ap, ◌∙◌}
use mathlib.Core.Logic.{◌↔◌}
use mathlib.Core.Bool.{true}
use mathlib.Core.List.{List, [], map-map, map-id}
use Prim.Native.Nat.{ℕ}
use Rattle.lists.specs.Order.{same}
use Rattle.lists.proofs.Order.{same-eq, same_refl}
use Rattle.fields_walk.specs.Parsed.{got}
use Rattle.fields_walk.specs.Limits.{Bytes}
use Rattle.fields_walk.proofs.Steps.{then_on, through_test}
use Rattle.cube.specs.declared.Figures.{Figures}
use Rattle.cube.specs.Measure.{Row}
use Rattle.archive_editions.specs.Format.{Format}
use Rattle.archive_editions.specs.Layout.{Held, based, required, archive_bytes, Limits}
use Rattle.archive_editions.specs.Reading.{walk, judged, rows_in, read}
use Rattle.archive_editions.proofs.Formats.{Lawful}
use Rattle.archive_editions.proofs.Walkable.{walk_forth, walk_back}
use Rattle.archive_editions.proofs.Entered.{walkable_limits}
use Rattle.archive_editions.proofs.Limits.{limits_walkable}

module _ {H : Type 0} (F : Format H) where
  -- the rows of our entries are the rows
  pub required-rows : (h : H) (rows : List (Row Figures)) → rows_in (required F h rows) ≡ rows
  unfolding required
  required-rows h rows = map-map (λ b. b.row) (based (F.lattice h) rows) rows ∙ map-id rows

  pub required-header : (h : H) (rows : List (Row Figures)) → (required F h rows).header ≡ h
  unfolding required
  required-header h rows = refl

  -- what was read was walked over, and passed stop 12
  pub read_forth : (s : List ℕ) {a : Held H} {rest : List ℕ} → read F s ≡ got a rest → (walk F s ≡ got a rest) × (same s (archive_bytes F a.header (rows_in a)) ≡ true)
  unfolding read
  read_forth s e = through_test (λ a. same s (archive_bytes F a.header (rows_in a))) 12 (walk F s) e

  module _ (lawful : Lawful F) where
    pub walked : (h : H) (rows : List (Row Figures)) → Limits F h rows → walk F (archive_bytes F h rows) ≡ got (required F h rows) []
    unfolding archive_bytes
    walked h rows l = walk_back F lawful (required F h rows) (limits_walkable F lawful h rows l)

    -- What we write is accepted and read back.
    pub archive_back : (h : H) (rows : List (Row Figures)) → Limits F h rows → read F (archive_bytes F h rows) ≡ got (required F h rows) []
    unfolding read
    archive_back h rows l =
        then_on (judged F (archive_bytes F h rows)) (walked h rows l)
        ∙ rw (required-header h rows, required-rows h rows, same_refl (archive_bytes F h rows))

    -- What was accepted is what we write.
    pub archive_forth : (s : List ℕ) (a : Held H) (rest : List ℕ) → Bytes s → read F s ≡ got a rest
        → Limits F a.header (rows_in a) × (s ≡ archive_bytes F a.header (rows_in a)) × (a ≡ required F a.header (rows_in a)) × (rest ≡ [])
    archive_forth s a rest b e =
        let t = read_forth s e in
        let f = walk_forth F lawful s a rest b t.0 in
        let l = walkable_limits F a f.0 in
        let k = same-eq s (archive_bytes F a.header (rows_in a)) t.1 in
        let g = sym t.0 ∙ ap (walk F) k ∙ walked a.header (rows_in a) l in
        (l, k, cc g, f.2)

    -- An archive is accepted exactly if it is the archive of a header and base rows within the limits.
    pub accepted_iff : (s : List ℕ) → Bytes s → ((a : Held H) × (read F s ≡ got a [])) ↔ ((h : H) × (rows : List (Row Figures)) × Limits F h rows × (s ≡ archive_bytes F h rows))
    accepted_iff s b = (
      λ p. let r = archive_forth s p.0 [] b p.1 in (p.0.header, rows_in p.0, r.0, r.1),
      λ p. (required F p.0 p.1, ap (read F) p.3 ∙ archive_back p.0 p.1 p.2),
    )
