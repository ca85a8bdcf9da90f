-- Stops 12 and 19 by their sentences (documents 01 and 02).
use mathlib.Core.Path.{◌≡◌, refl, sym, ap, ◌∙◌}
use mathlib.Core.Logic.{◌≢◌, ◌↔◌, ◌⊎◌, inl, inr}
use mathlib.Core.Bool.{Bool, true, false, false≢true}
use mathlib.Core.List.{List, [], ◌∷◌}
use Prim.Native.Nat.{ℕ, zero, suc, ◌≤◌}
use native.Mathlib.Omega.{arith}
use lib.Dec.{eqb}
use lib.IntN.{ℤ}
use borrow.Author.Tests.{eqb-true, eq-eqb}
use Rattle.lists.specs.Order.{same}
use Rattle.lists.proofs.Tests.{cases, truth}
use Rattle.lists.proofs.Order.{same-eq, same_refl}
use Rattle.fields_sums.specs.Twos.{signed_of}
use Rattle.fields_sums.specs.TwosLaws.{signed-fits}
use Rattle.fields_walk.specs.Parsed.{stop, got, stop_unless, many}
use Rattle.fields_walk.specs.Fields.{word}
use Rattle.fields_walk.specs.Limits.{Bytes}
use Rattle.fields_walk.proofs.Steps.{then_on}
use Rattle.cube.specs.declared.Total.{Total}
use Rattle.cube.specs.declared.Extremes.TheVariants.{Known}
use Rattle.cube.specs.Bounds.{can_make, suits}
use Rattle.cube.specs.Making.{Make, Span}
use Rattle.cube.proofs.Promises.{figures-made}
use Rattle.archive_editions.specs.Edition.{edition_two, Kept, sound_extremes, extremes_of}
use Rattle.archive_editions.specs.Format.{Format}
use Rattle.archive_editions.specs.Layout.{Held, layout, required, archive_bytes}
use Rattle.archive_editions.specs.Reading.{extremes, walk, judged, rows_in, read}
use Rattle.archive_editions.proofs.Editions.{zeros_iff, kept-two}
use Rattle.archive_editions.proofs.Formats.{Lawful}
use Rattle.archive_editions.proofs.Walkable.{walk_forth}
use Rattle.archive_editions.proofs.Entered.{walkable_limits}
use Rattle.archive_editions.proofs.Accepted.{walked}

-- what a test alone stops is stopped just if it fails
stopped_iff : {A : Type 0} (b : Bool) (n : ℕ) (x : A) (rest : List ℕ) → (stop_unless b n (got x rest) ≡ stop n) ↔ (b ≡ true → ⊥)
stopped_iff true n x rest = (λ e h. let z : false ≡ true = cc in false≢true z, λ h. absurd (h refl))
stopped_iff false n x rest = (λ e. false≢true, λ h. refl)

-- ---- 19: known is neither 0 nor 1; or it is 0, and the least or the greatest is not; or it is 1, and no readings make the sum and have these for their least and greatest

abbrev Made : Total → ℕ → ℕ → Type 0
Made t l g = (zs : List ℤ) × Make zs t × Span zs (signed_of 32 l) (signed_of 32 g)

abbrev Unsound : Total → ℕ → ℕ → ℕ → Type 0
Unsound t k l g = ((k ≢ 0) × (k ≢ 1)) ⊎ (((k ≡ 0) × ((l ≢ 0) ⊎ (g ≢ 0))) ⊎ ((k ≡ 1) × (Made t l g → ⊥)))

module _ (t : Total) (counted : 1 ≤ t.count) (made : can_make t.count t.sum ≡ true) (l g : ℕ) where
  suits_made : (suits t (signed_of 32 l) (signed_of 32 g) ≡ true) ↔ Made t l g
  suits_made =
      let f = figures-made t (signed_of 32 l) (signed_of 32 g) in (
        λ e. f.0 (record { counted = counted; made = made; suited = (signed-fits 31 l, signed-fits 31 g, e) }),
        λ r. (f.1 r).suited.2,
      )

  zeros : Unsound t 0 l g → sound_extremes t 0 l g ≡ true → ⊥
  zeros u e =
      let p = (zeros_iff t l g).0 e in
      cases u (λ n. n.0 refl) (λ v. cases v (λ z. cases z.1 (λ n. n p.0) (λ n. n p.1)) (λ o. absurd (omega (arith, o.0))))

  knowns : Unsound t 1 l g → sound_extremes t 1 l g ≡ true → ⊥
  knowns u e = cases u (λ n. n.1 refl) (λ v. cases v (λ z. absurd (omega (arith, z.0))) (λ o. o.1 (suits_made.0 e)))

  unsound_iff : (k : ℕ) → (sound_extremes t k l g ≡ true → ⊥) ↔ Unsound t k l g
  unsound_iff zero = (
    λ h. inr (inl (
      refl,
      cases (truth (eqb l 0))
          (λ e. inr (λ i. h ((zeros_iff t l g).1 (eqb-true l 0 e, i))))
          (λ e. inl (λ i. false≢true (sym e ∙ eq-eqb l 0 i))),
    )),
    zeros,
  )
  unsound_iff (suc zero) = (λ h. inr (inr (refl, λ r. h (suits_made.1 r))), knowns)
  unsound_iff (suc (suc k)) = (λ h. inl (λ e. omega (arith, e), λ e. omega (arith, e)), λ u. false≢true)

-- After sum and count have passed 8, known, least and greatest stand there.
pub nineteen_iff : (t : Total) (s : List ℕ) {k l g : ℕ} {rest : List ℕ} → 1 ≤ t.count → can_make t.count t.sum ≡ true → many 3 word s ≡ got (k ∷ l ∷ g ∷ []) rest
    → (extremes edition_two t s ≡ stop 19) ↔ (((k ≢ 0) × (k ≢ 1)) ⊎ (((k ≡ 0) × ((l ≢ 0) ⊎ (g ≢ 0))) ⊎ ((k ≡ 1) × ((zs : List ℤ) × Make zs t × Span zs (signed_of 32 l) (signed_of 32 g) → ⊥))))
unfolding extremes
nineteen_iff t s {k} {l} {g} {rest} c m e =
    let r : extremes edition_two t s ≡ stop_unless (sound_extremes t k l g) 19 (got (extremes_of k l g) rest) = rw e in
    let u = stopped_iff (sound_extremes t k l g) 19 (extremes_of k l g) rest in
    let v = unsound_iff t c m l g k in
    (λ h. v.0 (u.0 (sym r ∙ h)), λ h. r ∙ u.1 (v.1 h))

-- Known extremes may stand beside a sum and a count just if so many readings make the sum and have these for their least and greatest.
pub known_made : (t : Total) (l g : ℤ) → 1 ≤ t.count → can_make t.count t.sum ≡ true → Kept edition_two t (Known l g) ↔ ((zs : List ℤ) × Make zs t × Span zs l g)
known_made t l g c m =
    let f = figures-made t l g in
    let k = kept-two t (Known l g) in
    (λ h. f.0 (record { counted = c; made = m; suited = k.0 h }), λ r. k.1 (f.1 r).suited)

-- ---- 12: a list, the normal count or a normal entry is not what the base entries require

module _ {H : Type 0} (F : Format H) (lawful : Lawful F) where
  -- bytes that pass the other stops are the archive of their base rows just if they hold what these require
  walk_required : (s : List ℕ) (a : Held H) (rest : List ℕ) → Bytes s → walk F s ≡ got a rest
      → (same s (archive_bytes F a.header (rows_in a)) ≡ true) ↔ (a ≡ required F a.header (rows_in a))
  unfolding archive_bytes
  walk_required s a rest b e = let f = walk_forth F lawful s a rest b e in (
    λ h. let k = same-eq s (archive_bytes F a.header (rows_in a)) h in
        cc (sym e ∙ ap (walk F) k ∙ walked F lawful a.header (rows_in a) (walkable_limits F a f.0)),
    λ h. let k : s ≡ archive_bytes F a.header (rows_in a) = f.1 ∙ ap (layout F) h in ap (same s) (sym k) ∙ same_refl s,
  )

  pub twelve_iff : (s : List ℕ) (a : Held H) (rest : List ℕ) → Bytes s → walk F s ≡ got a rest → (read F s ≡ stop 12) ↔ (a ≢ required F a.header (rows_in a))
  unfolding read
  twelve_iff s a rest b e =
      let r = walk_required s a rest b e in
      let t : read F s ≡ judged F s a rest = then_on (judged F s) e in
      let u = stopped_iff (same s (archive_bytes F a.header (rows_in a))) 12 a rest in
      (λ h k. u.0 (sym t ∙ h) (r.1 k), λ h. t ∙ u.1 (λ k. h (r.0 k)))
