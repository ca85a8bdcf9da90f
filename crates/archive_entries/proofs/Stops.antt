-- Stops 8 and 12 by their sentences (document 01).
use mathlib.Core.Path.{◌≡◌, refl, sym, ap, ◌∙◌}
use mathlib.Core.Logic.{◌≢◌, ◌↔◌, ◌⊎◌, inl, inr}
use mathlib.Core.Bool.{Bool, true, false, false≢true}
use mathlib.Core.List.{List}
use Prim.Native.Nat.{ℕ, ◌+◌, ◌<◌}
use native.Mathlib.Omega.{arith}
use lib.Dec.{leb}
use lib.IntN.{ℤ}
use borrow.Author.Tests.{leb-true, leb-false}
use Rattle.lists.specs.Order.{same}
use Rattle.lists.proofs.Tests.{cases, truth}
use Rattle.lists.proofs.Order.{same-eq, same_refl}
use Rattle.fields_walk.specs.Parsed.{stop, got, stop_unless}
use Rattle.fields_walk.specs.Fields.{word, sum}
use Rattle.fields_walk.specs.Limits.{Bytes}
use Rattle.fields_walk.proofs.Steps.{then_on}
use Rattle.cube.specs.declared.Total.{Total}
use Rattle.cube.specs.Bounds.{most, can_make}
use Rattle.cube.specs.Making.{Make}
use Rattle.cube.proofs.Promises.{sum-made}
use Rattle.archive_entries.specs.Layout.{Held, layout, required, archive_bytes}
use Rattle.archive_entries.specs.Reading.{fair, amount, walk_archive, judged, rows_in, read_archive}
use Rattle.archive_entries.proofs.Fair.{fair_true, fair_of}
use Rattle.archive_entries.proofs.Walkable.{walk_forth}
use Rattle.archive_entries.proofs.Entered.{walkable_limits}
use Rattle.archive_entries.proofs.Accepted.{walked}

-- what a test alone stops is stopped just if it fails
stopped_iff : {A : Type 0} (b : Bool) (n : ℕ) (x : A) (rest : List ℕ) → (stop_unless b n (got x rest) ≡ stop n) ↔ (b ≡ true → ⊥)
stopped_iff true n x rest = (λ e h. let z : false ≡ true = cc in false≢true z, λ h. absurd (h refl))
stopped_iff false n x rest = (λ e. false≢true, λ h. refl)

-- ---- 8: the entry has count 0, or a sum that this many readings cannot make, or brings the total count above 1,048,576

abbrev Unfair : ℕ → Total → Type 0
Unfair before t = (t.count ≡ 0) ⊎ (((zs : List ℤ) → Make zs t → ⊥) ⊎ (most < before + t.count))

module _ (before : ℕ) (t : Total) where
  unfair_of : (fair before t.sum t.count ≡ true → ⊥) → Unfair before t
  unfair_of u = cases (truth (leb 1 t.count))
      (λ c. cases (truth (can_make t.count t.sum))
      (λ m. cases (truth (leb (before + t.count) most))
      (λ l. absurd (u (fair_of before t.sum t.count (leb-true 1 t.count c) m (leb-true (before + t.count) most l))))
      (λ l. inr (inr (leb-false (before + t.count) most l))))
      (λ m. inr (inl (λ zs k. false≢true (sym m ∙ (sum-made t).1 (zs, k))))))
      (λ c. inl (omega (arith, leb-false 1 t.count c)))

  unfair_not : Unfair before t → fair before t.sum t.count ≡ true → ⊥
  unfair_not v e =
      let f = fair_true before t.sum t.count e in
      cases v (λ z. omega (arith, z, f.0)) (λ w. cases w (λ h. let m = (sum-made t).0 f.1 in h m.0 m.1) (λ h. omega (arith, h, f.2)))

pub eight_iff : (before : ℕ) (l : List ℕ) {z : ℤ} {n : ℕ} {rest end : List ℕ} → sum l ≡ got z rest → word rest ≡ got n end
    → (amount before l ≡ stop 8) ↔ ((n ≡ 0) ⊎ (((zs : List ℤ) → Make zs (record { sum = z; count = n }) → ⊥) ⊎ (most < before + n)))
unfolding amount
eight_iff before l {z} {n} {rest} {end} e f =
    let t : Total = record { sum = z; count = n } in
    let r : amount before l ≡ stop_unless (fair before z n) 8 (got t end) = rw (e, f) in
    let u = stopped_iff (fair before z n) 8 t end in
    (λ h. unfair_of before t (u.0 (sym r ∙ h)), λ h. r ∙ u.1 (unfair_not before t h))

-- ---- 12: a list, the normal count or a normal entry is not what the base entries require

-- bytes that pass stops 1 to 11 are the archive of their base rows just if they hold what these require
walk_required : (s : List ℕ) (a : Held) (rest : List ℕ) → Bytes s → walk_archive s ≡ got a rest → (same s (archive_bytes a.sizes (rows_in a)) ≡ true) ↔ (a ≡ required a.sizes (rows_in a))
unfolding archive_bytes
walk_required s a rest b e = let f = walk_forth s a rest b e in (
  λ h. let k = same-eq s (archive_bytes a.sizes (rows_in a)) h in cc (sym e ∙ ap walk_archive k ∙ walked a.sizes (rows_in a) (walkable_limits a f.0)),
  λ h. let k : s ≡ archive_bytes a.sizes (rows_in a) = f.1 ∙ ap layout h in ap (same s) (sym k) ∙ same_refl s,
)

pub twelve_iff : (s : List ℕ) (a : Held) (rest : List ℕ) → Bytes s → walk_archive s ≡ got a rest → (read_archive s ≡ stop 12) ↔ (a ≢ required a.sizes (rows_in a))
unfolding read_archive
twelve_iff s a rest b e =
    let r = walk_required s a rest b e in
    let t : read_archive s ≡ judged s a rest = then_on (judged s) e in
    let u = stopped_iff (same s (archive_bytes a.sizes (rows_in a))) 12 a rest in
    (λ h k. u.0 (sym t ∙ h) (r.1 k), λ h. t ∙ u.1 (λ k. h (r.0 k)))
