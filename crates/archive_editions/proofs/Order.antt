-- Where stop 19 comes: for a base entry whose codes, sum and count have passed, before the list's stop 9.
use mathlib.Core.Path.{◌≡◌, refl, sym, ap, subst, ◌∙◌}
use mathlib.Core.Logic.{◌≢◌, ◌↔◌, ◌⊎◌}
use mathlib.Core.Bool.{Bool, true, false}
use mathlib.Core.List.{List, [], ◌∷◌}
use Prim.Native.Nat.{ℕ, zero, suc}
use native.Mathlib.Omega.{arith}
use lib.IntN.{ℤ}
use Rattle.fields_sums.specs.Twos.{signed_of}
use Rattle.fields_walk.specs.Parsed.{Parsed, stop, got, and_then, stop_unless, many}
use Rattle.fields_walk.specs.Fields.{room, word, sum, field}
use Rattle.fields_walk.proofs.Steps.{Reader, then_on, then_off, through, passed}
use Rattle.cube.specs.declared.Total.{Total}
use Rattle.cube.specs.declared.Extremes.{Extremes}
use Rattle.cube.specs.Making.{Make, Span}
use Rattle.archive_entries.specs.Reading.{rising, fair, amount}
use Rattle.archive_entries.proofs.Fair.{fair_true}
use Rattle.archive_editions.specs.Edition.{edition_two}
use Rattle.archive_editions.specs.Format.{two}
use Rattle.archive_editions.specs.Layout.{Based}
use Rattle.archive_editions.specs.Reading.{extremes, list, entry}
use Rattle.archive_editions.proofs.Stops.{nineteen_iff}

-- a reader has only such stops
abbrev Only : {A : Type 0} → (ℕ → Type 0) → Parsed A → Type 0
Only P (stop n) = P n
Only P (got x rest) = Unit {0}

module _ (P : ℕ → Type 0) where
  only_then : {A B : Type 0} (p : Parsed A) (next : A → Reader B) → Only P p → ((x : A) (l : List ℕ) → Only P (next x l)) → Only P (and_then p next)
  only_then (stop n) next h k = h
  only_then (got x rest) next h k = k x rest

  only_test : {A : Type 0} (b : Bool) (n : ℕ) (x : A) (rest : List ℕ) → P n → Only P (stop_unless b n (got x rest))
  only_test true n x rest h = tt
  only_test false n x rest h = h

  only_many : {A : Type 0} (f : Reader A) → ((l : List ℕ) → Only P (f l)) → (n : ℕ) (l : List ℕ) → Only P (many n f l)
  unfolding many
  only_many f h zero l = tt
  only_many f h (suc n) l = only_then (f l) _ (h l) (λ x m. only_then (many n f m) _ (only_many f h n m) (λ xs r. tt))

  only_word : P 2 → (l : List ℕ) → Only P (word l)
  unfolding word room
  only_word h l = only_then (room 4 l) _ (only_test _ 2 tt _ h) (λ u rest. tt)

  only_list : P 2 → P 9 → (limit : ℕ) (l : List ℕ) → Only P (list limit l)
  unfolding list field
  only_list h k limit l = only_then (field 0 limit 9 l) _ (only_then (word l) _ (only_word h l) (λ w rest. only_test _ 9 w rest k)) (λ n m. only_many word (only_word h) n m)

-- what was read of a sum and a count passed 8
amount-fair : (total : ℕ) (l : List ℕ) {t : Total} {rest : List ℕ} → amount total l ≡ got t rest → fair total t.sum t.count ≡ true
unfolding amount
amount-fair total l {t} {rest} e =
    let a = through (sum l) (λ z m. and_then (word m) (λ n r. stop_unless (fair total z n) 8 (got (record { sum = z; count = n }) r))) e in
    let b = through (word a.1) (λ n r. stop_unless (fair total a.0 n) 8 (got (record { sum = a.0; count = n }) r)) a.3 in
    let c = passed (fair total a.0 b.0) (got (record { sum = a.0; count = b.0 }) b.1) 8 b.3 in
    let q : record { sum = a.0; count = b.0 } ≡ t = cc c.1 in
    ap (λ (u : Total). fair total u.sum u.count) (sym q) ∙ c.0

-- what comes behind the extremes
abbrev ends : List ℕ → Total → Extremes → List ℕ → Parsed Based
ends x t e l = and_then (list two.limit l) (λ ss rest. got (record { row = record { codes = x; total = record { sums = t; extremes = e } }; list = ss }) rest)

module _ (zs before : List ℕ) (total : ℕ) (l : List ℕ) {x m n : List ℕ} {t : Total} (e : rising zs before l ≡ got x m) (f : amount total m ≡ got t n) where
  behind : entry two zs before total l ≡ and_then (extremes edition_two t n) (ends x t)
  unfolding entry
  behind =
      then_on (λ y rest. and_then (amount total rest) (λ u rest'. and_then (extremes edition_two u rest') (ends y u))) e
      ∙ then_on (λ u rest'. and_then (extremes edition_two u rest') (ends x u)) f

  -- behind codes, sum and count an entry stops with 19 just if its extremes do
  entry_extremes : (entry two zs before total l ≡ stop 19) ↔ (extremes edition_two t n ≡ stop 19)
  entry_extremes = (λ h. go (extremes edition_two t n) (sym behind ∙ h), λ h. behind ∙ then_off (ends x t) h)
    where
      go : (p : Parsed Extremes) → and_then p (ends x t) ≡ stop 19 → p ≡ stop 19
      go (stop k) h = let q : k ≡ 19 = cc in ap stop q
      go (got y rest) h =
          let o = only_then (λ k. k ≢ 19) (list two.limit rest) _ (only_list (λ k. k ≢ 19) (λ i. omega (arith, i)) (λ i. omega (arith, i)) two.limit rest) (λ ss r. tt) in
          absurd (subst (Only (λ k. k ≢ 19)) h o refl)

  -- So a base entry whose codes, sum and count have passed stops with 19 just if its known field is neither 0 nor 1, or it is 0 and the least or the greatest is not,
  -- or it is 1 and no readings, as many as the count, make the sum and have these for their least and greatest.
  pub entry_nineteen : {k a b : ℕ} {rest : List ℕ} → many 3 word n ≡ got (k ∷ a ∷ b ∷ []) rest
      → (entry two zs before total l ≡ stop 19)
      ↔ (((k ≢ 0) × (k ≢ 1)) ⊎ (((k ≡ 0) × ((a ≢ 0) ⊎ (b ≢ 0))) ⊎ ((k ≡ 1) × ((zs : List ℤ) × Make zs t × Span zs (signed_of 32 a) (signed_of 32 b) → ⊥))))
  entry_nineteen h =
      let q = fair_true total t.sum t.count (amount-fair total m f) in
      let u = nineteen_iff t n q.0 q.1 h in
      (λ r. u.0 (entry_extremes.0 r), λ r. entry_extremes.1 (u.1 r))
