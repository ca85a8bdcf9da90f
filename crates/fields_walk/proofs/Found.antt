-- What a reading finds at a place: where it ends, and what is known of the value. One thing behind another begins where the first ended.
use mathlib.Core.Path.{◌≡◌, refl, sym, ap, ap₂, subst, ◌∙◌}
use mathlib.Core.Bool.{Bool, true}
use mathlib.Core.List.{List, [], ◌∷◌}
use Prim.Native.Nat.{ℕ, zero, suc, ◌+◌, ◌*◌, ◌≤◌}
use native.Mathlib.Nat.{add-zero, suc-mul}
use native.Mathlib.Omega.{arith}
use lib.ListN.{length, drop}
use Rattle.fields.specs.Words.{word_at, words_at}
use Rattle.fields.specs.WordsLaws.{word_at_drop}
use Rattle.fields_sums.specs.Twos.{signed_of, sum_at, reading_at}
use Rattle.fields_walk.specs.Parsed.{got, and_then, stop_unless, consed, many}
use Rattle.fields_walk.specs.Fields.{room, word, sum, reading, field, codes}
use Rattle.fields_walk.proofs.Steps.{Reader, through, passed, value_rest}
use Rattle.fields_walk.proofs.Fields.{word-at-place, word-rest, field-got}

-- f, from a place of s on, ends at another place, and what it read has P
pub record Finds {A : Type 0} (s : List ℕ) (f : Reader A) (at end : ℕ) (P : A → Type 0) : Type 0 where
  pub found : (v : A) (rest : List ℕ) → at ≤ length s → f (drop at s) ≡ got v rest → (end ≤ length s) × (rest ≡ drop end s) × P v

module _ {A : Type 0} {s : List ℕ} {P : A → Type 0} where
  -- the same place, said otherwise
  pub finds_to : {f : Reader A} {at end to : ℕ} → end ≡ to → Finds s f at end P → Finds s f at to P
  finds_to {f} {at} e a = subst (λ (k : ℕ). Finds s f at k P) e a

  -- a value, and a value that is tested: no bytes
  pub finds_none : {at : ℕ} (x : A) → P x → Finds s (got x) at at P
  finds_none {at} x p = record { found = λ v rest h e. let q : x ≡ v = cc in let r : drop at s ≡ rest = cc in (h, sym r, subst P q p) }

  pub finds_if : {at : ℕ} (b : Bool) (n : ℕ) (x : A) → (b ≡ true → P x) → Finds s (λ rest. stop_unless b n (got x rest)) at at P
  finds_if {at} b n x p = record { found = λ v rest h e. let t = passed b (got x (drop at s)) n e in (finds_none x (p t.0)).found v rest h t.1 }

-- one thing behind another
pub finds_then : {A B : Type 0} {s : List ℕ} {f : Reader A} {g : A → Reader B} {at to end : ℕ} {P : A → Type 0} {Q : B → Type 0}
    → Finds s f at to P → ((x : A) → P x → Finds s (g x) to end Q) → Finds s (λ l. and_then (f l) g) at end Q
finds_then {s = s} {f} {g} {at} a b = record {
  found = λ v rest h e.
      let t = through (f (drop at s)) g e in
      let r = a.found t.0 t.1 h t.2 in
      (b t.0 r.2).found v rest r.0 (ap (g t.0) (sym r.1) ∙ t.3);
}

-- ---- lists

module _ {A : Type 0} {s : List ℕ} {f : Reader A} where
  pub finds_cons : {more : Reader (List A)} {at to end : ℕ} {x : A} {xs : List A} → Finds s f at to (λ v. v ≡ x) → Finds s more to end (λ vs. vs ≡ xs)
      → Finds s (λ l. consed (f l) (λ v. more)) at end (λ vs. vs ≡ x ∷ xs)
  finds_cons a b = finds_then a (λ v p. finds_then b (λ vs q. finds_none (v ∷ vs) (ap₂ ◌∷◌ p q)))

  -- n things of equal width
  module _ (width : ℕ) {there : ℕ → A} (each : (at : ℕ) → Finds s f at (at + width) (λ v. v ≡ there at)) (all : ℕ → ℕ → List A) (none : (at : ℕ) → all 0 at ≡ [])
      (some : (n at : ℕ) → all (suc n) at ≡ there at ∷ all n (at + width)) where
    pub finds_many : (n at : ℕ) → Finds s (many n f) at (at + n * width) (λ vs. vs ≡ all n at)
    unfolding many
    finds_many zero at = let e : at ≡ at + 0 * width = omega arith in finds_to e (finds_none [] (sym (none at)))
    finds_many (suc n) at =
        let e : at + width + n * width ≡ at + suc n * width = rw suc-mul (omega arith) in
        rw (some n at) (finds_to e (finds_cons (each at) (finds_many n (at + width))))

-- ---- fields

-- a sum at a place
pub sum-at-place : (s : List ℕ) (at : ℕ) → sum_at (drop at s) 0 ≡ sum_at s at
unfolding sum_at
sum-at-place s at = simp (word_at_drop, add-zero)

module _ (s : List ℕ) where
  finds_value : {A : Type 0} (width : ℕ) (value : List ℕ → A) {at : ℕ} {x : A} → value (drop at s) ≡ x
      → Finds s (λ l. and_then (room width l) (λ u rest. got (value l) rest)) at (at + width) (λ v. v ≡ x)
  finds_value width value {at} i = record { found = λ v rest h e. let r = value_rest s at width h value e in (r.0, r.1, r.2 ∙ i) }

  pub finds_word : (at : ℕ) → Finds s word at (at + 4) (λ n. n ≡ word_at s at)
  unfolding word
  finds_word at = finds_value 4 (λ l. word_at l 0) (word-at-place s at)

  pub finds_sum : (at : ℕ) → Finds s sum at (at + 8) (λ z. z ≡ sum_at s at)
  unfolding sum
  finds_sum at = finds_value 8 (λ l. sum_at l 0) (sum-at-place s at)

  pub finds_reading : (at : ℕ) → Finds s reading at (at + 4) (λ z. z ≡ reading_at s at)
  unfolding reading reading_at
  finds_reading at = finds_value 4 (λ l. reading_at l 0) (ap (signed_of 32) (word-at-place s at))

  pub finds_field : (low limit n at : ℕ) → Finds s (field low limit n) at (at + 4) (λ v. v ≡ word_at s at)
  finds_field low limit n at = record { found = λ v rest h e. word-rest s at h (field-got low limit n (drop at s) e).0 }

  pub finds_codes : (zs : List ℕ) (at : ℕ) → Finds s (codes zs) at (at + 4 * length zs) (λ x. x ≡ words_at s (length zs) at)
  unfolding codes words_at
  finds_codes [] at = let e : at ≡ at + 4 * 0 = omega arith in finds_to e (finds_none [] refl)
  finds_codes (z ∷ zs) at =
      let e : at + 4 + 4 * length zs ≡ at + 4 * suc (length zs) = omega arith in
      finds_to e (finds_cons (finds_field 0 z 6 at) (finds_codes zs (at + 4)))

  -- n fields that are words
  pub finds_all : {f : Reader ℕ} → ((at : ℕ) → Finds s f at (at + 4) (λ v. v ≡ word_at s at)) → (n at : ℕ) → Finds s (many n f) at (at + 4 * n) (λ ws. ws ≡ words_at s n at)
  unfolding words_at
  finds_all each n at = let e : at + n * 4 ≡ at + 4 * n = omega arith in finds_to e (finds_many 4 each (words_at s) (λ at. refl) (λ n at. refl) n at)

  pub finds_words : (n at : ℕ) → Finds s (many n word) at (at + 4 * n) (λ ws. ws ≡ words_at s n at)
  finds_words = finds_all finds_word
