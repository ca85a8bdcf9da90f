-- Loops over things to read: what is left of them, read from the present place on, ends as all of them.
use mathlib.Core.Path.{◌≡◌, ap, ◌∙◌}
use mathlib.Core.List.{List, [], ◌∷◌}
use Prim.Native.Nat.{ℕ, suc, ◌+◌, ◌-◌, ◌≤◌, ◌<◌}
use native.Mathlib.Numerals.{add-one}
use native.Mathlib.Omega.{arith}
use lib.ListN.{length, get_or, drop, drop_of_length-le}
use lib.Seq.{drop-cons}
use Rattle.std.specs.Prelude.{Ok}
use Rattle.fields_walk.specs.Parsed.{Parsed, stop, got, consed, many}
use Rattle.fields_walk.specs.Fields.{field, codes}
use Rattle.fields_walk.specs.Walked.{Says}
use Rattle.fields_walk.proofs.Steps.{Reader, then_on, then_off, behind}

-- what is read from the second place on ends as what is read from the first
pub record Follows {A : Type 0} (s : List ℕ) (p q : Parsed A) : Type 0 where
  pub off : {n : ℕ} → p ≡ stop n → q ≡ stop n
  pub on : {k : ℕ} → Says s p (Ok k) → Says s q (Ok k)

pub follows_self : {A : Type 0} (s : List ℕ) (p : Parsed A) → Follows s p p
follows_self s p = record { off = λ h. h; on = λ h. h }

-- a first thing and more behind it: where the first was read, and where it stopped
module _ {A : Type 0} {s : List ℕ} {p whole : Parsed (List A)} (i : Follows s p whole) {q : Parsed A} (more : A → Reader (List A)) (e : p ≡ consed q more) where
  pub step_on : {x : A} {rest : List ℕ} → q ≡ got x rest → Follows s (more x rest) whole
  step_on {x} {rest} f = record {
    off = λ h. i.off (e ∙ then_on (behind more) f ∙ then_off (λ xs rest'. got (x ∷ xs) rest') h);
    on = λ h. i.on (x ∷ h.0, e ∙ then_on (behind more) f ∙ then_on (λ xs rest'. got (x ∷ xs) rest') h.1, h.2);
  }

  pub step-off : {n : ℕ} → q ≡ stop n → whole ≡ stop n
  step-off {n} f = i.off (e ∙ then_off (behind more) f)

-- nothing is left to read
pub step-done : {A : Type 0} {s : List ℕ} {at : ℕ} {p whole : Parsed (List A)} → Follows s p whole → p ≡ got [] (drop at s) → at ≤ length s → Says s whole (Ok at)
step-done {at = at} i e h = i.on ([], e, h)

-- a loop over n things at its thing i: it was read, it stopped, or none is left
module _ {A : Type 0} {s : List ℕ} (f : Reader A) (at i n : ℕ) {whole : Parsed (List A)} (v : Follows s (many (n - i) f (drop at s)) whole) where
  many-left : i < n → many (n - i) f (drop at s) ≡ consed (f (drop at s)) (λ x. many (n - (i + 1)) f)
  unfolding many
  many-left h = let e : n - i ≡ suc (n - (i + 1)) = omega arith in ap (λ k. many k f (drop at s)) e

  pub many_on : {x : A} {rest : List ℕ} → i < n → f (drop at s) ≡ got x rest → Follows s (many (n - (i + 1)) f rest) whole
  many_on h e = step_on v (λ x. many (n - (i + 1)) f) (many-left h) e

  pub many-off : {k : ℕ} → i < n → f (drop at s) ≡ stop k → whole ≡ stop k
  many-off h e = step-off v (λ x. many (n - (i + 1)) f) (many-left h) e

  pub many-done : n ≤ i → at ≤ length s → Says s whole (Ok at)
  unfolding many
  many-done h l = let e : n - i ≡ 0 = omega arith in step-done v (ap (λ k. many k f (drop at s)) e) l

-- a loop over codes, each below its size
module _ {s : List ℕ} (zs : List ℕ) (at i : ℕ) {whole : Parsed (List ℕ)} (v : Follows s (codes (drop i zs) (drop at s)) whole) where
  codes-left : i < length zs → codes (drop i zs) (drop at s) ≡ consed (field 0 (get_or zs i 0) 6 (drop at s)) (λ a. codes (drop (i + 1) zs))
  unfolding codes
  codes-left h = rw (add-one, drop-cons zs i 0 h)

  pub codes_on : {x : ℕ} {rest : List ℕ} → i < length zs → field 0 (get_or zs i 0) 6 (drop at s) ≡ got x rest → Follows s (codes (drop (i + 1) zs) rest) whole
  codes_on h e = step_on v (λ a. codes (drop (i + 1) zs)) (codes-left h) e

  pub codes-off : {k : ℕ} → i < length zs → field 0 (get_or zs i 0) 6 (drop at s) ≡ stop k → whole ≡ stop k
  codes-off h e = step-off v (λ a. codes (drop (i + 1) zs)) (codes-left h) e

  pub codes-done : length zs ≤ i → at ≤ length s → Says s whole (Ok at)
  unfolding codes
  codes-done h l = step-done v (ap (λ (k : List ℕ). codes k (drop at s)) (drop_of_length-le zs h)) l
