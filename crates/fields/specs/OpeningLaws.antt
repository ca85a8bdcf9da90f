-- Laws of an opening: the test and the front, byte by byte, and part by part.
use Rattle.std.specs.Prelude.{◌≡◌, refl, Bool, true, false, ◌&&◌, List, [], ◌∷◌, ◌++◌, ℕ, ◌+◌, ◌≤◌, ◌<◌, eqb, length, drop, get_or}
use Rattle.std.proofs.Common.{sym, ap, ap₂, ◌∙◌, add-one, arith, length-append, drop_of_length-le, drop-cons, eq-eqb, eqb-true}
use Rattle.std.proofs.lemmas.Bool.{false≢true}
use Rattle.std.proofs.Math.Bool.{and_assoc}
use Rattle.lists.proofs.Tests.{both}
use Rattle.fields.specs.Opening.{starts_with}

-- a list begins with its front
pub starts_append : (o l : List ℕ) → starts_with (o ++ l) o ≡ true
starts_append [] l = refl
starts_append (x ∷ o) l = rw (eq-eqb x x refl, starts_append o l)

-- and what begins with it is it and the rest
pub starts_is : (s o : List ℕ) → starts_with s o ≡ true → s ≡ o ++ drop (length o) s
starts_is s [] e = refl
starts_is [] (x ∷ o) e = absurd (false≢true e)
starts_is (y ∷ s) (x ∷ o) e =
    let r = both (eqb y x) (starts_with s o) e in
    ap₂ ◌∷◌ (eqb-true y x r.0) (starts_is s o r.1)

-- which is no longer than the list
pub starts_length : (s o : List ℕ) → starts_with s o ≡ true → length o ≤ length s
starts_length s o e = omega (arith, ap length (starts_is s o e), length-append o (drop (length o) s))

-- two parts one straight after the other
pub starts_with_append : (s o p : List ℕ) → starts_with s (o ++ p) ≡ starts_with s o && starts_with (drop (length o) s) p
starts_with_append s [] p = refl
starts_with_append [] (x ∷ o) p = refl
starts_with_append (y ∷ s) (x ∷ o) p =
    ap (λ (b : Bool). eqb y x && b) (starts_with_append s o p) ∙ sym (and_assoc (eqb y x) (starts_with s o) (starts_with (drop (length o) s) p))

-- the test at place i, and what is left after it
pub starts_at : (s o : List ℕ) (i : ℕ) → i < length s → i < length o
    → starts_with (drop i s) (drop i o) ≡ eqb (get_or s i 0) (get_or o i 0) && starts_with (drop (i + 1) s) (drop (i + 1) o)
starts_at s o i h k = rw (add-one, drop-cons s i 0 h, drop-cons o i 0 k)

-- the list ends before the opening does
pub starts_ended : (s o : List ℕ) (i : ℕ) → length s ≤ i → i < length o → starts_with (drop i s) (drop i o) ≡ false
starts_ended s o i h k = rw (drop_of_length-le s {i = i} h, drop-cons o i 0 k)
