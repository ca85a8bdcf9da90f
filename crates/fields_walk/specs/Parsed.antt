-- Reading bytes from the left (document 01: "The checks follow the bytes from the left, field by field").
--
--   Parsed A          a stop's number, or a value with the bytes behind it
--   and_then p next    goes on with the value and the bytes behind it; a stop stays
--   stop_unless b n p  stop n, unless the test b passed
--   consed p more     a first thing, and more behind it: the list of them
--   many n f          n things one after the other
use Rattle.std.specs.Prelude.{Bool, cond, List, [], ◌∷◌, ℕ, zero, suc}

pub data Parsed (A : Type 0) : Type 0 where
  stop : ℕ → Parsed A
  got : A → List ℕ → Parsed A

abbrev pub and_then : {A B : Type 0} → Parsed A → (A → List ℕ → Parsed B) → Parsed B
and_then (stop n) next = stop n
and_then (got v rest) next = next v rest

abbrev pub stop_unless : {A : Type 0} → Bool → ℕ → Parsed A → Parsed A
stop_unless b n p = cond b p (stop n)

abbrev pub consed : {A : Type 0} → Parsed A → (A → List ℕ → Parsed (List A)) → Parsed (List A)
consed p more = and_then p (λ x rest. and_then (more x rest) (λ xs rest'. got (x ∷ xs) rest'))

unfoldable pub many : {A : Type 0} → ℕ → (List ℕ → Parsed A) → List ℕ → Parsed (List A)
many zero f l = got [] l
many (suc n) f l = consed (f l) (λ x. many n f)
