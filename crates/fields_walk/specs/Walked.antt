-- How the code says what was read of the bytes s: the place, counted from the first byte, at which the bytes behind begin, or the stop.
--
--   Says s p r       r says that p was read: the same stop, or a value and the bytes behind the place
--   Walked s p r     the same as a record, which code's contracts name
--   Tells s n p r    the same of a field for which the caller names the stop n: none is that stop
--   Tested s n p r   the same as a record
use Rattle.std.specs.Prelude.{◌≡◌, List, ℕ, ◌≤◌, length, drop, Option, Some, None, Result, Ok, Err}
use Rattle.stops.specs.declared.Stop.{Stop}
use Rattle.stops.specs.Numbers.{number}
use Rattle.fields_walk.specs.Parsed.{Parsed, stop, got}

abbrev pub Says : {A : Type 0} → List ℕ → Parsed A → Result ℕ Stop → Type 0
Says s p (Err e) = p ≡ stop (number e)
Says {A} s p (Ok k) = (v : A) × (p ≡ got v (drop k s)) × (k ≤ length s)

pub record Walked {A : Type 0} (s : List ℕ) (p : Parsed A) (r : Result ℕ Stop) : Type 0 where
  pub says : Says s p r

abbrev pub Tells : {A : Type 0} → List ℕ → ℕ → Parsed A → Result (Option ℕ) Stop → Type 0
Tells s n p (Err e) = Says s p (Err e)
Tells s n p (Ok None) = p ≡ stop n
Tells s n p (Ok (Some k)) = Says s p (Ok k)

pub record Tested {A : Type 0} (s : List ℕ) (n : ℕ) (p : Parsed A) (r : Result (Option ℕ) Stop) : Type 0 where
  pub tells : Tells s n p r
