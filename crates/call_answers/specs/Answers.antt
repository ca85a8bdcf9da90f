-- What a call that writes an output returns and leaves there (document 01: "The question is looked at after the whole file, and the output last"; "A stop returns its number only; inputs and output keep every byte").
--
--   Outcome             what the input alone settles: a stop, or the bytes of the result
--   refuse_unless b n o  stop n, unless the test b passed
--   within room o       stop 15 where the result is longer than the output that is lent
--   answer_of o          what the call says for an outcome: the length, or the stop's number
--   left_of o l          what is left in the output l
--   Answered o l m r    the call whose outcome is o was lent l, leaves m there, and returns r
use Rattle.std.specs.Prelude.{◌≡◌, Bool, cond, List, ℕ, leb, length, Result, Ok, Err}
use Rattle.stops.specs.declared.Stop.{Stop}
use Rattle.stops.specs.Numbers.{numbered}
use Rattle.fields.specs.Written.{written}

pub data Outcome : Type 0 where
  stop : ℕ → Outcome
  bytes : List ℕ → Outcome

abbrev pub refuse_unless : Bool → ℕ → Outcome → Outcome
refuse_unless b n o = cond b o (stop n)

abbrev pub within : ℕ → Outcome → Outcome
within room (stop n) = stop n
within room (bytes xs) = refuse_unless (leb (length xs) room) 15 (bytes xs)

abbrev pub answer_of : Outcome → Result ℕ ℕ
answer_of (stop n) = Err n
answer_of (bytes xs) = Ok (length xs)

-- output bytes beyond the result keep their values
abbrev pub left_of : Outcome → List ℕ → List ℕ
left_of (stop n) l = l
left_of (bytes xs) l = written xs l

pub record Answered (o : Outcome) (l m : List ℕ) (r : Result ℕ Stop) : Type 0 where
  pub answer : numbered r ≡ answer_of (within (length l) o)
  pub output : m ≡ left_of (within (length l) o) l
