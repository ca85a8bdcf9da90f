-- The fields that tables and archives share, and their stops in checking order (document 01). "At each field after the opening, number 2 goes first."
--
--   room width        so many bytes of any value: stop 2 if the input ends before the last of them
--   word, sum, reading    a field of any value
--   field low limit n a word: stop n unless it is at least low and below limit
--   codes zs          a code for each size of zs, below it: stop 6
--   sizes d           the sizes of d dimensions: stop 4
--   header opening    the opening (stop 1), D (stop 3) and the sizes
--   header_bytes opening zs  these as bytes
--   ended before w    w is the check word of the bytes before it: stop 10 if bytes follow it, then stop 11 if it is wrong
--   close s           the check word, which ends the bytes s
use Rattle.std.specs.Prelude.{◌&&◌, List, [], ◌∷◌, ◌++◌, ℕ, ◌-◌, eqb, leb, ltb, ℤ, length, take, drop}
use Rattle.fields.specs.Words.{word_at, word_bytes, words_bytes}
use Rattle.fields_sums.specs.Twos.{sum_at, reading_at}
use Rattle.fields.specs.Opening.{starts_with}
use Rattle.fields_check.specs.Check.{check_of}
use Rattle.fields_walk.specs.Parsed.{Parsed, got, and_then, stop_unless, consed, many}

unfoldable pub room : ℕ → List ℕ → Parsed (Unit {0})
room width l = stop_unless (leb width (length l)) 2 (got tt (drop width l))

unfoldable pub word : List ℕ → Parsed ℕ
word l = and_then (room 4 l) (λ u rest. got (word_at l 0) rest)

unfoldable pub sum : List ℕ → Parsed ℤ
sum l = and_then (room 8 l) (λ u rest. got (sum_at l 0) rest)

unfoldable pub reading : List ℕ → Parsed ℤ
reading l = and_then (room 4 l) (λ u rest. got (reading_at l 0) rest)

unfoldable pub field : ℕ → ℕ → ℕ → List ℕ → Parsed ℕ
field low limit n l = and_then (word l) (λ w rest. stop_unless (leb low w && ltb w limit) n (got w rest))

unfoldable pub codes : List ℕ → List ℕ → Parsed (List ℕ)
codes [] l = got [] l
codes (z ∷ zs) l = consed (field 0 z 6 l) (λ a. codes zs)

abbrev pub sizes : ℕ → List ℕ → Parsed (List ℕ)
sizes d = many d (field 1 65536 4)

unfoldable pub header : List ℕ → List ℕ → Parsed (List ℕ)
header opening l = stop_unless (starts_with l opening) 1 (and_then (field 1 9 3 (drop 4 l)) sizes)

abbrev pub header_bytes : List ℕ → List ℕ → List ℕ
header_bytes opening zs = opening ++ (word_bytes (length zs) ++ words_bytes zs)

abbrev pub ended : List ℕ → ℕ → List ℕ → Parsed (Unit {0})
ended before w rest = stop_unless (eqb (length rest) 0) 10 (stop_unless (eqb w (check_of before)) 11 (got tt rest))

unfoldable pub close : List ℕ → List ℕ → Parsed (Unit {0})
close s l = and_then (word l) (ended (take (length s - length l) s))
