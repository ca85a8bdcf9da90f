-- An archive read from its bytes, with its stops in checking order (document 01): 1 to 12.
--
--   rising zs x         codes below the sizes zs (6), strictly after codes x of the entry before (7; no codes come before any)
--   fair total z n      a count n that is not 0, a sum z that so many readings can make, and no more than 1,048,576 with the total of the counts before
--   amount total        the sum and the count of an entry (8)
--   list                the list count (9) and the list
--   entry, entries      a base entry, and n of them: each is told the codes before it and the total count before it
--   bases zs            the base count (5) and the base entries
--   cell d, cells d     a normal entry, and the normal count with the normal entries: fields of any value
--   walk_archive s       what the fields of s hold, or the first of the stops 1 to 11
--   archive_answer p     what the code answers for what was read: D, the base count and the normal count, or the stop's number
--   Stored p ws         the words ws have the base rows that were read
--   judged s a rest     stop 12, unless s is the archive that the sizes and base rows of a require
--   read_archive s       the sizes and base rows of s, or the first stop: 12 if the entries are not what the base rows require
use Rattle.std.specs.Prelude.{◌≡◌, Bool, ◌&&◌, List, [], map, ℕ, zero, suc, ◌+◌, leb, ℤ, length, Result, Ok, Err}
use Rattle.lists.specs.Order.{earlier, same}
use Rattle.fields_walk.specs.Parsed.{Parsed, stop, got, and_then, stop_unless, consed, many}
use Rattle.fields_walk.specs.Fields.{word, sum, field, codes, header, close}
use Rattle.cube.specs.declared.Total.{Total}
use Rattle.cube.specs.Measure.{Row}
use Rattle.cube.specs.Bounds.{most, can_make}
use Rattle.rows.specs.Rows.{rows_of}
use Rattle.archive_entries.specs.declared.Shape.{Shape}
use Rattle.archive_entries.specs.Layout.{CUBE, Based, Held, archive_bytes}

unfoldable pub rising : List ℕ → List ℕ → List ℕ → Parsed (List ℕ)
rising zs before l = and_then (codes zs l) (λ x rest. stop_unless (earlier before x) 7 (got x rest))

unfoldable pub fair : ℕ → ℤ → ℕ → Bool
fair total z n = leb 1 n && (can_make n z && leb (total + n) most)

unfoldable pub amount : ℕ → List ℕ → Parsed Total
amount total l =
    and_then (sum l) (λ z rest. and_then (word rest) (λ n rest'. stop_unless (fair total z n) 8 (got (record { sum = z; count = n }) rest')))

unfoldable pub list : List ℕ → Parsed (List ℕ)
list l = and_then (field 0 71 9 l) (λ n. many n word)

unfoldable pub entry : List ℕ → List ℕ → ℕ → List ℕ → Parsed Based
entry zs before total l =
    and_then (rising zs before l) (λ x rest. and_then (amount total rest) (λ t rest'. and_then (list rest') (λ ss rest''.
    got (record { row = record { codes = x; total = t }; list = ss }) rest'')))

unfoldable pub entries : List ℕ → ℕ → List ℕ → ℕ → List ℕ → Parsed (List Based)
entries zs zero before total l = got [] l
entries zs (suc n) before total l = consed (entry zs before total l) (λ e. entries zs n e.row.codes (total + e.row.total.count))

unfoldable pub bases : List ℕ → List ℕ → Parsed (List Based)
bases zs l = and_then (field 0 1025 5 l) (λ n. entries zs n [] 0)

unfoldable pub cell : ℕ → List ℕ → Parsed (Row Total)
cell d l =
    and_then (many d word l) (λ x rest. and_then (sum rest) (λ z rest'. and_then (word rest') (λ n rest''.
    got (record { codes = x; total = record { sum = z; count = n } }) rest'')))

unfoldable pub cells : ℕ → List ℕ → Parsed (List (Row Total))
cells d l = and_then (word l) (λ n. many n (cell d))

unfoldable pub walk_archive : List ℕ → Parsed Held
walk_archive s =
    and_then (header CUBE s) (λ zs l. and_then (bases zs l) (λ bs l. and_then (cells (length zs) l) (λ cs l.
    and_then (close s l) (λ u rest. got (record { sizes = zs; bases = bs; cells = cs }) rest))))

-- the base rows that an archive's fields hold
abbrev pub rows_in : Held → List (Row Total)
rows_in a = map (λ b. b.row) a.bases

abbrev pub archive_answer : Parsed Held → Result Shape ℕ
archive_answer (stop n) = Err n
archive_answer (got a rest) = Ok (record { dims = length a.sizes; bases = length a.bases; cells = length a.cells })

abbrev pub Stored : Parsed Held → List ℕ → Type 0
Stored (stop n) ws = Unit {0}
Stored (got a rest) ws = rows_of (length a.sizes) (length a.bases) ws ≡ rows_in a

abbrev pub judged : List ℕ → Held → List ℕ → Parsed Held
judged s a rest = stop_unless (same s (archive_bytes a.sizes (rows_in a))) 12 (got a rest)

unfoldable pub read_archive : List ℕ → Parsed Held
read_archive s = and_then (walk_archive s) (judged s)
