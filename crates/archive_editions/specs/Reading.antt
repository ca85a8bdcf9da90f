-- An archive read from its bytes, with its stops in checking order (documents 01 and 02): 1 to 8, 19, 9 to 12. One reading for all formats.
--
--   extremes E t        the edition's words for the extremes of an entry with sum and count t (19)
--   list limit          the list count (9) and the list
--   entry, entries      a base entry, and n of them: each is told the codes before it and the total count before it
--   bases F h           the base count (5) and the base entries
--   cells F h           the normal count with the normal entries: words of any value
--   walk F s            what the fields of s hold, or the first of the stops 1 to 11 and 19
--   rows_in a           the base rows that an archive's fields hold
--   judged F s a rest   stop 12, unless s is the archive that the header and base rows of a require
--   read F s            the header and base rows of s, or the first stop: 12 if the entries are not what the base rows require
--   walk_both s, read_both s    the walk and the reading of the edition that the opening names
--   convert s           the archive of edition two for one of edition one, or the first stop: any other opening is 1
use Rattle.std.specs.Prelude.{List, [], map, ℕ, zero, suc, ◌+◌}
use Rattle.lists.specs.Order.{same}
use Rattle.fields_walk.specs.Parsed.{Parsed, got, and_then, stop_unless, consed, many}
use Rattle.fields_walk.specs.Fields.{word, field, close}
use Rattle.cube.specs.declared.Total.{Total}
use Rattle.cube.specs.declared.Figures.{Figures}
use Rattle.cube.specs.declared.Extremes.{Extremes}
use Rattle.cube.specs.Measure.{Row}
use Rattle.archive_entries.specs.Reading.{rising, amount}
use Rattle.archive_editions.specs.Edition.{Edition}
use Rattle.archive_editions.specs.Format.{Format, one, two, format}
use Rattle.archive_editions.specs.Layout.{Based, Held, archive_bytes}

unfoldable pub extremes : Edition → Total → List ℕ → Parsed Extremes
extremes E t l = and_then (many E.extra word l) (λ ws rest. stop_unless (E.sound t ws) 19 (got (E.tells t ws) rest))

unfoldable pub list : ℕ → List ℕ → Parsed (List ℕ)
list limit l = and_then (field 0 limit 9 l) (λ n. many n word)

abbrev pub rows_in : {H : Type 0} → Held H → List (Row Figures)
rows_in a = map (λ b. b.row) a.bases

module _ {H : Type 0} (F : Format H) where
  unfoldable pub entry : List ℕ → List ℕ → ℕ → List ℕ → Parsed Based
  entry zs before total l =
      and_then (rising zs before l) (λ x rest. and_then (amount total rest) (λ t rest'. and_then (extremes F.edition t rest') (λ e rest''. and_then (list F.limit rest'') (λ ss rest'''.
      got (record { row = record { codes = x; total = record { sums = t; extremes = e } }; list = ss }) rest'''))))

  unfoldable pub entries : List ℕ → ℕ → List ℕ → ℕ → List ℕ → Parsed (List Based)
  entries zs zero before total l = got [] l
  entries zs (suc n) before total l = consed (entry zs before total l) (λ e. entries zs n e.row.codes (total + e.row.total.sums.count))

  unfoldable pub bases : H → List ℕ → Parsed (List Based)
  bases h l = and_then (field 0 1025 5 l) (λ n. entries (F.sizes h) n [] 0)

  unfoldable pub cells : H → List ℕ → Parsed (List (List ℕ))
  cells h l = and_then (word l) (λ n. many n (many (F.width h + 3 + F.edition.extra) word))

  unfoldable pub walk : List ℕ → Parsed (Held H)
  walk s =
      and_then (F.head s) (λ h l. and_then (bases h l) (λ bs l. and_then (cells h l) (λ cs l.
      and_then (close s l) (λ u rest. got (record { header = h; bases = bs; cells = cs }) rest))))

  abbrev pub judged : List ℕ → Held H → List ℕ → Parsed (Held H)
  judged s a rest = stop_unless (same s (archive_bytes F a.header (rows_in a))) 12 (got a rest)

  unfoldable pub read : List ℕ → Parsed (Held H)
  read s = and_then (walk s) (judged s)

abbrev pub walk_both : List ℕ → Parsed (Held (List ℕ))
walk_both s = walk (format s) s

abbrev pub read_both : List ℕ → Parsed (Held (List ℕ))
read_both s = read (format s) s

unfoldable pub convert : List ℕ → Parsed (List ℕ)
convert s = and_then (read one s) (λ a rest. got (archive_bytes two a.header (rows_in a)) rest)
