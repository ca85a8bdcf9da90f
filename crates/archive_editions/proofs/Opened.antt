-- The reader that takes both editions by their opening, and edition one as edition two.
use mathlib.Core.Path.{◌≡◌, refl, sym, ap, ◌∙◌}
use mathlib.Core.Logic.{◌↔◌}
use mathlib.Core.Bool.{true, false}
use mathlib.Core.List.{List, []}
use Prim.Native.Nat.{ℕ}
use Rattle.fields.specs.Opening.{starts_with}
use Rattle.fields.specs.OpeningLaws.{starts_is}
use Rattle.fields_walk.specs.Parsed.{stop, got}
use Rattle.fields_walk.specs.Fields.{header}
use Rattle.fields_walk.specs.Limits.{Bytes}
use Rattle.fields_walk.proofs.Steps.{then_on, then_off, through_map}
use Rattle.cube.specs.declared.Figures.{Figures}
use Rattle.cube.specs.Measure.{Row}
use Rattle.archive_entries.specs.Layout.{CUBE}
use Rattle.archive_editions.specs.Edition.{Edition}
use Rattle.archive_editions.specs.Format.{CUB2, sets_format, one, two, format}
use Rattle.archive_editions.specs.Layout.{Held, layout, required, archive_bytes, Limits}
use Rattle.archive_editions.specs.Reading.{walk, rows_in, read, read_both, convert}
use Rattle.archive_editions.proofs.Editions.{kept-two}
use Rattle.archive_editions.proofs.Formats.{one_headed, two_headed, one_lawful, two_lawful, format_lawful}
use Rattle.archive_editions.proofs.Accepted.{required-rows, required-header, archive_back, archive_forth, accepted_iff}

-- Another opening than the format's is stop 1.
pub opening-off : (opening : List ℕ) (E : Edition) (s : List ℕ) → starts_with s opening ≡ false → read (sets_format opening E) s ≡ stop 1
unfolding read walk header
opening-off opening E s e = rw e

pub other_opening : (s : List ℕ) → starts_with s CUBE ≡ false → starts_with s CUB2 ≡ false → read_both s ≡ stop 1
other_opening s e f = rw f (opening-off CUBE one.edition s e)

-- An archive of one edition is none of the other.
two_alone : (s : List ℕ) → starts_with s CUB2 ≡ true → starts_with s CUBE ≡ false
two_alone s e = rw (starts_is s CUB2 e)

one_alone : (s : List ℕ) → starts_with s CUBE ≡ true → starts_with s CUB2 ≡ false
one_alone s e = rw (starts_is s CUBE e)

pub two_not_one : (s : List ℕ) → starts_with s CUB2 ≡ true → read one s ≡ stop 1
two_not_one s e = opening-off CUBE one.edition s (two_alone s e)

pub one_not_two : (s : List ℕ) → starts_with s CUBE ≡ true → read two s ≡ stop 1
one_not_two s e = opening-off CUB2 two.edition s (one_alone s e)

-- The opening tells the edition of what we write,
pub format_one : (zs : List ℕ) (rows : List (Row Figures)) → format (archive_bytes one zs rows) ≡ one
unfolding archive_bytes layout
format_one zs rows = refl

pub format_two : (zs : List ℕ) (rows : List (Row Figures)) → format (archive_bytes two zs rows) ≡ two
unfolding archive_bytes layout
format_two zs rows = refl

-- and the reader takes both, and reads back what was written.
pub one_back : (zs : List ℕ) (rows : List (Row Figures)) → Limits one zs rows → read_both (archive_bytes one zs rows) ≡ got (required one zs rows) []
one_back zs rows l = ap (λ F. read F (archive_bytes one zs rows)) (format_one zs rows) ∙ archive_back one one_lawful zs rows l

pub two_back : (zs : List ℕ) (rows : List (Row Figures)) → Limits two zs rows → read_both (archive_bytes two zs rows) ≡ got (required two zs rows) []
two_back zs rows l = ap (λ F. read F (archive_bytes two zs rows)) (format_two zs rows) ∙ archive_back two two_lawful zs rows l

-- It accepts just the archives of the edition that the opening names.
pub both_iff : (s : List ℕ) → Bytes s
    → ((a : Held (List ℕ)) × (read_both s ≡ got a [])) ↔ ((zs : List ℕ) × (rows : List (Row Figures)) × Limits (format s) zs rows × (s ≡ archive_bytes (format s) zs rows))
both_iff s b = accepted_iff (format s) (format_lawful s) s b

-- ---- edition one as edition two

-- Base rows of edition one are base rows of edition two.
pub limits_two : (zs : List ℕ) (rows : List (Row Figures)) → Limits one zs rows → Limits two zs rows
limits_two zs rows l = record {
  headed = (two_headed zs).1 ((one_headed zs).0 l.headed);
  few = l.few;
  rising = l.rising;
  each = λ r m. let f = l.each r m in record {
    below = f.below;
    counted = f.counted;
    made = f.made;
    kept = (kept-two r.total.sums r.total.extremes).1 (one_lawful.tells.suited r.total.sums r.total.extremes f.made f.kept);
  };
  counts = l.counts;
}

-- An archive of edition one is converted to that of edition two for the base rows that it tells;
pub convert_is : (zs : List ℕ) (rows : List (Row Figures)) → Limits one zs rows → convert (archive_bytes one zs rows) ≡ got (archive_bytes two zs rows) []
unfolding convert
convert_is zs rows l =
    then_on (λ a rest. got (archive_bytes two a.header (rows_in a)) rest) (archive_back one one_lawful zs rows l)
    ∙ rw (required-header one zs rows, required-rows one zs rows)

-- it is accepted, and the same base rows are read from it;
pub converted_back : (zs : List ℕ) (rows : List (Row Figures)) → Limits one zs rows → read_both (archive_bytes two zs rows) ≡ got (required two zs rows) []
converted_back zs rows l = two_back zs rows (limits_two zs rows l)

-- what is converted is such an archive;
pub convert_forth : (s t rest : List ℕ) → Bytes s → convert s ≡ got t rest
    → (zs : List ℕ) × (rows : List (Row Figures)) × Limits one zs rows × (s ≡ archive_bytes one zs rows) × (t ≡ archive_bytes two zs rows) × (rest ≡ [])
unfolding convert
convert_forth s t rest b e =
    let r = through_map (λ a. archive_bytes two a.header (rows_in a)) (read one s) e in
    let f = archive_forth one one_lawful s r.0 rest b r.1 in
    (r.0.header, rows_in r.0, f.0, f.1, sym r.2, f.3)

-- an archive of edition two stops with 1.
pub convert_two : (s : List ℕ) → starts_with s CUB2 ≡ true → convert s ≡ stop 1
unfolding convert
convert_two s e = then_off (λ a rest. got (archive_bytes two a.header (rows_in a)) rest) (two_not_one s e)
