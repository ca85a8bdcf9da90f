-- Document 01's five rows, by computation: from the table's bytes through builder and lister to the text.
use mathlib.Core.Path.{◌≡◌, refl}
use mathlib.Core.List.{List, [], ◌∷◌, flat_map}
use Prim.Native.Nat.{ℕ}
use lib.IntN.{pos}
use lib.Count.{ones, ones_in}
use Rattle.fields.specs.Words.{word_at, words, words_bytes}
use Rattle.fields_sums.specs.Twos.{reading_at, sum_at}
use Rattle.fields_check.specs.Check.{check_of}
use Rattle.lattice.specs.Sets.{sets}
use Rattle.fields_walk.specs.Parsed.{many}
use Rattle.fields_walk.specs.Fields.{room, word, sum, reading, field, codes, header, close}
use Rattle.cube.specs.declared.Total.{Total}
use Rattle.cube.specs.Measure.{Row}
use Rattle.cube.specs.Bounds.{can_make}
use Rattle.cube.specs.Cube.{cuboid, total, grouped}
use Rattle.cube.specs.Condensed.{proper, single, listed, shared, common, normals}
use Rattle.cube.specs.Table.{folded}
use Rattle.table.specs.Layout.{table_bytes}
use Rattle.table.specs.Reading.{row, body, read_table}
use Rattle.archive_entries.specs.Layout.{cell_bytes, base_bytes, layout, required, archive_bytes}
use Rattle.archive_entries.specs.Reading.{rising, fair, amount, list, entry, entries, bases, cell, cells, walk_archive, read_archive}
use Rattle.call_answers.specs.Calls.{builds}
use Rattle.text_decimals.specs.Decimals.{ascii, digits_in, decimal, integer}
use Rattle.text_lines.specs.Lines.{code_text, row_text, set_text, base_text, cell_text, head_text}
use Rattle.text_listing.specs.Listing.{listing}
use Rattle.program_texts.specs.Programs.{refused, builder, lister}

abbrev read : List ℕ → ℕ → Row Total
read x n = record { codes = x; total = record { sum = pos n; count = 1 } }

abbrev five : List ℕ
five = table_bytes (record { sizes = 7 ∷ 6 ∷ 3 ∷ []; rows = read (0 ∷ 1 ∷ 1 ∷ []) 50 ∷ read (1 ∷ 1 ∷ 1 ∷ []) 100 ∷ read (2 ∷ 3 ∷ 1 ∷ []) 60 ∷ read (4 ∷ 5 ∷ 1 ∷ []) 70 ∷ read (6 ∷ 5 ∷ 2 ∷ []) 80 ∷ [] })

pub five_printed : lister (builder five)
    ≡ ascii "3 5 5\n0 1 1 50 1 : 1\n1 1 1 100 1 : 1\n2 3 1 60 1 : 1 2\n4 5 1 70 1 : 1 6\n6 5 2 80 1 : 1 4\n* * * 360 5\n* 1 * 150 2\n* 5 * 150 2\n* * 1 280 4\n* 1 1 150 2\n"
unfolding lister builder builds read_table body row reading reading_at table_bytes folded read_archive walk_archive header field word sum sum_at room many codes rising fair amount list entry bases entries cell cells close word_at check_of words archive_bytes required layout base_bytes cell_bytes listed single can_make normals common shared proper cuboid total grouped sets ones ones_in words_bytes flat_map code_text row_text set_text base_text cell_text head_text listing digits_in decimal integer
five_printed = refl

-- a table taken for an archive
pub five_refused : lister five ≡ ascii "refused 1\n"
unfolding lister refused read_archive walk_archive header table_bytes check_of words words_bytes flat_map digits_in decimal
five_refused = refl
