-- A record added to an archive of no rows, and codes that are none, by computation.
use mathlib.Core.Path.{◌≡◌, refl}
use mathlib.Core.List.{List, [], ◌∷◌, flat_map}
use Prim.Native.Nat.{ℕ}
use lib.Count.{ones, ones_in}
use lib.IntN.{pos, negsuc}
use lib.ListN.{take}
use Rattle.fields.specs.Words.{word_at, words, words_bytes}
use Rattle.fields_sums.specs.Twos.{sum_at}
use Rattle.fields_check.specs.Check.{check_of}
use Rattle.lattice.specs.Sets.{sets}
use Rattle.fields_walk.specs.Parsed.{many}
use Rattle.fields_walk.specs.Fields.{room, word, sum, field, header, close}
use Rattle.cube.specs.Cube.{cuboid, total, grouped}
use Rattle.cube.specs.Condensed.{proper, single, listed, shared, common, normals}
use Rattle.cube.specs.Table.{folded}
use Rattle.rows_merge.specs.United.{united}
use Rattle.archive_entries.specs.Layout.{cell_bytes, base_bytes, layout, required, archive_bytes}
use Rattle.archive_entries.specs.Reading.{amount, entries, bases, cell, cells, walk_archive, read_archive}
use Rattle.call_answers.specs.Answers.{stop, bytes}
use Rattle.call_add.specs.Adds.{added, adds}

-- without rows, of one dimension of size 4
abbrev empty : List ℕ
empty = archive_bytes (4 ∷ []) []

-- one row of code 2 with the reading -5: its list is 0, and there is no normal entry
abbrev lone : List ℕ
lone =
    0x43 ∷ 0x55 ∷ 0x42 ∷ 0x45 ∷ 1 ∷ 0 ∷ 0 ∷ 0 ∷ 4 ∷ 0 ∷ 0 ∷ 0 ∷ 1 ∷ 0 ∷ 0 ∷ 0
    ∷ 2 ∷ 0 ∷ 0 ∷ 0 ∷ 0xFB ∷ 0xFF ∷ 0xFF ∷ 0xFF ∷ 0xFF ∷ 0xFF ∷ 0xFF ∷ 0xFF ∷ 1 ∷ 0 ∷ 0 ∷ 0 ∷ 1 ∷ 0 ∷ 0 ∷ 0 ∷ 0 ∷ 0 ∷ 0 ∷ 0
    ∷ 0 ∷ 0 ∷ 0 ∷ 0 ∷ 0x47 ∷ 0x55 ∷ 0x42 ∷ 0x45 ∷ []

-- a code; one not below its size; ALL; none; two; the file's stop before 13
adds-first : adds empty (2 ∷ []) (negsuc 4) ∷ adds empty (4 ∷ []) (pos 5) ∷ adds empty (65535 ∷ []) (pos 5) ∷ adds empty [] (pos 5) ∷ adds empty (0 ∷ 0 ∷ []) (pos 5) ∷ adds (take 4 empty) (4 ∷ []) (pos 5) ∷ []
    ≡ bytes lone ∷ stop 13 ∷ stop 13 ∷ stop 13 ∷ stop 13 ∷ stop 2 ∷ []
unfolding adds added united folded grouped read_archive walk_archive header field word sum room many bases entries amount cell cells close word_at sum_at check_of words archive_bytes required layout base_bytes cell_bytes listed single normals common total shared proper cuboid sets ones ones_in words_bytes flat_map
adds-first = refl
