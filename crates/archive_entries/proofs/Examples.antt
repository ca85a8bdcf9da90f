-- What is read of the archive of no rows (40 bytes), of parts of it, and of one that lacks the empty table's cell, by computation.
use mathlib.Core.Path.{◌≡◌, refl}
use mathlib.Core.List.{List, [], ◌∷◌, ◌++◌, map, flat_map}
use Prim.Native.Nat.{ℕ}
use lib.Count.{ones, ones_in}
use lib.IntN.{pos}
use lib.ListN.{take}
use Rattle.fields.specs.Words.{word_at, words, words_bytes}
use Rattle.fields_sums.specs.Twos.{sum_at}
use Rattle.fields_check.specs.Check.{check_of}
use Rattle.lattice.specs.Sets.{sets}
use Rattle.fields_walk.specs.Parsed.{stop, got, many}
use Rattle.fields_walk.specs.Fields.{room, word, sum, field, header, close}
use Rattle.cube.specs.Cube.{cuboid, total}
use Rattle.cube.specs.Condensed.{proper, shared, common, normals}
use Rattle.archive_entries.specs.Layout.{cell_bytes, base_bytes, layout, required, archive_bytes}
use Rattle.archive_entries.specs.Reading.{amount, entries, bases, cell, cells, walk_archive, read_archive}

abbrev empty : List ℕ
empty =
    0x43 ∷ 0x55 ∷ 0x42 ∷ 0x45 ∷ 1 ∷ 0 ∷ 0 ∷ 0 ∷ 1 ∷ 0 ∷ 0 ∷ 0 ∷ 0 ∷ 0 ∷ 0 ∷ 0 ∷ 1 ∷ 0 ∷ 0 ∷ 0
    ∷ 0xFF ∷ 0xFF ∷ 0 ∷ 0 ∷ 0 ∷ 0 ∷ 0 ∷ 0 ∷ 0 ∷ 0 ∷ 0 ∷ 0 ∷ 0 ∷ 0 ∷ 0 ∷ 0 ∷ 0x45 ∷ 0x55 ∷ 0x43 ∷ 0x45 ∷ []

abbrev bare : List ℕ
bare = 0x43 ∷ 0x55 ∷ 0x42 ∷ 0x45 ∷ 1 ∷ 0 ∷ 0 ∷ 0 ∷ 1 ∷ 0 ∷ 0 ∷ 0 ∷ 0 ∷ 0 ∷ 0 ∷ 0 ∷ 0 ∷ 0 ∷ 0 ∷ 0 ∷ 0x45 ∷ 0x55 ∷ 0x42 ∷ 0x45 ∷ []

-- fewer bytes than the opening; the opening and no more; a byte that follows
reads_empty : map read_archive (empty ∷ take 3 empty ∷ take 4 empty ∷ (empty ++ 0 ∷ []) ∷ bare ∷ [])
    ≡ got (record { sizes = 1 ∷ []; bases = []; cells = record { codes = 65535 ∷ []; total = record { sum = pos 0; count = 0 } } ∷ [] }) [] ∷ stop 1 ∷ stop 2 ∷ stop 10 ∷ stop 12 ∷ []
unfolding read_archive walk_archive header field word sum room many bases entries amount cell cells close word_at sum_at check_of words archive_bytes required layout base_bytes cell_bytes normals common total shared proper cuboid sets ones ones_in words_bytes flat_map
reads_empty = refl
