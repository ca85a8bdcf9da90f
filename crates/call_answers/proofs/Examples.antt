-- Small archives joined, with the stops in their order, by computation.
use mathlib.Core.Path.{◌≡◌, refl}
use mathlib.Core.List.{List, [], ◌∷◌, flat_map}
use Prim.Native.Nat.{ℕ, ◌+◌}
use lib.Count.{ones, ones_in}
use lib.ListN.{take}
use Rattle.fields.specs.Words.{word_at, words, words_bytes}
use Rattle.fields_sums.specs.Twos.{sum_at}
use Rattle.fields_check.specs.Check.{check_of}
use Rattle.lattice.specs.Sets.{sets}
use Rattle.fields_walk.specs.Parsed.{many}
use Rattle.fields_walk.specs.Fields.{room, word, sum, field, header, close}
use Rattle.cube.specs.Cube.{cuboid, total, grouped}
use Rattle.cube.specs.Condensed.{proper, shared, common, normals}
use Rattle.cube.specs.Table.{folded}
use Rattle.rows_merge.specs.United.{united}
use Rattle.archive_entries.specs.Layout.{cell_bytes, base_bytes, layout, required, archive_bytes}
use Rattle.archive_entries.specs.Reading.{amount, entries, bases, cell, cells, walk_archive, read_archive}
use Rattle.call_answers.specs.Answers.{stop, bytes}
use Rattle.call_answers.specs.Joins.{joins}
use Rattle.call_answers.specs.Joining.{one, both, joined_by, in_turn}

-- without rows, of one dimension of size z
abbrev empty : ℕ → List ℕ
empty z =
    0x43 ∷ 0x55 ∷ 0x42 ∷ 0x45 ∷ 1 ∷ 0 ∷ 0 ∷ 0 ∷ z ∷ 0 ∷ 0 ∷ 0 ∷ 0 ∷ 0 ∷ 0 ∷ 0 ∷ 1 ∷ 0 ∷ 0 ∷ 0
    ∷ 0xFF ∷ 0xFF ∷ 0 ∷ 0 ∷ 0 ∷ 0 ∷ 0 ∷ 0 ∷ 0 ∷ 0 ∷ 0 ∷ 0 ∷ 0 ∷ 0 ∷ 0 ∷ 0 ∷ (0x44 + z) ∷ 0x55 ∷ 0x43 ∷ 0x45 ∷ []

-- itself; other sizes; the first file's stop before the second's, and that before other sizes
joins-empty : joins (empty 4) (empty 4) ∷ joins (empty 4) (empty 3) ∷ joins (take 3 (empty 4)) (take 4 (empty 3)) ∷ joins (empty 4) (take 4 (empty 3)) ∷ []
    ≡ bytes (empty 4) ∷ stop 17 ∷ stop 1 ∷ stop 2 ∷ []
unfolding joins united folded grouped read_archive walk_archive header field word sum room many bases entries amount cell cells close word_at sum_at check_of words archive_bytes required layout base_bytes cell_bytes normals common total shared proper cuboid sets ones ones_in words_bytes flat_map
joins-empty = refl

-- three, either two of them first; the first stop from the left
joined-empty : joined_by bytes (both (one (empty 4)) (both (one (empty 4)) (one (empty 4)))) ∷ joined_by bytes (in_turn (one (empty 4)) (empty 4 ∷ empty 3 ∷ []))
    ∷ joined_by bytes (both (both (one (empty 4)) (one (empty 3))) (both (one (empty 4)) (one (take 4 (empty 4))))) ∷ [] ≡ bytes (empty 4) ∷ stop 17 ∷ stop 17 ∷ []
unfolding joins united folded grouped read_archive walk_archive header field word sum room many bases entries amount cell cells close word_at sum_at check_of words archive_bytes required layout base_bytes cell_bytes normals common total shared proper cuboid sets ones ones_in words_bytes flat_map
joined-empty = refl
