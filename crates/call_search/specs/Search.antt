-- A cell searched among entries.
--
--   entry_before s at c k   entry k from a place on is listed before cell c
use Rattle.std.specs.Prelude.{Bool, List, ℕ, ◌+◌, ◌*◌, length}
use Rattle.lists.specs.Order.{earlier}
use Rattle.fields.specs.Words.{words_at}
use Rattle.cube.specs.Codes.{keys}

abbrev pub entry_before : List ℕ → ℕ → List ℕ → ℕ → Bool
entry_before s at c k = earlier (keys (words_at s (length c) (at + k * (4 * length c + 12)))) (keys c)
