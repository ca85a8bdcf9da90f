-- Three chips in two families and two ports, by computation: the codes of three rows at each level, from the bytes of the level fields.
use mathlib.Core.Path.{◌≡◌, refl}
use mathlib.Core.List.{List, [], ◌∷◌}
use Prim.Native.Nat.{ℕ}
use Rattle.fields.specs.Words.{word_at, words_at, words_bytes}
use Rattle.family_columns.specs.Raised.{raised, dimension_codes}

-- level counts 2 and 1; at place 8 the families of chips: their number, and the table
abbrev fields : List ℕ
fields = words_bytes (2 ∷ 1 ∷ 2 ∷ 0 ∷ 0 ∷ 1 ∷ [])

abbrev rows : List (List ℕ)
rows = (0 ∷ 0 ∷ []) ∷ (1 ∷ 0 ∷ []) ∷ (2 ∷ 1 ∷ []) ∷ []

pub chip-codes : (dimension_codes fields 3 (8 ∷ []) 0 0 rows ≡ 0 ∷ 1 ∷ 2 ∷ []) × (dimension_codes fields 3 (8 ∷ []) 0 1 rows ≡ 0 ∷ 0 ∷ 1 ∷ []) × (raised fields 3 12 (0 ∷ 1 ∷ 2 ∷ []) ≡ 0 ∷ 0 ∷ 1 ∷ [])
unfolding dimension_codes raised word_at words_at words_bytes
chip-codes = (refl, refl, refl)
