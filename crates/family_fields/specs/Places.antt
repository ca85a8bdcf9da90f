-- The next levels of dimensions by the places at which they stand, one behind the other in the order of the file: at each place its size, then its table.
--
--   level_at s z p         the next level at place p, above one of z codes
--   size_at s z ps         how many codes the last of the levels at places ps has, above a level of z codes
--   tower_at s z ps        the levels at places ps, each above the one before, the first above one of z codes
--   tables ns             how many tables dimensions with level counts ns have: one fewer than levels each
--   nodes_of ns            how many nodes they have
--   levels_at s zs ns ps   the next levels of every dimension, from the places of all
--   Stands s z ps         the levels at places ps stand there whole, and within their limits
--   AllStand s zs ns ps   so do those of every dimension
--   Reads s p zs ns ps w  the code says what was read: the same stop, or the levels at places ps, which stand there, and the bytes behind a place
--   Towered ..            the same as a record, which code's contracts name
--   Stacks ..             the same of the n next levels of a dimension, whose places are put behind the first `len` of others
--   Stacked ..            as a record
use Rattle.std.specs.Prelude.{◌≡◌, List, [], ◌∷◌, ◌++◌, ℕ, ◌+◌, ◌-◌, ◌*◌, ◌≤◌, length, take, drop, Result, Ok, Err}
use Rattle.fields.specs.Words.{word_at, words_at}
use Rattle.fields_walk.specs.Parsed.{Parsed, stop, got}
use Rattle.stops.specs.declared.Stop.{Stop}
use Rattle.stops.specs.Numbers.{number}
use Rattle.family_nodes.specs.Families.{Level, Levels}
use Rattle.family_fields.specs.Shape.{Leveled}

abbrev pub level_at : List ℕ → ℕ → ℕ → Level
level_at s z p = record { size = word_at s p; table = words_at s z (p + 4) }

abbrev pub size_at : List ℕ → ℕ → List ℕ → ℕ
size_at s z [] = z
size_at s z (p ∷ ps) = size_at s (word_at s p) ps

abbrev pub tower_at : List ℕ → ℕ → List ℕ → Levels
tower_at s z [] = []
tower_at s z (p ∷ ps) = level_at s z p ∷ tower_at s (word_at s p) ps

abbrev pub tables : List ℕ → ℕ
tables [] = 0
tables (n ∷ ns) = n - 1 + tables ns

abbrev pub nodes_of : List ℕ → ℕ
nodes_of [] = 1
nodes_of (n ∷ ns) = (n + 1) * nodes_of ns

abbrev pub levels_at : List ℕ → List ℕ → List ℕ → List ℕ → List Levels
levels_at s [] ns ps = []
levels_at s (z ∷ zs) [] ps = []
levels_at s (z ∷ zs) (n ∷ ns) ps = tower_at s z (take (n - 1) ps) ∷ levels_at s zs ns (drop (n - 1) ps)

abbrev pub Stands : List ℕ → ℕ → List ℕ → Type 0
Stands s z [] = Unit {0}
Stands s z (p ∷ ps) = (p + (4 + 4 * z) ≤ length s) × Leveled z (level_at s z p) × Stands s (word_at s p) ps

abbrev pub AllStand : List ℕ → List ℕ → List ℕ → List ℕ → Type 0
AllStand s [] ns ps = Unit {0}
AllStand s (z ∷ zs) [] ps = Unit {0}
AllStand s (z ∷ zs) (n ∷ ns) ps = Stands s z (take (n - 1) ps) × AllStand s zs ns (drop (n - 1) ps)

abbrev pub Reads : List ℕ → Parsed (List Levels) → List ℕ → List ℕ → List ℕ → Result ℕ Stop → Type 0
Reads s p zs ns ps (Err e) = p ≡ stop (number e)
Reads s p zs ns ps (Ok k) = (p ≡ got (levels_at s zs ns ps) (drop k s)) × (k ≤ length s) × AllStand s zs ns ps

pub record Towered (s : List ℕ) (p : Parsed (List Levels)) (zs ns ps : List ℕ) (w : Result ℕ Stop) : Type 0 where
  pub reads : Reads s p zs ns ps w

abbrev pub Stacks : List ℕ → Parsed Levels → ℕ → ℕ → ℕ → List ℕ → List ℕ → Result ℕ Stop → Type 0
Stacks s p z n len places places₂ (Err e) = p ≡ stop (number e)
Stacks s p z n len places places₂ (Ok k) =
    (new : List ℕ) × (p ≡ got (tower_at s z new) (drop k s)) × (k ≤ length s) × (length new ≡ n) × (take (len + n) places₂ ≡ take len places ++ new) × Stands s z new

pub record Stacked (s : List ℕ) (p : Parsed Levels) (z n len : ℕ) (places places₂ : List ℕ) (w : Result ℕ Stop) : Type 0 where
  pub says : Stacks s p z n len places places₂ w
