-- The fields that both files with families share: behind the sizes all D level counts, then, dimension by dimension, for each next level its size and its table.
--
--   Family            sizes of the codes, and the levels above them, one of each for each dimension
--   level_count t      a dimension's level count: the codes, and the levels above, without ALL
--   level_bytes v      a next level: its size and its table
--   family_bytes o f   opening, D, sizes, level counts, next levels
--   level z           a next level above one of z codes: its size (21), and z entries, each below it (21)
--   levels n z        n next levels, each above the one before
--   towers zs ns      the next levels of every dimension
--   noted ts          the number of nodes (22), when the last table is read
--   levelled zs       the level counts (21), the next levels, and then the number of nodes
--   family o          the opening (1), D (3), the sizes (4), and these
--   Leveled z v       a next level above one of z codes, within the limits
--   Tower z t         the next levels of a dimension of z codes
--   Towers zs ts      the same of each dimension, each with at most three
--   Shaped f          the limits on a family
use Rattle.std.specs.Prelude.{◌≡◌, ℕ, zero, suc, ◌-◌, ◌≤◌, ◌<◌, leb, length}
use mathlib.Core.List.{List, [], ◌∷◌, ◌++◌, map, flat_map}
use Rattle.lists.specs.Lists.{◌∈◌}
use Rattle.fields.specs.Words.{word_bytes, words_bytes}
use Rattle.fields_walk.specs.Parsed.{Parsed, got, and_then, stop_unless, consed, many}
use Rattle.fields_walk.specs.Fields.{field, header, header_bytes}
use Rattle.fields_walk.specs.Limits.{Sized}
use Rattle.family_nodes.specs.Nodes.{node_count}
use Rattle.family_nodes.specs.Families.{Level, Levels, heights}

pub record Family : Type 0 where
  pub sizes : List ℕ
  pub levels : List Levels

-- ---- bytes

abbrev pub level_count : Levels → ℕ
level_count t = suc (length t)

unfoldable pub level_bytes : Level → List ℕ
level_bytes v = word_bytes v.size ++ words_bytes v.table

unfoldable pub levels_bytes : Levels → List ℕ
levels_bytes t = flat_map level_bytes t

abbrev pub family_bytes : List ℕ → Family → List ℕ
family_bytes opening f = header_bytes opening f.sizes ++ (words_bytes (map level_count f.levels) ++ flat_map levels_bytes f.levels)

-- ---- reading

unfoldable pub level : ℕ → List ℕ → Parsed Level
level z l = and_then (field 1 65536 21 l) (λ n rest. and_then (many z (field 0 n 21) rest) (λ t rest'. got (record { size = n; table = t }) rest'))

unfoldable pub levels : ℕ → ℕ → List ℕ → Parsed Levels
levels zero z l = got [] l
levels (suc n) z l = consed (level z l) (λ v. levels n v.size)

unfoldable pub towers : List ℕ → List ℕ → List ℕ → Parsed (List Levels)
towers [] ns l = got [] l
towers (z ∷ zs) [] l = got [] l
towers (z ∷ zs) (n ∷ ns) l = consed (levels (n - 1) z l) (λ t. towers zs ns)

abbrev pub noted : List Levels → List ℕ → Parsed (List Levels)
noted ts rest = stop_unless (leb (node_count (heights ts)) 4096) 22 (got ts rest)

unfoldable pub levelled : List ℕ → List ℕ → Parsed (List Levels)
levelled zs l = and_then (and_then (many (length zs) (field 1 5 21) l) (towers zs)) noted

unfoldable pub family : List ℕ → List ℕ → Parsed Family
family opening s = and_then (header opening s) (λ zs l. and_then (levelled zs l) (λ ts rest. got (record { sizes = zs; levels = ts }) rest))

-- ---- limits

pub record Leveled (z : ℕ) (v : Level) : Type 0 where
  pub some : 1 ≤ v.size
  pub most : v.size ≤ 65535
  pub long : length v.table ≡ z
  pub each : (a : ℕ) → a ∈ v.table → a < v.size

abbrev pub Tower : ℕ → Levels → Type 0
Tower z [] = Unit {0}
Tower z (v ∷ t) = Leveled z v × Tower v.size t

abbrev pub Towers : List ℕ → List Levels → Type 0
Towers [] [] = Unit {0}
Towers [] (t ∷ ts) = ⊥
Towers (z ∷ zs) [] = ⊥
Towers (z ∷ zs) (t ∷ ts) = ((length t ≤ 3) × Tower z t) × Towers zs ts

pub record Shaped (f : Family) : Type 0 where
  pub sized : Sized f.sizes
  pub towers : Towers f.sizes f.levels
  pub few : node_count (heights f.levels) ≤ 4096
