-- Many archives into one, two at a time (document 02, C-15): one after the other, half by half, or in any other way.
--
--   Plan A           what is joined with what: a part alone, or what two plans give
--   parts p          its parts, from left to right
--   joins_both o q    two outcomes joined, or the first stop
--   joined_by f p     what the plan p gives, where a part's archive is what f gives for it: `bytes` for parts that are archives, `builds` for tables
--   in_turn p xs      the parts xs joined to what p gives, one after the other
--   Accepted         the bytes s are read whole, and what they hold has the sizes zs
--   ArchiveOf zs s   s is an accepted archive of the sizes zs
--   TableOf zs s     s is an accepted table of the sizes zs
--   bases_at s        the base rows that the archive s holds
--   records_at s      the rows that the table s holds
use Rattle.std.specs.Prelude.{◌≡◌, ℕ}
use mathlib.Core.List.{List, [], ◌∷◌, ◌++◌, foldl}
use Rattle.fields_walk.specs.Parsed.{Parsed, stop as halt, got}
use Rattle.fields_walk.specs.Limits.{Bytes}
use Rattle.cube.specs.declared.Total.{Total}
use Rattle.cube.specs.Measure.{Row}
use Rattle.table.specs.Reading.{read_table}
use Rattle.archive_entries.specs.Reading.{rows_in, read_archive}
use Rattle.call_answers.specs.Answers.{Outcome, stop, bytes}
use Rattle.call_answers.specs.Joins.{joins}

pub data Plan (A : Type 0) : Type 0 where
  one : A → Plan A
  both : Plan A → Plan A → Plan A

abbrev pub joins_both : Outcome → Outcome → Outcome
joins_both (stop n) o = stop n
joins_both (bytes s) (stop n) = stop n
joins_both (bytes s) (bytes t) = joins s t

module _ {A : Type 0} where
  abbrev pub parts : Plan A → List A
  parts (one x) = x ∷ []
  parts (both p q) = parts p ++ parts q

  abbrev pub joined_by : (A → Outcome) → Plan A → Outcome
  joined_by f (one x) = f x
  joined_by f (both p q) = joins_both (joined_by f p) (joined_by f q)

  abbrev pub in_turn : Plan A → List A → Plan A
  in_turn p xs = foldl (λ q x. both q (one x)) p xs

pub record Accepted {A : Type 0} (reads : List ℕ → Parsed A) (sizesOf : A → List ℕ) (zs s : List ℕ) : Type 0 where
  pub are : Bytes s
  pub held : A
  pub read : reads s ≡ got held []
  pub sizes : sizesOf held ≡ zs

abbrev pub ArchiveOf : List ℕ → List ℕ → Type 0
ArchiveOf = Accepted read_archive (λ a. a.sizes)

abbrev pub TableOf : List ℕ → List ℕ → Type 0
TableOf = Accepted read_table (λ t. t.sizes)

-- what was refused holds none
abbrev pub rows_got : {A : Type 0} → (A → List (Row Total)) → Parsed A → List (Row Total)
rows_got f (halt n) = []
rows_got f (got v rest) = f v

unfoldable pub bases_at : List ℕ → List (Row Total)
bases_at s = rows_got rows_in (read_archive s)

unfoldable pub records_at : List ℕ → List (Row Total)
records_at s = rows_got (λ t. t.rows) (read_table s)
