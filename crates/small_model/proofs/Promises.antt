-- The theorems of C-23, for any number d of dimensions: the three that are asked for are instances.
use mathlib.Core.Path.{◌≡◌}
use mathlib.Core.Logic.{◌↔◌}
use mathlib.Core.List.{List, map}
use Prim.Native.Nat.{ℕ, ◌^◌, ◌<◌}
use lib.ListN.{length}
use Rattle.lists.specs.Lists.{◌∈◌, Pairwise, Distinct, sum}
use Rattle.cube.specs.declared.Total.{Total}
use Rattle.cube.specs.Measure.{Row}
use Rattle.small_model.specs.Small.{tables, Small}
use Rattle.small_model.specs.Tally.{entries, having, tally, occurring}
use Rattle.small_model.proofs.Tables as every
use Rattle.small_model.proofs.Tally as tallies

module _ (d : ℕ) where
  -- The generator's tables are just the small tables, each once.
  pub all-tables : (rows : List (Row Total)) → (rows ∈ tables d) ↔ Small d rows
  all-tables rows = (every.tables_in d, every.small_in d rows)

  pub each-once : Distinct (tables d)
  each-once = every.tables-distinct d

  pub how_many : length (tables d) ≡ 2 ^ 2 ^ d
  how_many = every.tables-length d

  -- A tally is the length of a list, `having`, of just the small tables with so many entries, each once.
  pub tally-tables : (n : ℕ) (rows : List (Row Total)) → (rows ∈ having d n) ↔ (Small d rows × (entries d rows ≡ n))
  tally-tables = tallies.having_iff d

  pub tally-once : (n : ℕ) → Distinct (having d n)
  tally-once = tallies.having-distinct d

  -- The numbers printed rise, and are just those that some small table has;
  pub printed_rise : Pairwise ◌<◌ (occurring d)
  printed_rise = tallies.occurring-rising d

  pub printed_occur : (n : ℕ) → (n ∈ occurring d) ↔ ((rows : List (Row Total)) × Small d rows × (entries d rows ≡ n))
  printed_occur = tallies.occurring_iff d

  -- their tallies are all tables.
  pub tallies_add_up : sum (map (tally d) (occurring d)) ≡ 2 ^ 2 ^ d
  tallies_add_up = tallies.occurring-all d
