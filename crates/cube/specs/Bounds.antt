-- Totals that 64 bits hold: what keeps a running total from overflowing.
--
--   most            the greatest total count of an archive's base entries (document 01)
--   can_make n s     n readings of 32 bits can make the sum s
--   suits t l g     a least and a greatest reading that a row's sum and count can have (C-17)
--   Suited t e      extremes that a row can have beside sum and count t: unknown ones, and readings of 32 bits that suit
--   Makes f         figures that readings of 32 bits can make: one at least, with such a sum and such extremes
--   Bounded t       the sum is one that so many readings of 32 bits can make, and the count is at most `most`
--   count_of rows    the total of the rows' counts
--   Summable rows   any of the rows can be totalled, and nothing overflows
use Rattle.std.specs.Prelude.{◌≡◌, Bool, true, ◌&&◌, List, [], ◌∷◌, ℕ, ◌+◌, ◌-◌, ◌*◌, ◌^◌, ◌≤◌, ◌<◌, ℤ, pos, negsuc, ◌+ℤ◌, ◌*ℤ◌, nat_abs}
use Rattle.std.specs.Int.Signed.{le_z, mag}
use Rattle.lists.specs.Lists.{◌∈◌}
use Rattle.cube.specs.declared.Total.{Total}
use Rattle.cube.specs.Measure.{Row}
use Rattle.cube.specs.declared.Figures.{Figures}
use Rattle.cube.specs.declared.Extremes.{Extremes}
use Rattle.cube.specs.declared.Extremes.TheVariants.{Any, Unknown, Known}

abbrev pub most : ℕ
most = 1048576

unfoldable pub can_make : ℕ → ℤ → Bool
can_make n s = le_z (negsuc 2147483647 *ℤ pos n) s && le_z s (pos 2147483647 *ℤ pos n)

-- least at most greatest, and the sum from greatest + (count - 1) * least to least + (count - 1) * greatest
unfoldable pub suits : Total → ℤ → ℤ → Bool
suits t l g = le_z l g && (le_z (g +ℤ pos (t.count - 1) *ℤ l) t.sum && le_z t.sum (l +ℤ pos (t.count - 1) *ℤ g))

abbrev pub Suited : Total → Extremes → Type 0
Suited t Any = ⊥
Suited t Unknown = Unit {0}
Suited t (Known l g) = (mag l < 2 ^ 31) × (mag g < 2 ^ 31) × (suits t l g ≡ true)

pub record Makes (f : Figures) : Type 0 where
  pub counted : 1 ≤ f.sums.count
  pub made : can_make f.sums.count f.sums.sum ≡ true
  pub suited : Suited f.sums f.extremes

pub record Bounded (t : Total) : Type 0 where
  pub sum : nat_abs t.sum ≤ 2147483648 * t.count
  pub count : t.count ≤ most

abbrev pub count_of : List (Row Total) → ℕ
count_of [] = 0
count_of (r ∷ rows) = r.total.count + count_of rows

pub record Summable (rows : List (Row Total)) : Type 0 where
  pub each : (r : Row Total) → r ∈ rows → Bounded r.total
  pub few : count_of rows ≤ most
