-- Least and greatest reading beside sum and count (document 02, C-17).
--
--   Extremes            of no rows (Any: written as unknown), Unknown, or Known, the least and the greatest reading: the enum of src/lib.rt
--   lesser, greater     of two readings
--   wider               running extremes with one row more: no rows change nothing, and an unknown row makes all unknown
--   spans               the measure of extremes
--   is_known e           whether extremes are known
--   given e             whether they are those of a reading: not those of no rows
--   Given rows          each row's are
--   Readings e          extremes that are known are readings of 32 bits
--   Figures             a sum, a count and extremes: the struct of src/lib.rt
--   figures             the measure of figures: sum and count as before, and beside them extremes
--   reading z           the figures of a table's row: one reading, which is both extremes
--   converted t         the extremes that edition one tells: with count 1 both are the sum, and others are unknown
--   converts t          a total of edition one as figures
use Rattle.std.specs.Prelude.{◌≡◌, Bool, true, false, cond, List, ℕ, zero, suc, ◌^◌, ◌<◌, ℤ}
use Rattle.std.specs.Int.Signed.{le_z, mag}
use Rattle.lists.specs.Lists.{◌∈◌}
use Rattle.cube.specs.declared.Total.{Total}
use Rattle.cube.specs.declared.Figures.{Figures}
use Rattle.cube.specs.declared.Extremes.{Extremes}
use Rattle.cube.specs.declared.Extremes.TheVariants.{Any, Unknown, Known}
use Rattle.cube.specs.Measure.{nothing, plus, Measure, Row}

abbrev pub lesser : ℤ → ℤ → ℤ
lesser a b = cond (le_z a b) a b

abbrev pub greater : ℤ → ℤ → ℤ
greater a b = cond (le_z b a) a b

abbrev pub wider : Extremes → Extremes → Extremes
wider Any e = e
wider Unknown e = Unknown
wider (Known a b) Any = Known a b
wider (Known a b) Unknown = Unknown
wider (Known a b) (Known c d) = Known (lesser a c) (greater b d)

abbrev pub spans : Measure Extremes
spans = record { none = Any; more = wider }

abbrev pub is_known : Extremes → Bool
is_known Any = false
is_known Unknown = false
is_known (Known a b) = true

abbrev pub given : Extremes → Bool
given Any = false
given Unknown = true
given (Known a b) = true

abbrev pub Given : List (Row Extremes) → Type 0
Given rows = (r : Row Extremes) → r ∈ rows → given r.total ≡ true

abbrev pub Readings : Extremes → Type 0
Readings Any = Unit {0}
Readings Unknown = Unit {0}
Readings (Known a b) = (mag a < 2 ^ 31) × (mag b < 2 ^ 31)

abbrev pub figures : Measure Figures
figures = record {
  none = record { sums = nothing; extremes = Any };
  more = λ f row. record { sums = plus f.sums row.sums; extremes = wider f.extremes row.extremes };
}

abbrev pub reading : ℤ → Figures
reading z = record { sums = record { sum = z; count = 1 }; extremes = Known z z }

-- by the count
abbrev pub lone : ℕ → ℤ → Extremes
lone zero z = Unknown
lone (suc zero) z = Known z z
lone (suc (suc n)) z = Unknown

abbrev pub converted : Total → Extremes
converted t = lone t.count t.sum

abbrev pub converts : Total → Figures
converts t = record { sums = t; extremes = converted t }
