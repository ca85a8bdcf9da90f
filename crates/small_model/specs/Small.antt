-- All the small tables (document 02, C-23), for any number d of dimensions.
--
--   from k n        n numbers from k on, rising
--   up_to n          the numbers below n, rising
--   bit_of t j       bit j of t is set
--   binary d j      j in binary, with d digits, the highest first
--   one             the total of one reading, 1
--   row x           a row of a table: codes x and one reading, 1
--   codes_at d t     the codes of table t: j in binary for each bit j of t that is set, by rising j
--   table d t       table t
--   tables d        all of them, by rising t
--   Digits d x      x is d codes, each below 2
--   Small d rows    what is wanted: a table of d dimensions with sizes 2, readings 1, and rows rising strictly by codes
use Rattle.std.specs.Prelude.{◌≡◌, Bool, List, [], ◌∷◌, ◌++◌, map, ℕ, zero, suc, ◌/◌, ◌%◌, ◌^◌, ◌<◌, eqb, pos}
use Rattle.lists.specs.Lists.{◌∈◌, keep}
use Rattle.lists.specs.Order.{Rising, earlier}
use Rattle.cube.specs.declared.Total.{Total}
use Rattle.cube.specs.Measure.{Row, codes_of}

abbrev pub from : ℕ → ℕ → List ℕ
from k zero = []
from k (suc n) = k ∷ from (suc k) n

abbrev pub up_to : ℕ → List ℕ
up_to n = from 0 n

abbrev pub bit_of : ℕ → ℕ → Bool
bit_of t zero = eqb (t % 2) 1
bit_of t (suc j) = bit_of (t / 2) j

abbrev pub binary : ℕ → ℕ → List ℕ
binary zero j = []
binary (suc d) j = binary d (j / 2) ++ (j % 2 ∷ [])

abbrev pub one : Total
one = record { sum = pos 1; count = 1 }

abbrev pub row : List ℕ → Row Total
row x = record { codes = x; total = one }

unfoldable pub codes_at : ℕ → ℕ → List (List ℕ)
codes_at d t = map (binary d) (keep (bit_of t) (up_to (2 ^ d)))

abbrev pub table : ℕ → ℕ → List (Row Total)
table d t = map row (codes_at d t)

unfoldable pub tables : ℕ → List (List (Row Total))
tables d = map (table d) (up_to (2 ^ 2 ^ d))

abbrev pub Digits : ℕ → List ℕ → Type 0
Digits zero [] = Unit {0}
Digits zero (a ∷ x) = ⊥
Digits (suc d) [] = ⊥
Digits (suc d) (a ∷ x) = (a < 2) × Digits d x

pub record Small (d : ℕ) (rows : List (Row Total)) : Type 0 where
  pub sizes : (r : Row Total) → r ∈ rows → Digits d r.codes
  pub readings : (r : Row Total) → r ∈ rows → r.total ≡ one
  pub rising : Rising earlier (codes_of rows)
