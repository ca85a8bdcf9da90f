-- A fee in whole cents, shared by weights (document 02, C-22). The weights are the counts of a cuboid's cells, in listing order; t is their total.
--
--   count p l         how many members pass the test p
--   quota t fee w     the proportion of weight w, rounded down
--   rest t fee w      its remainder: by how many t-th parts of a cent the proportion is above it
--   left fee ws       the cents left once each cell has its rounded-down proportion
--   ahead all seen r  how many cells come before one with remainder r when the cents left are given out: those with a larger remainder among all,
--                     and those with the same among the earlier cells
--   cents m all seen l    for each cell of l, whether it gets one of the m cents left; the cells before are `seen`
--   shares fee ws     each cell's whole cents
--   apart a b         the difference of two numbers
--   sumℤ ys           what whole cents add up to, cents below zero too
--   off t fee ws ys   the total of the differences of whole cents ys from the exact proportions, in t-th parts of a cent
use Rattle.std.specs.Prelude.{Bool, true, false, List, [], ◌∷◌, map, ℕ, ◌+◌, ◌-◌, ◌*◌, ◌/◌, ◌%◌, eqb, ltb, ℤ, pos, ◌+ℤ◌, ◌-ℤ◌, ◌*ℤ◌, nat_abs, length}
use Rattle.lists.specs.Lists.{keep, sum}

abbrev pub count : (ℕ → Bool) → List ℕ → ℕ
count p l = length (keep p l)

abbrev pub quota : ℕ → ℕ → ℕ → ℕ
quota t fee w = fee * w / t

abbrev pub rest : ℕ → ℕ → ℕ → ℕ
rest t fee w = fee * w % t

abbrev pub quotas : ℕ → List ℕ → List ℕ
quotas fee ws = map (quota (sum ws) fee) ws

abbrev pub rests : ℕ → List ℕ → List ℕ
rests fee ws = map (rest (sum ws) fee) ws

unfoldable pub left : ℕ → List ℕ → ℕ
left fee ws = fee - sum (quotas fee ws)

abbrev pub ahead : List ℕ → List ℕ → ℕ → ℕ
ahead all seen r = count (ltb r) all + count (eqb r) seen

-- a cent, by whether a cell gets one
abbrev pub cent : Bool → ℕ
cent true = 1
cent false = 0

abbrev pub cents : ℕ → List ℕ → List ℕ → List ℕ → List ℕ
cents m all seen [] = []
cents m all seen (r ∷ l) = cent (ltb (ahead all seen r) m) ∷ cents m all (r ∷ seen) l

-- two lists added place by place
abbrev pub added : List ℕ → List ℕ → List ℕ
added [] cs = []
added (q ∷ qs) [] = q ∷ qs
added (q ∷ qs) (c ∷ cs) = (q + c) ∷ added qs cs

unfoldable pub shares : ℕ → List ℕ → List ℕ
shares fee ws = added (quotas fee ws) (cents (left fee ws) (rests fee ws) [] (rests fee ws))

abbrev pub apart : ℕ → ℕ → ℕ
apart a b = (a - b) + (b - a)

abbrev pub sumℤ : List ℤ → ℤ
sumℤ [] = pos 0
sumℤ (y ∷ ys) = y +ℤ sumℤ ys

abbrev pub off : ℕ → ℕ → List ℕ → List ℤ → ℕ
off t fee [] ys = 0
off t fee (w ∷ ws) [] = 0
off t fee (w ∷ ws) (y ∷ ys) = nat_abs (y *ℤ pos t -ℤ pos (fee * w)) + off t fee ws ys
