-- Numbers of nodes. A node has one level in each dimension; its number is the sum over the dimensions of factor times level, the first factor 1 and each next
-- one the factor before times its number of levels. `hs` are the numbers of levels with ALL, one for each dimension.
--
--   node_count hs        how many nodes there are: the product
--   summed f hs ls      the sum of factor times level, the first factor f, each next one times the number of levels
--   number_of hs ls      the number of the node with levels ls
--   levels_of hs n       the levels of node n: remainder and quotient by the numbers of levels in turn
--   no_higher ls ms      none of the levels ls is higher than that of ms
--   finer hs m n        node m is node n or finer: in no dimension its level is higher
use Rattle.std.specs.Prelude.{Bool, true, false, ◌&&◌, List, [], ◌∷◌, ℕ, ◌+◌, ◌*◌, ◌/◌, ◌%◌, leb}

abbrev pub node_count : List ℕ → ℕ
node_count [] = 1
node_count (h ∷ hs) = h * node_count hs

abbrev pub summed : ℕ → List ℕ → List ℕ → ℕ
summed f [] ls = 0
summed f (h ∷ hs) [] = 0
summed f (h ∷ hs) (l ∷ ls) = f * l + summed (f * h) hs ls

abbrev pub number_of : List ℕ → List ℕ → ℕ
number_of hs ls = summed 1 hs ls

abbrev pub levels_of : List ℕ → ℕ → List ℕ
levels_of [] n = []
levels_of (h ∷ hs) n = n % h ∷ levels_of hs (n / h)

abbrev pub no_higher : List ℕ → List ℕ → Bool
no_higher [] [] = true
no_higher [] (m ∷ ms) = false
no_higher (l ∷ ls) [] = false
no_higher (l ∷ ls) (m ∷ ms) = leb l m && no_higher ls ms

abbrev pub finer : List ℕ → ℕ → ℕ → Bool
finer hs m n = no_higher (levels_of hs m) (levels_of hs n)
