-- Families of codes: each dimension has levels, level 0 being the codes, with a table from each level's codes to the next's; ALL lies above the top. A cell
-- begins with the number of its node, since codes alone do not tell their level.
--
--   Level               a level above another: how many codes it has, and the table to them from the codes of the level below
--   Levels              the levels of a dimension above its codes, without ALL
--   height t            how many levels a dimension has: the codes, those above, ALL
--   heights ts          the same of each dimension
--   lift t l a          code a of level 0 at level l
--   lifted ts ls x      codes x at levels ls
--   coarse ts n x       codes x at the levels of node n
--   node c              the node of a cell
--   falls_in ts c x      codes x fall in cell c: there is such a node, and its codes are theirs
--   families ts         the lattice of the nodes, by falling number
--   listed_by_node p q    cell p is listed before cell q: by falling node, then by codes
use Rattle.std.specs.Prelude.{Bool, false, ◌&&◌, ◌||◌, List, [], ◌∷◌, map, ℕ, zero, suc, ◌+◌, ◌-◌, eqb, ltb, length, get_or, replicate}
use Rattle.lists.specs.Lists.{below}
use Rattle.lists.specs.Order.{earlier, same}
use Rattle.cube.specs.Measure.{Row}
use Rattle.cube.specs.Lattice.{Lattice}
use Rattle.cube.specs.Codes.{ALL, Coded}
use Rattle.family_nodes.specs.Nodes.{node_count, levels_of, finer}

pub record Level : Type 0 where
  pub size : ℕ
  pub table : List ℕ

abbrev pub Levels : Type 0
Levels = List Level

abbrev pub height : Levels → ℕ
height t = length t + 2

abbrev pub heights : List Levels → List ℕ
heights ts = map height ts

abbrev pub lift : Levels → ℕ → ℕ → ℕ
lift t zero a = a
lift [] (suc l) a = ALL
lift (v ∷ t) (suc l) a = lift t l (get_or v.table a ALL)

abbrev pub lifted : List Levels → List ℕ → List ℕ → List ℕ
lifted [] ls x = []
lifted (t ∷ ts) [] x = []
lifted (t ∷ ts) (l ∷ ls) [] = []
lifted (t ∷ ts) (l ∷ ls) (a ∷ x) = lift t l a ∷ lifted ts ls x

abbrev pub coarse : List Levels → ℕ → List ℕ → List ℕ
coarse ts n x = lifted ts (levels_of (heights ts) n) x

-- the node of a cell
abbrev pub node : List ℕ → ℕ
node [] = 0
node (n ∷ c) = n

abbrev pub falls_in : List Levels → List ℕ → List ℕ → Bool
falls_in ts [] x = false
falls_in ts (n ∷ c) x = ltb n (node_count (heights ts)) && same c (coarse ts n x)

abbrev pub families : List Levels → Lattice
families ts = record {
  nodes = below (node_count (heights ts));
  finest = 0;
  holds = finer (heights ts);
  cell = λ n x. n ∷ coarse ts n x;
  node_of = node;
  whole = (node_count (heights ts) - 1) ∷ replicate (length ts) ALL;
  agree = λ n x y. same (coarse ts n x) (coarse ts n y);
  falls = falls_in ts;
  valid = Coded (length ts);
}

-- cell p is listed before cell q: by falling node, then by codes
abbrev pub listed_by_node : {A : Type 0} → Row A → Row A → Bool
listed_by_node p q = ltb (node q.codes) (node p.codes) || (eqb (node p.codes) (node q.codes) && earlier p.codes q.codes)
