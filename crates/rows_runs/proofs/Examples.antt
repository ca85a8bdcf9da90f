-- The order of rows and its groups carried over to a longer set, by computation.
use mathlib.Core.Path.{◌≡◌, refl}
use mathlib.Core.List.{List, [], ◌∷◌, map, flat_map}
use Prim.Native.Nat.{ℕ}
use lib.ListN.{length}
use Rattle.rows_compare.specs.Compare.{added}
use Rattle.rows_order.specs.Index.{key, insert, arranged, into}
use Rattle.rows_runs.specs.Runs.{members, runs, again}

-- six rows, of which the first and the last are the same
abbrev six : List (List ℕ)
six = (1 ∷ 0 ∷ 2 ∷ []) ∷ (0 ∷ 1 ∷ 1 ∷ []) ∷ (1 ∷ 0 ∷ 0 ∷ []) ∷ (0 ∷ 0 ∷ 1 ∷ []) ∷ (0 ∷ 1 ∷ 0 ∷ []) ∷ (1 ∷ 0 ∷ 2 ∷ []) ∷ []

abbrev order : ℕ → List ℕ
order s = arranged (key s six) (length six)

abbrev groups : ℕ → List (List ℕ)
groups s = map members (runs (key s six) (order s))

-- each group of set s ordered and grouped anew by the dimensions that set t adds
abbrev carried : ℕ → ℕ → List ℕ
carried s t = flat_map (again (key (added t s) six)) (runs (key s six) (order s))

abbrev carried-groups : ℕ → ℕ → List (List ℕ)
carried-groups s t = map members (flat_map (λ r. runs (key (added t s) six) (again (key (added t s) six) r)) (runs (key s six) (order s)))

first-groups : groups 1 ≡ (1 ∷ 3 ∷ 4 ∷ []) ∷ (0 ∷ 2 ∷ 5 ∷ []) ∷ []
unfolding key insert arranged runs
first-groups = refl

orders : map order (3 ∷ 5 ∷ 7 ∷ []) ≡ (3 ∷ 1 ∷ 4 ∷ 0 ∷ 2 ∷ 5 ∷ []) ∷ (4 ∷ 1 ∷ 3 ∷ 2 ∷ 0 ∷ 5 ∷ []) ∷ (3 ∷ 4 ∷ 1 ∷ 2 ∷ 0 ∷ 5 ∷ []) ∷ []
unfolding key insert arranged
orders = refl

orders_carried : map (carried 1) (3 ∷ 5 ∷ 7 ∷ []) ≡ map order (3 ∷ 5 ∷ 7 ∷ [])
unfolding key insert arranged into runs flat_map
orders_carried = refl

groups-carried : map (carried-groups 1) (3 ∷ 5 ∷ 7 ∷ []) ≡ map groups (3 ∷ 5 ∷ 7 ∷ [])
unfolding key insert arranged into runs flat_map
groups-carried = refl
