-- A table of set numbers: one computed test gives its order and that it has each number below 256 and no other; so it is the lattice order of 8 dimensions,
-- and the sets of fewer dimensions stand in it in their lattice order.
use mathlib.Core.Path.{◌≡◌, refl, ap}
use mathlib.Core.Bool.{Bool, true, ◌&&◌}
use mathlib.Core.List.Memᴰ
use mathlib.Core.List.{List, [], ◌∷◌}
use Prim.Native.Nat.{ℕ, ◌<◌}
use lib.Dec.{eqb, ltb}
use lib.Count.{ones, ones_in}
use lib.ListN.{length, get_or}
use borrow.Author.Tests.{eqb-true, ltb-true}
use Rattle.lists.specs.Lists.{every, some, below}
use Rattle.lists.specs.Order.{Rising}
use Rattle.lists.proofs.Tests.{both, every_in, some_in}
use Rattle.lists.proofs.Members.{below_of, at_in}
use Rattle.lists.proofs.Sorted.{rising-one, rising_cons, rising_unique}
use Rattle.lattice.specs.Sets.{before, sets}
use Rattle.lattice.proofs.Sets.{by_lattice, sets-in, sets_of, sets-rising}

-- each set comes before the next
abbrev ordered : List ℕ → Bool
ordered [] = true
ordered (s ∷ []) = true
ordered (s ∷ t ∷ l) = before s t && ordered (t ∷ l)

-- the test: the order, every number below 256, and no other
abbrev pub right : List ℕ → Bool
right l = ordered l && (every (λ s. some (eqb s) l) (below 256) && every (λ s. ltb s 256) l)

ordered_rising : (l : List ℕ) → ordered l ≡ true → Rising before l
ordered_rising [] e = tt
ordered_rising (s ∷ []) e = rising-one before s
ordered_rising (s ∷ t ∷ l) e = let p = both (before s t) (ordered (t ∷ l)) e in rising_cons before by_lattice s t l p.0 (ordered_rising (t ∷ l) p.1)

pub table_is : (l : List ℕ) → right l ≡ true → l ≡ sets 8
table_is l e =
    let p = both (ordered l) (every (λ s. some (eqb s) l) (below 256) && every (λ s. ltb s 256) l) e in
    let q = both (every (λ s. some (eqb s) l) (below 256)) (every (λ s. ltb s 256) l) p.1 in
    rising_unique before by_lattice l (sets 8) (ordered_rising l p.0) (sets-rising 8)
    (λ s m. sets_of 8 (ltb-true s 256 (every_in (λ s. ltb s 256) q.1 m)))
    (λ s m. let r = some_in (eqb s) l (every_in (λ s. some (eqb s) l) q.0 (below_of 256 (sets-in 8 m))) in Memᴰ.cast (eqb-true s r.0 r.2) r.1)

-- the rule at each place of a table that passes
pub table_at : (l : List ℕ) (k : ℕ) → right l ≡ true → get_or l k 0 ≡ get_or (sets 8) k 0
table_at l k e = ap (λ (t : List ℕ). get_or t k 0) (table_is l e)

-- the set that is read at a place of the lattice order
pub set_read : {l : List ℕ} (k : ℕ) {s : ℕ} → l ≡ sets 8 → s ≡ get_or l k 0 → s ≡ get_or (sets 8) k 0
set_read k e h = rw e at h

pub all-sets : length (sets 8) ≡ 256
unfolding sets ones ones_in
all-sets = refl

pub set_below : (k : ℕ) → k < 256 → get_or (sets 8) k 0 < 256
set_below k h = sets-in 8 (at_in 0 (sets 8) k (rw all-sets h))
