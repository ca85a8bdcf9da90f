-- Loops over the 256 sets in lattice order, of which those below a bound have a turn.
use mathlib.Core.Path.{◌≡◌, sym, ap, ◌∙◌}
use mathlib.Core.Logic.{◌≢◌}
use mathlib.Core.Bool.{not}
use mathlib.Core.List.{[], ◌∷◌}
use Prim.Native.Nat.{ℕ, ◌+◌, ◌^◌, ◌≤◌, ◌<◌}
use native.Mathlib.Numerals.{add-one}
use native.Mathlib.Omega.{arith}
use lib.Dec.{eqb, ltb}
use lib.ListN.{get_or, drop_of_length-le}
use lib.Seq.{drop-cons}
use borrow.Author.Tests.{lt-ltb, le-ltb, ltb-true, eqb-true, eqb-false}
use Rattle.lists.specs.Lists.{keep}
use Rattle.lists.proofs.Tests.{cases, truth}
use Rattle.lists.proofs.Members.{keep_same, keep-part}
use Rattle.lattice.specs.Sets.{full, sets, sets_from}
use Rattle.lattice.proofs.Sets.{full-lt, sets-in, sets-part}
use Rattle.lattice.proofs.Table.{all-sets}

-- at the start all sets of d dimensions,
pub from_start : (d : ℕ) → d ≤ 8 → sets_from (2 ^ d) 0 ≡ sets d
unfolding sets_from
from_start d h = sym (sets-part d 8 h)

-- or all but the full one
pub from-full : (d : ℕ) → d ≤ 8 → sets_from (full d) 0 ≡ keep (λ s. not (eqb s (full d))) (sets d)
unfolding sets_from
from-full d h =
    sym (keep-part (λ s. ltb s (full d)) (λ s. ltb s (2 ^ d)) (sets 8) (λ s m e. lt-ltb s (2 ^ d) (omega (arith, ltb-true s (full d) e, full-lt d))))
    ∙ ap (keep (λ s. ltb s (full d))) (sym (sets-part d 8 h))
    ∙ keep_same (λ s. ltb s (full d)) (λ s. not (eqb s (full d))) (sets d) (λ s m. other s (full d) (omega (arith, sets-in d m)))
  where
    other : (s n : ℕ) → s ≤ n → ltb s n ≡ not (eqb s n)
    other s n k = cases (truth (eqb s n))
        (λ e. rw (e, le-ltb s n (omega (arith, eqb-true s n e))))
        (λ e. let f : s ≢ n = eqb-false s n e in rw (e, lt-ltb s n (omega arith)))

module _ (m k : ℕ) (h : k < 256) where
  -- this set, and those after it;
  pub from_on : get_or (sets 8) k 0 < m → sets_from m k ≡ get_or (sets 8) k 0 ∷ sets_from m (k + 1)
  unfolding sets_from
  from_on l = rw (drop-cons (sets 8) k 0 (omega (arith, h, all-sets)), lt-ltb (get_or (sets 8) k 0) m l, add-one)

  -- or it has no turn
  pub from-off : m ≤ get_or (sets 8) k 0 → sets_from m k ≡ sets_from m (k + 1)
  unfolding sets_from
  from-off l = rw (drop-cons (sets 8) k 0 (omega (arith, h, all-sets)), le-ltb (get_or (sets 8) k 0) m l, add-one)

pub from-done : (m k : ℕ) → 256 ≤ k → sets_from m k ≡ []
unfolding sets_from
from-done m k h = rw (drop_of_length-le (sets 8) {i = k} (omega (arith, h, all-sets)))
