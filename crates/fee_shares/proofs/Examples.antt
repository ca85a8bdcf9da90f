-- Shares worked out.
use mathlib.Core.Path.{◌≡◌, refl}
use mathlib.Core.List.{[], ◌∷◌}
use Rattle.fee_shares.specs.Shares.{left, shares}

-- the cent left goes to the earlier of equal remainders,
pub equal-weights : shares 100 (1 ∷ 1 ∷ 1 ∷ []) ≡ 34 ∷ 33 ∷ 33 ∷ []
unfolding shares left
equal-weights = refl

-- and to a larger one before it, though that cell has the smallest weight
pub largest_remainder : shares 10 (3 ∷ 3 ∷ 1 ∷ []) ≡ 4 ∷ 4 ∷ 2 ∷ []
unfolding shares left
largest_remainder = refl

-- two cents left
pub two_left : shares 1000 (2 ∷ 2 ∷ 2 ∷ 1 ∷ []) ≡ 286 ∷ 286 ∷ 285 ∷ 143 ∷ []
unfolding shares left
two_left = refl

-- nothing to share, and one cell that has all
pub no_fee : shares 0 (5 ∷ 7 ∷ []) ≡ 0 ∷ 0 ∷ []
unfolding shares left
no_fee = refl

pub one_cell : shares 1000000000 (1048576 ∷ []) ≡ 1000000000 ∷ []
unfolding shares left
one_cell = refl
