-- The cents left, given out by a threshold.
--
--   Threshold v m rs    the m largest of the remainders rs are those above v and some of those that are v
--   Low l               no number is above the greatest fee
--   given v k l         a cent for each remainder above v, and for the first k of those that are v
use Rattle.std.specs.Prelude.{Bool, ◌&&◌, ◌||◌, List, [], ◌∷◌, ℕ, ◌-◌, ◌≤◌, eqb, ltb, leb, get_or}
use Rattle.fee_shares.specs.Shares.{count, cent}

pub record Threshold (v m : ℕ) (rs : List ℕ) : Type 0 where
  pub above : count (ltb v) rs ≤ m
  pub enough : m ≤ count (leb v) rs

abbrev pub Low : List ℕ → Type 0
Low l = (i : ℕ) → get_or l i 0 ≤ 1000000000

-- whether a cell with remainder r gets a cent, with k cents for those that are v
abbrev pub gets : ℕ → ℕ → ℕ → Bool
gets v k r = ltb v r || (eqb v r && ltb 0 k)

abbrev pub given : ℕ → ℕ → List ℕ → List ℕ
given v k [] = []
given v k (r ∷ l) = cent (gets v k r) ∷ given v (k - cent (eqb v r)) l
