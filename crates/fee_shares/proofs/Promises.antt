-- The theorems of C-22: a fee shared by weights whose total is not 0.
use mathlib.Core.Path.{◌≡◌, sym, ◌∙◌, ap, subst}
use mathlib.Core.List.{List, map}
use Prim.Native.Nat.{ℕ, ◌*◌, ◌-◌, ◌≤◌, ◌<◌}
use lib.Dec.{ltb}
use lib.IntN.{ℤ, pos}
use lib.ListN.{length, get_or}
use Rattle.lists.specs.Lists.{sum}
use Rattle.fee_shares.specs.Shares.{count, rests, left, shares, apart, sumℤ, off}
use Rattle.fee_shares.specs.Given.{given}
use Rattle.fee_shares.proofs.Proportions as proportions
use Rattle.fee_shares.proofs.Best as best

module _ (fee : ℕ) (ws : List ℕ) (p : 0 < sum ws) where
  -- Each cell has a share, and the shares add up to the fee.
  pub one_each : length (shares fee ws) ≡ length ws
  one_each = proportions.shares-length fee ws

  pub shares-add_up : sum (shares fee ws) ≡ fee
  shares-add_up = proportions.shares_sum fee ws p

  -- Each differs from the exact proportion by less than a cent.
  pub less_than_a_cent : (i : ℕ) → i < length ws → apart (get_or (shares fee ws) i 0 * sum ws) (fee * get_or ws i 0) < sum ws
  less_than_a_cent i h =
      let s = proportions.share_threshold fee ws p in
      let cs : List ℕ = given s.0 (left fee ws - count (ltb s.0) (rests fee ws)) (rests fee ws) in
      subst (λ (l : List ℕ). apart (get_or l i 0 * sum ws) (fee * get_or ws i 0) < sum ws) (sym (proportions.shares-given fee ws s.0 s.2))
      (best.ours_near (sum ws) fee s.0 p s.1 ws cs i (proportions.shares-fair fee ws s.0 p) h)

  -- No split into whole cents that adds up to the fee, cents below zero too, has a smaller total of such differences.
  pub no_better : (ys : List ℤ) → length ys ≡ length ws → sumℤ ys ≡ pos fee → off (sum ws) fee ws (map pos (shares fee ws)) ≤ off (sum ws) fee ws ys
  no_better ys h e =
      let s = proportions.share_threshold fee ws p in
      let cs : List ℕ = given s.0 (left fee ws - count (ltb s.0) (rests fee ws)) (rests fee ws) in
      let q = proportions.shares-given fee ws s.0 s.2 in
      subst (λ (l : List ℕ). off (sum ws) fee ws (map pos l) ≤ off (sum ws) fee ws ys) (sym q)
      (best.ours_best (sum ws) fee s.0 p s.1 ws cs ys (proportions.shares-fair fee ws s.0 p) h
      (e ∙ ap pos (sym shares-add_up ∙ ap sum q)))
