-- What the test of a sum and a count says, each way.
use mathlib.Core.Path.{◌≡◌}
use mathlib.Core.Bool.{true, ◌&&◌}
use Prim.Native.Nat.{ℕ, ◌+◌, ◌≤◌}
use lib.Dec.{leb}
use lib.IntN.{ℤ}
use borrow.Author.Tests.{le-leb, leb-true}
use Rattle.lists.proofs.Tests.{both, both_of}
use Rattle.cube.specs.Bounds.{most, can_make}
use Rattle.archive_entries.specs.Reading.{fair}

module _ (total : ℕ) (z : ℤ) (n : ℕ) where
  pub fair_true : fair total z n ≡ true → (1 ≤ n) × (can_make n z ≡ true) × (total + n ≤ most)
  unfolding fair
  fair_true e =
      let p = both (leb 1 n) (can_make n z && leb (total + n) most) e in
      let q = both (can_make n z) (leb (total + n) most) p.1 in
      (leb-true 1 n p.0, q.0, leb-true (total + n) most q.1)

  pub fair_of : 1 ≤ n → can_make n z ≡ true → total + n ≤ most → fair total z n ≡ true
  unfolding fair
  fair_of h e l = both_of (le-leb 1 n h) (both_of e (le-leb (total + n) most l))
