-- Whether codes are single among rows, one row after the other.
use mathlib.Core.Path.{◌≡◌}
use mathlib.Core.Logic.{◌≢◌}
use mathlib.Core.Bool.{true, false, not, ◌&&◌, ◌||◌, or-true}
use mathlib.Core.List.{List, []}
use Prim.Native.Nat.{ℕ, ◌+◌, ◌≤◌, ◌<◌}
use native.Mathlib.Numerals.{add-one}
use lib.ListN.{length, drop, drop_of_length-le}
use lib.Seq.{drop-cons}
use Rattle.lists.specs.Order.{same}
use Rattle.lists.proofs.Tests.{cases, truth}
use Rattle.lists.proofs.Order.{same-eq, same_refl}
use Rattle.cube.specs.Lattice.{Lattice}
use Rattle.cube.specs.Condensed.{single}
use Rattle.rows.specs.Rows.{row_at}

module _ (L : Lattice) (s : ℕ) (x : List ℕ) (xs : List (List ℕ)) (i : ℕ) where
  pub single-done : length xs ≤ i → single L (drop i xs) s x ≡ true
  unfolding single
  single-done h = rw (drop_of_length-le xs h)

  module _ (h : i < length xs) where
    single_more : single L (drop i xs) s x ≡ (not (L.agree s x (row_at xs i)) || same x (row_at xs i)) && single L (drop (i + 1) xs) s x
    unfolding single
    single_more = rw (add-one, drop-cons xs i [])

    -- the row itself, and one that does not agree, are passed over
    pub single-own : x ≡ row_at xs i → single L (drop (i + 1) xs) s x ≡ single L (drop i xs) s x
    single-own e = rw (single_more, ← e, same_refl x, or-true)

    module _ {y : List ℕ} (e : y ≡ row_at xs i) where
      pub single_skip : L.agree s x y ≡ false → single L (drop (i + 1) xs) s x ≡ single L (drop i xs) s x
      single_skip a = rw (single_more, ← e, a)

      -- another that agrees settles it
      pub single-stop : L.agree s x y ≡ true → x ≢ y → single L (drop i xs) s x ≡ false
      single-stop a d = cases (truth (same x y))
          (λ q. absurd (d (same-eq x y q)))
          (λ q. rw (single_more, ← e, a, q))
