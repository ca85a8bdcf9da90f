-- A record whose codes pass 13 is a base row within the limits of the archive.
use mathlib.Core.Path.{◌≡◌, refl, subst}
use mathlib.Core.Bool.{true}
use mathlib.Core.List.Memᴰ
use mathlib.Core.List.{List, [], ◌∷◌}
use Prim.Native.Nat.{ℕ, ◌^◌, ◌<◌}
use native.Mathlib.Omega.{arith}
use lib.IntN.{ℤ}
use lib.Signed.{mag}
use Rattle.lists.specs.Order.{earlier}
use Rattle.lists.proofs.Sorted.{rising-one}
use Rattle.fields_walk.specs.Limits.{Sized}
use Rattle.cube.specs.declared.Total.{Total}
use Rattle.cube.specs.Bounds.{can_make}
use Rattle.cube.proofs.Sums.{sums-add}
use Rattle.archive_entries.specs.Layout.{Limits}
use Rattle.call_answers.proofs.Made.{readings_make}
use Rattle.call_add.specs.Adds.{coded, record_of}
use Rattle.call_add.proofs.Codes.{coded-below}

module _ (zs x : List ℕ) (z : ℤ) (m : mag z < 2 ^ 31) where
  -- one reading makes its sum
  reading_makes : can_make 1 z ≡ true
  reading_makes = subst (λ (t : Total). can_make t.count t.sum ≡ true) (sums-add.none_more (record_of x z).total)
      (readings_make (record_of x z ∷ []) (λ r i. rw (Memᴰ.eq_of_singleton i) (m, refl)))

  pub record_limits : Sized zs → coded zs x ≡ true → Limits zs (record_of x z ∷ [])
  record_limits s k = record {
    sized = s;
    few = omega arith;
    rising = rising-one earlier x;
    each = λ r i. rw (Memᴰ.eq_of_singleton i) (record { below = coded-below zs x k; counted = omega arith; made = reading_makes });
    counts = omega arith;
  }
