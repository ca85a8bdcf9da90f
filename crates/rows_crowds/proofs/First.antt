-- The empty set tells no rows apart: all share its cell, unless there is one row only.
use mathlib.Core.Path.{◌≡◌, refl, sym, ap, subst, ◌∙◌}
use mathlib.Core.Logic.{◌≢◌}
use mathlib.Core.Bool.{true}
use mathlib.Core.List.{List}
use Prim.Native.Nat.{ℕ, ◌≤◌, ◌<◌}
use native.Mathlib.Omega.{arith}
use lib.Dec.{leb}
use lib.ListN.{length}
use borrow.Author.Tests.{le-leb}
use Rattle.lists.specs.Order.{earlier, same}
use Rattle.lists.specs.Lists.{keep}
use Rattle.lists.proofs.Members.{keep_in, keep_all}
use Rattle.lists.proofs.Order.{same_refl}
use Rattle.rows.specs.Rows.{cut}
use Rattle.rows_order.specs.Index.{key, arranged, Valid}
use Rattle.rows_order.proofs.Numbers.{numbers, numbers_in}
use Rattle.rows_order.proofs.Arranged.{arranged_in, arranged-length}
use Rattle.rows_slots.specs.Slots.{peer, shares, all_rows}
use Rattle.rows_slots.proofs.Last.{key-none}
use Rattle.rows_slots.proofs.Stable.{arranged_kept, stable-same}

module _ (d n : ℕ) (ws : List ℕ) (v : Valid d (cut d n ws)) where
  abbrev xs : List (List ℕ)
  xs = cut d n ws

  pub first-shares : (least : ℕ) → least ≤ 2 → n ≢ 1 → (x : ℕ) → x < n → shares least (key 0 xs) n x ≡ true
  unfolding shares
  first-shares least high more x h =
      let all = keep_all (peer (key 0 xs) x) (arranged (key 0 xs) n)
      (λ y m. subst (λ (c : List ℕ). same (key 0 xs x) c ≡ true) (key-none d n ws v x y h (arranged_in (key 0 xs) n m)) (same_refl (key 0 xs x))) in
      ap (λ (l : List ℕ). leb least (length l)) all ∙ ap (leb least) (arranged-length (key 0 xs) n) ∙ le-leb least n (omega (arith, high, more, h))

-- ---- two keys of the same order

pub arranged-same : (keys other : ℕ → List ℕ) (n : ℕ) → ((x y : ℕ) → x < n → y < n → earlier (keys x) (keys y) ≡ earlier (other x) (other y)) → arranged keys n ≡ arranged other n
arranged-same keys other n h =
    sym (keep_all all_rows (arranged keys n) (λ x m. refl)) ∙ arranged_kept keys all_rows n
    ∙ stable-same keys other (keep all_rows (numbers n)) (λ x y i j. h x y (numbers_in n (keep_in all_rows (numbers n) i).0) (numbers_in n (keep_in all_rows (numbers n) j).0))
    ∙ sym (arranged_kept other all_rows n) ∙ keep_all all_rows (arranged other n) (λ x m. refl)
