-- Codes under the mask of a set are the codes of the cell: a code under ALL is ALL, and under 0 it stays.
use mathlib.Core.Path.{◌≡◌, refl, ap, ap₂, ◌∙◌}
use mathlib.Core.List.{List, [], ◌∷◌}
use Prim.Native.Nat.{ℕ, zero, suc, ◌+◌, ◌/◌, ◌%◌, ◌≤◌, ◌<◌}
use native.Mathlib.Nat.{div-one, mod-eq_of_lt}
use native.Mathlib.Omega.{arith}
use lib.Bits.{bit_and, bit_or, and_mask, or_add_and, or_zero_r}
use lib.ListN.{length, get_or, drop}
use lib.Pow.{shr-shr}
use lib.Seq.{get_or-drop}
use Rattle.lists.proofs.Members.{at_in}
use Rattle.cube.specs.Codes.{ALL, Coded, shown, cell}
use Rattle.rows.specs.Rows.{cut, row_at}
use Rattle.rows.proofs.Rows.{cut-length}
use Rattle.rows_order.specs.Index.{key, Valid}
use Rattle.archive_groups.specs.Masks.{missing_of, Mask, masked}

pub length-masked : (m x : List ℕ) → length (masked m x) ≡ length x
length-masked m [] = refl
length-masked m (a ∷ x) = ap suc (length-masked (drop 1 m) x)

or_shown : (k a : ℕ) → a < ALL → bit_or a (shown k 0) ≡ shown k a
or_shown zero a h =
    let low : bit_and a ALL ≡ a = and_mask a 16 ∙ mod-eq_of_lt (omega (arith, h)) in
    omega (arith, or_add_and a ALL, low)
or_shown (suc k) a h = or_zero_r a

missing_first : (s : ℕ) → missing_of s 0 ≡ shown (s % 2) 0
unfolding missing_of
missing_first s = ap (λ (t : ℕ). shown (t % 2) 0) (div-one s)

missing_half : (s d : ℕ) → missing_of s (1 + d) ≡ missing_of (s / 2) d
unfolding missing_of
missing_half s d = rw (shr-shr s 1 d)

masked_is : (d s : ℕ) (m x : List ℕ) → Coded d x → ((k : ℕ) → k < d → get_or m k 0 ≡ missing_of s k) → masked m x ≡ cell s x
masked_is zero s m [] v h = refl
masked_is zero s m (a ∷ x) v h = elim v [ ]
masked_is (suc d) s m [] v h = elim v [ ]
masked_is (suc d) s m (a ∷ x) v h =
    ap₂ ◌∷◌ (ap (bit_or a) (h 0 (omega arith) ∙ missing_first s) ∙ or_shown (s % 2) a v.0)
    (masked_is d (s / 2) (drop 1 m) x v.1 (λ k l. get_or-drop 1 m k 0 ∙ h (1 + k) (omega (arith, l)) ∙ missing_half s k))

pub masked-cell : (d s : ℕ) (m x : List ℕ) → d ≤ 8 → Coded d x → Mask s m → masked m x ≡ cell s x
masked-cell d s m x few v h = masked_is d s m x v (λ k l. h k (omega (arith, l, few)))

-- the row at place r among n rows
pub masked-key : (d n s r : ℕ) (ws m : List ℕ) → d ≤ 8 → Valid d (cut d n ws) → Mask s m → r < n → masked m (row_at (cut d n ws) r) ≡ key s (cut d n ws) r
unfolding key
masked-key d n s r ws m few v h named = masked-cell d s m (row_at (cut d n ws) r) few (v (row_at (cut d n ws) r) (at_in [] (cut d n ws) r (rw cut-length named))) h
