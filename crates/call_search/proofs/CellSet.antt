-- The set of a cell, from its last dimension back.
use mathlib.Core.Path.{◌≡◌, refl, sym, ap, ◌∙◌}
use mathlib.Core.Bool.{Bool, true, false, not}
use mathlib.Core.List.{List, [], ◌∷◌, ◌++◌, append_assoc}
use Prim.Native.Nat.{ℕ, zero, suc, ◌^◌, ◌≤◌, ◌<◌}
use native.Mathlib.Omega.{arith}
use lib.Dec.{eqb}
use lib.ListN.{length, length-append}
use lib.Pow.{pow_pos}
use mir.Val.{bool_byte}
use Rattle.cube.specs.Codes.{ALL, bit, set-of}

pub bit_le : (b : Bool) → bit b ≤ 1
bit_le true = omega arith
bit_le false = omega arith

set-lt : (c : List ℕ) (n : ℕ) → length c ≤ n → set-of c < 2 ^ n
set-lt [] n h = omega (arith, pow_pos n)
set-lt (a ∷ c) zero h = absurd (omega arith)
set-lt (a ∷ c) (suc n) h = omega (arith, bit_le (eqb a ALL), set-lt c n (omega arith))

-- codes taken from the end of a cell, of which one more was left
module _ (cell rest next done : List ℕ) (x : ℕ) (e : cell ≡ rest ++ done) (f : rest ≡ next ++ (x ∷ [])) where
  -- the set of fewer than 8 dimensions
  pub set_room : length cell ≤ 8 → set-of done < 128
  set_room h = set-lt done 7 (omega (arith, h, simp length-append at (ap length e), simp length-append at (ap length f)))

  pub set_next : cell ≡ next ++ (x ∷ done)
  set_next = e ∙ ap (λ (r : List ℕ). r ++ done) f ∙ append_assoc next (x ∷ []) done

pub set_end : (cell rest done : List ℕ) → cell ≡ rest ++ done → length rest ≡ 0 → done ≡ cell
set_end cell [] done e h = sym e
set_end cell (x ∷ rest) done e h = absurd (omega arith)

pub bit_byte : (b : Bool) → bit b ≡ bool_byte (not b)
bit_byte true = refl
bit_byte false = refl
