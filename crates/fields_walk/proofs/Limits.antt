-- Codes below sizes within the limits are codes of a table, and a slice of bytes has bytes.
use mathlib.Core.Path.{refl, subst}
use mathlib.Core.List.Memᴰ
use mathlib.Core.List.{List, [], ◌∷◌}
use Prim.Native.Nat.{ℕ, ◌≤◌, ◌<◌}
use native.Mathlib.Omega.{arith}
use lib.ListN.{length, get_or}
use Rattle.lists.specs.Lists.{◌∈◌}
use Rattle.lists.proofs.Members.{in_at}
use Rattle.cube.specs.Codes.{Coded}
use Rattle.fields_walk.specs.Limits.{Below, Bytes}

pub below-coded : (zs x : List ℕ) → ((z : ℕ) → z ∈ zs → z ≤ 65535) → Below zs x → Coded (length zs) x
below-coded [] [] h b = tt
below-coded [] (a ∷ x) h b = absurd b
below-coded (z ∷ zs) [] h b = absurd b
below-coded (z ∷ zs) (a ∷ x) h b = (omega (arith, b.0, h z (Memᴰ.head refl)), below-coded zs x (λ y m. h y (Memᴰ.tail m)) b.1)

-- what a slice of bytes has are bytes
pub bytes_of : (s : List ℕ) → ((i : ℕ) → get_or s i 0 < 256) → Bytes s
bytes_of s h b m = let r = in_at 0 m in subst (λ (x : ℕ). x < 256) r.2 (h r.0)
