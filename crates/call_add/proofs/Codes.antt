-- Codes that are a row's: tested dimension by dimension, below the sizes, and as many as there are.
use mathlib.Core.Path.{◌≡◌, refl, ap}
use mathlib.Core.Logic.{◌≢◌}
use mathlib.Core.Bool.{Bool, true, false, ◌&&◌, false≢true, and-false}
use mathlib.Core.List.{List, [], ◌∷◌}
use Prim.Native.Nat.{ℕ, suc}
use native.Mathlib.Omega.{arith}
use lib.Dec.{ltb}
use lib.ListN.{length}
use borrow.Author.Tests.{ltb-true, lt-ltb}
use Rattle.std.specs.List.{list_all, zip}
use Rattle.lists.proofs.Tests.{both, both_of}
use Rattle.fields_walk.specs.Limits.{Below}
use Rattle.call_add.specs.Adds.{coded}

pub coded-length : (zs x : List ℕ) → length x ≢ length zs → coded zs x ≡ false
coded-length [] [] n = absurd (n refl)
coded-length [] (a ∷ x) n = refl
coded-length (z ∷ zs) [] n = refl
coded-length (z ∷ zs) (a ∷ x) n = rw (coded-length zs x (λ e. n (ap suc e)), and-false)

pub coded-below : (zs x : List ℕ) → coded zs x ≡ true → Below zs x
coded-below [] [] h = tt
coded-below [] (a ∷ x) h = absurd (false≢true h)
coded-below (z ∷ zs) [] h = absurd (false≢true h)
coded-below (z ∷ zs) (a ∷ x) h = let p = both (ltb a z) (coded zs x) h in (ltb-true a z p.0, coded-below zs x p.1)

pub below_is_coded : (zs x : List ℕ) → Below zs x → coded zs x ≡ true
below_is_coded [] [] h = refl
below_is_coded [] (a ∷ x) h = absurd h
below_is_coded (z ∷ zs) [] h = absurd h
below_is_coded (z ∷ zs) (a ∷ x) h = both_of (lt-ltb a z h.0) (below_is_coded zs x h.1)

-- codes beside sizes, each below its size
pub coded-zip : (zs x : List ℕ) → length x ≡ length zs → list_all (λ p. ltb p.0 p.1) (zip x zs) ≡ coded zs x
coded-zip [] [] e = refl
coded-zip [] (a ∷ x) e = absurd (omega (arith, e))
coded-zip (z ∷ zs) [] e = absurd (omega (arith, e))
coded-zip (z ∷ zs) (a ∷ x) e = ap (λ (b : Bool). ltb a z && b) (coded-zip zs x (omega (arith, e)))
