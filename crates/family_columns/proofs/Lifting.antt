-- The codes of a dimension at the next level, from the places at which its levels stand.
use mathlib.Core.Path.{◌≡◌, refl}
use mathlib.Core.List.{List, [], ◌∷◌}
use Prim.Native.Nat.{ℕ, zero, suc, ◌+◌, ◌*◌, ◌≤◌, ◌<◌}
use native.Mathlib.Omega.{arith}
use lib.ListN.{length, get_or, take}
use Rattle.lists.proofs.Members.{at_in}
use Rattle.fields.specs.Words.{word_at, words_at}
use Rattle.fields.specs.WordsLaws.{length_words_at}
use Rattle.cube.specs.Codes.{ALL}
use Rattle.family_nodes.specs.Families.{lift}
use Rattle.family_fields.specs.Places.{size_at, tower_at, Stands}
use Rattle.family_columns.specs.Raised.{entry_of}

pub lift-next : (s : List ℕ) (z : ℕ) (ps : List ℕ) (l a : ℕ) → l < length ps → lift (tower_at s z ps) (suc l) a ≡ entry_of (words_at s (size_at s z (take l ps)) (get_or ps l 0 + 4)) (lift (tower_at s z ps) l a)
lift-next s z [] l a h = absurd (omega (arith, h))
lift-next s z (p ∷ ps) zero a h = refl
lift-next s z (p ∷ ps) (suc l) a h = lift-next s (word_at s p) ps l (entry_of (words_at s z (p + 4)) a) (omega (arith, h))

pub size-next : (s : List ℕ) (z : ℕ) (ps : List ℕ) (l : ℕ) → l < length ps → size_at s z (take (suc l) ps) ≡ word_at s (get_or ps l 0)
size-next s z [] l h = absurd (omega (arith, h))
size-next s z (p ∷ ps) zero h = refl
size-next s z (p ∷ ps) (suc l) h = size-next s (word_at s p) ps l (omega (arith, h))

pub stands_at : (s : List ℕ) (z : ℕ) (ps : List ℕ) (l : ℕ) → Stands s z ps → l < length ps → get_or ps l 0 + (4 + 4 * size_at s z (take l ps)) ≤ length s
stands_at s z [] l k h = absurd (omega (arith, h))
stands_at s z (p ∷ ps) zero k h = k.0
stands_at s z (p ∷ ps) (suc l) k h = stands_at s (word_at s p) ps l k.2 (omega (arith, h))

-- a code at a level is below its size
pub lift-below : (s : List ℕ) (z : ℕ) (ps : List ℕ) (l a : ℕ) → Stands s z ps → l ≤ length ps → a < z → lift (tower_at s z ps) l a < size_at s z (take l ps)
lift-below s z ps zero a k h g = g
lift-below s z [] (suc l) a k h g = absurd (omega (arith, h))
lift-below s z (p ∷ ps) (suc l) a k h g =
    let t = words_at s z (p + 4) in
    lift-below s (word_at s p) ps l (entry_of t a) k.2 (omega (arith, h)) (k.1.each (entry_of t a) (at_in ALL t a (omega (arith, g, length_words_at s z (p + 4)))))

-- and no size is above 65,535
pub size_small : (s : List ℕ) (z : ℕ) (ps : List ℕ) (l : ℕ) → z ≤ 65535 → Stands s z ps → size_at s z (take l ps) ≤ 65535
size_small s z ps zero g k = g
size_small s z [] (suc l) g k = g
size_small s z (p ∷ ps) (suc l) g k = size_small s (word_at s p) ps l k.1.most k.2
