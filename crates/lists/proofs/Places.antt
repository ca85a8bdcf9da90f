-- The member at a place of a list.
use mathlib.Core.Path.{◌≡◌, refl, sym, ap}
use mathlib.Core.Logic.{◌≢◌, ◌⊎◌, inl, inr}
use mathlib.Core.Option.{some as just, none-ne-some}
use mathlib.Core.List.Memᴰ
use mathlib.Core.List.{List, [], ◌∷◌, ◌++◌, map}
use Prim.Native.Nat.{ℕ, ◌+◌, ◌<◌, zero, suc}
use native.Mathlib.Nat.{zero-add, suc-add}
use native.Mathlib.Omega.{arith}
use lib.Dec.{ltb}
use lib.ListN.{length, get_or, get_elem?, take, drop}
use lib.Seq.{get_or-drop}
use borrow.Author.Tests.{ltb-true, ltb-false}
use Rattle.lists.specs.Lists.{◌∈◌, Pairwise, Distinct}
use Rattle.lists.proofs.Tests.{cases, truth}
use Rattle.lists.proofs.Members.{at_in}

pub at-member : {A : Type 0} {x : A} (l : List A) (n : ℕ) → get_elem? l n ≡ just x → x ∈ l
at-member {x = x} [] n h = absurd (none-ne-some x h)
at-member {x = x} (y ∷ l) zero h = let q : x ≡ y = cc in Memᴰ.head q
at-member (y ∷ l) (suc n) h = Memᴰ.tail (at-member l n h)

-- each member has a place
pub member-at : {A : Type 0} {x : A} {l : List A} → x ∈ l → (n : ℕ) × (get_elem? l n ≡ just x)
member-at {A = A} {l = []} x3 = elim x3 [ ]
member-at {l = y ∷ l} (Memᴰ.head e) = (0, rw e)
member-at {l = y ∷ l} (Memᴰ.tail m) = let r = member-at m in (suc r.0, r.1)

pub at_map : {A B : Type 0} (f : A → B) {x : A} (l : List A) (n : ℕ) → get_elem? l n ≡ just x → get_elem? (map f l) n ≡ just (f x)
at_map f {x} [] n h = absurd (none-ne-some x h)
at_map f {x} (y ∷ l) zero h = let q : y ≡ x = cc in rw q
at_map f (y ∷ l) (suc n) h = at_map f l n h

pub at_left : {A : Type 0} {x : A} (l m : List A) (n : ℕ) → get_elem? l n ≡ just x → get_elem? (l ++ m) n ≡ just x
at_left {x = x} [] m n h = absurd (none-ne-some x h)
at_left (y ∷ l) m zero h = h
at_left (y ∷ l) m (suc n) h = at_left l m n h

pub at_right : {A B : Type 0} (f : A → B) (l : List A) (m : List B) (n : ℕ) → get_elem? (map f l ++ m) (length l + n) ≡ get_elem? m n
at_right f [] m n = rw zero-add
at_right f (x ∷ l) m n = rw suc-add (at_right f l m n)

-- members at two places are at one place, or in the relation one way or the other
pub pairwise_places : {A : Type 0} (R : A → A → Type 0) {x y : A} (l : List A) (m n : ℕ) → Pairwise R l → get_elem? l m ≡ just x → get_elem? l n ≡ just y
    → (m ≡ n) ⊎ (R x y ⊎ R y x)
pairwise_places R {x} [] m n p h k = absurd (none-ne-some x h)
pairwise_places R (z ∷ l) zero zero p h k = inl refl
pairwise_places R {x} {y} (z ∷ l) zero (suc n) p h k = let q : z ≡ x = cc in inr (inl (rw (← q) (p.0 y (at-member l n k))))
pairwise_places R {x} {y} (z ∷ l) (suc m) zero p h k = let q : z ≡ y = cc in inr (inr (rw (← q) (p.0 x (at-member l m h))))
pairwise_places R (z ∷ l) (suc m) (suc n) p h k = cases (pairwise_places R l m n p.1 h k) (λ e. inl (ap suc e)) inr

-- the same of `get_or`, whose value beyond the end is a
module _ {A : Type 0} (a : A) where
  -- the member at an earlier place is in the relation to that at a later one
  pub pairwise_at : (R : A → A → Type 0) (l : List A) (k j : ℕ) → Pairwise R l → k < j → j < length l → R (get_or l k a) (get_or l j a)
  pairwise_at R [] k j p h m = absurd (omega arith)
  pairwise_at R (x ∷ l) k zero p h m = absurd (omega arith)
  pairwise_at R (x ∷ l) zero (suc j) p h m = p.0 (get_or l j a) (at_in a l j (omega arith))
  pairwise_at R (x ∷ l) (suc k) (suc j) p h m = pairwise_at R l k j p.1 (omega arith) (omega arith)

  pub distinct-at : (l : List A) (k j : ℕ) → Distinct l → k < length l → j < length l → k ≢ j → get_or l k a ≢ get_or l j a
  distinct-at l k j p h m d = cases (truth (ltb k j))
      (λ e. pairwise_at ◌≢◌ l k j p (ltb-true k j e) m)
      (λ e. let g : j < k = omega (arith, ltb-false k j e) in λ q. pairwise_at ◌≢◌ l j k p g h (sym q))

-- the member at a place of a list that f made
pub map_at : {A B : Type 0} (f : A → B) (a : A) (b : B) (l : List A) (k : ℕ) → k < length l → get_or (map f l) k b ≡ f (get_or l k a)
map_at f a b [] k h = absurd (omega arith)
map_at f a b (x ∷ l) zero h = refl
map_at f a b (x ∷ l) (suc k) h = map_at f a b l k (omega arith)

-- the number at each place of a list, and beyond its end, is below a bound
abbrev pub EachBelow : ℕ → List ℕ → Type 0
EachBelow b l = (i : ℕ) → get_or l i 0 < b

pub below-drop : (b k : ℕ) (l : List ℕ) → EachBelow b l → EachBelow b (drop k l)
below-drop b k l h i = rw (get_or-drop k l i 0) (h (k + i))

pub below-take : (b k : ℕ) (l : List ℕ) → EachBelow b l → EachBelow b (take k l)
below-take b zero l h i = omega (arith, h i)
below-take b (suc k) [] h i = h i
below-take b (suc k) (x ∷ l) h zero = h 0
below-take b (suc k) (x ∷ l) h (suc i) = below-take b k l (λ j. h (suc j)) i
