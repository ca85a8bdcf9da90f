-- Tests that passed or failed, of two parts and of all members of a list.
use mathlib.Core.Path.{◌≡◌, refl, sym, ◌∙◌, ap, ap₂}
use mathlib.Core.Logic.{◌≢◌, ◌⊎◌, inl, inr}
use mathlib.Core.Bool.{Bool, true, false, ◌&&◌, ◌||◌, false≢true, or-true, and_assoc}
use mathlib.Core.List.Memᴰ
use mathlib.Core.List.{List, [], ◌∷◌, ◌++◌}
use Rattle.lists.specs.Lists.{◌∈◌, every, some}

-- one of two cases; the case stands first, so that the answers' types are known when they are read
abbrev pub cases : {A B C : Type 0} → A ⊎ B → (A → C) → (B → C) → C
cases (inl a) f g = f a
cases (inr b) f g = g b

-- the two sides of a conjunction that passed, and of a disjunction that passed or failed
pub both : (a b : Bool) → a && b ≡ true → (a ≡ true) × (b ≡ true)
both true b e = (refl, e)
both false b e = absurd (false≢true e)

pub both_of : {a b : Bool} → a ≡ true → b ≡ true → a && b ≡ true
both_of p q = cc

pub either : (a b : Bool) → a || b ≡ true → (a ≡ true) ⊎ (b ≡ true)
either true b e = inl e
either false b e = inr e

pub neither : (a b : Bool) → a || b ≡ false → (a ≡ false) × (b ≡ false)
neither true b e = absurd (false≢true (sym e))
neither false b e = (refl, e)

-- a test passed or failed
pub truth : (b : Bool) → (b ≡ true) ⊎ (b ≡ false)
truth true = inl refl
truth false = inr refl

-- a test that cannot pass failed
pub refuted : {b : Bool} → b ≢ true → b ≡ false
refuted {b = true} n = absurd (n refl)
refuted {b = false} n = refl

module _ {A : Type 0} where
  pub every_in : (p : A → Bool) {x : A} {l : List A} → every p l ≡ true → x ∈ l → p x ≡ true
  every_in p {l = []} e x6 = elim x6 [ ]
  every_in p {l = y ∷ l} e (Memᴰ.head h) = rw h (both (p y) (every p l) e).0
  every_in p {l = y ∷ l} e (Memᴰ.tail m) = every_in p (both (p y) (every p l) e).1 m

  pub every_of : (p : A → Bool) (l : List A) → ((x : A) → x ∈ l → p x ≡ true) → every p l ≡ true
  every_of p [] h = refl
  every_of p (y ∷ l) h = both_of (h y (Memᴰ.head refl)) (every_of p l (λ x m. h x (Memᴰ.tail m)))

  pub some_in : (p : A → Bool) (l : List A) → some p l ≡ true → (x : A) × (x ∈ l) × (p x ≡ true)
  some_in p [] e = absurd (false≢true e)
  some_in p (y ∷ l) e = cases (either (p y) (some p l) e)
      (λ h. (y, Memᴰ.head refl, h))
      (λ h. let r = some_in p l h in (r.0, Memᴰ.tail r.1, r.2))

  pub some_of : (p : A → Bool) {x : A} {l : List A} → x ∈ l → p x ≡ true → some p l ≡ true
  some_of p {l = []} x6 e = elim x6 [ ]
  some_of p {l = y ∷ l} (Memᴰ.head h) e = let t : p y ≡ true = rw (← h) e in cc
  some_of p {l = y ∷ l} (Memᴰ.tail m) e = let t : some p l ≡ true = some_of p m e in rw (t, or-true)

  pub some_not : (p : A → Bool) {x : A} {l : List A} → some p l ≡ false → x ∈ l → p x ≡ false
  some_not p e m = refuted (λ h. false≢true (sym e ∙ some_of p m h))

  -- tests that agree on the members
  pub some_same : (p q : A → Bool) (l : List A) → ((x : A) → x ∈ l → p x ≡ q x) → some p l ≡ some q l
  some_same p q [] f = refl
  some_same p q (x ∷ l) f = ap₂ ◌||◌ (f x (Memᴰ.head refl)) (some_same p q l (λ y m. f y (Memᴰ.tail m)))

  -- some element fails where not all pass
  pub every_not : (p : A → Bool) (l : List A) → every p l ≡ false → (x : A) × (x ∈ l) × (p x ≡ false)
  every_not p [] e = absurd (false≢true (sym e))
  every_not p (y ∷ l) e = cases (truth (p y))
      (λ h. let r = every_not p l (rw h at e) in (r.0, Memᴰ.tail r.1, r.2))
      (λ h. (y, Memᴰ.head refl, h))

  pub every_append : (p : A → Bool) (l m : List A) → every p (l ++ m) ≡ every p l && every p m
  every_append p [] m = refl
  every_append p (x ∷ l) m = ap (λ (b : Bool). p x && b) (every_append p l m) ∙ sym (and_assoc (p x) (every p l) (every p m))
