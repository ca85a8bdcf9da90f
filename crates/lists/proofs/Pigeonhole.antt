-- Distinct members that all occur in another list: it is at least as long, and as long exactly when it has the same members, each as often.
use mathlib.Core.Path.{◌≡◌, refl, sym, ◌∙◌, ap}
use mathlib.Core.Logic.{◌≢◌, ◌⊎◌, inl, inr}
use mathlib.Core.List.Memᴰ
use mathlib.Core.List.Permᴰ
use mathlib.Core.List.{List, [], ◌∷◌, ◌++◌, Permᴰ, append-nil}
use Prim.Native.Nat.{suc, ◌≤◌}
use native.Mathlib.Omega.{arith}
use lib.ListN.{length, length-append}
use Rattle.lists.specs.Lists.{◌∈◌, Distinct}
use Rattle.lists.proofs.Tests.{cases}

module _ {A : Type 0} where
  pub perm_length : {l m : List A} → Permᴰ l m → length l ≡ length m
  perm_length Permᴰ.nil = refl
  perm_length (Permᴰ.cons e d) = ap suc (perm_length d)
  perm_length (Permᴰ.swap e f) = refl
  perm_length (Permᴰ.trans d e) = perm_length d ∙ perm_length e

  pub no_more : (l : List A) → length l ≡ 0 → l ≡ []
  no_more [] e = refl
  no_more (x ∷ l) e = absurd (omega arith)

  -- a list without one of its members
  take_out : {x : A} {l : List A} → x ∈ l → (m : List A) × Permᴰ l (x ∷ m) × ((y : A) → y ∈ l → (y ≡ x) ⊎ (y ∈ m))
  take_out {x = x} {l = []} x3 = elim x3 [ ]
  take_out {x} {l = z ∷ l} (Memᴰ.head e) =
      (l, Permᴰ.cons (sym e) (Permᴰ.refl l), λ y h. cases (Memᴰ.cases_cons h) (λ f. inl (f ∙ sym e)) inr)
  take_out {x} {l = z ∷ l} (Memᴰ.tail m) =
      let r = take_out m in (
        z ∷ r.0,
        Permᴰ.trans (Permᴰ.cons refl r.1) (Permᴰ.swap refl refl),
        λ y h. cases (Memᴰ.cases_cons h) (λ f. inr (Memᴰ.head f)) (λ i. cases (r.2 y i) inl (λ j. inr (Memᴰ.tail j))),
      )

  -- Distinct elements that all occur in another list are, up to order, a part of it.
  pub pigeonhole : (l m : List A) → Distinct l → ((x : A) → x ∈ l → x ∈ m) → (rest : List A) × Permᴰ m (l ++ rest)
  pigeonhole [] m d f = (m, Permᴰ.refl m)
  pigeonhole (x ∷ l) m d f =
      let o = take_out (f x (Memᴰ.head refl)) in
      let r = pigeonhole l o.0 d.1 (λ y h. cases (o.2 y (f y (Memᴰ.tail h))) (λ e. absurd (d.0 y h (sym e))) (λ i. i)) in
      (r.0, Permᴰ.trans o.1 (Permᴰ.cons refl r.1))

  -- So the other list is at least as long, and just as long exactly when it has the same elements, each as often.
  pub fewest : (l m : List A) → Distinct l → ((x : A) → x ∈ l → x ∈ m) → length l ≤ length m
  fewest l m d f = let r = pigeonhole l m d f in omega (arith, perm_length r.1, length-append l r.0)

  pub fewest_only : (l m : List A) → Distinct l → ((x : A) → x ∈ l → x ∈ m) → length l ≡ length m → Permᴰ m l
  fewest_only l m d f e = go (pigeonhole l m d f)
    where
      go : (rest : List A) × Permᴰ m (l ++ rest) → Permᴰ m l
      go r = let z : length r.0 ≡ 0 = omega (arith, perm_length r.1, length-append l r.0) in
          rw (no_more r.0 z, append-nil) at r.1

module _ {A : Type 0} where
  -- two different members make a length of 2; a length of 1 makes a member
  pub two_long : {x y : A} {l : List A} → x ∈ l → y ∈ l → x ≢ y → 2 ≤ length l
  two_long {x} {y} {l} m n d = fewest (x ∷ y ∷ []) l
      (λ z i e. d (e ∙ Memᴰ.eq_of_singleton i), (λ z i. absurd (Memᴰ.not-nil i), tt))
      (λ z i. cases (Memᴰ.cases_cons i) (λ e. Memᴰ.cast e m) (λ j. Memᴰ.cast (Memᴰ.eq_of_singleton j) n))

  pub one_long : (l : List A) → 1 ≤ length l → (x : A) × (x ∈ l)
  one_long [] h = absurd (omega arith)
  one_long (x ∷ l) h = (x, Memᴰ.head refl)
