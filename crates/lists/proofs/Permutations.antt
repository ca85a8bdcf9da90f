-- Lists in another order.
use mathlib.Core.Path.{◌≡◌, refl, sym, ap, ap₂, subst, ◌∙◌}
use mathlib.Core.Bool.{Bool, true, false}
use mathlib.Core.List.Memᴰ
use mathlib.Core.List.Permᴰ
use mathlib.Core.List.{List, [], ◌∷◌, map, Permᴰ}
use native.Mathlib.Omega.{arith}
use lib.ListN.{length}
use Rattle.lists.specs.Lists.{◌∈◌, only, keep}
use Rattle.lists.proofs.Tests.{cases}

module _ {A : Type 0} where
  pub perm_in : {x : A} {l m : List A} → Permᴰ l m → x ∈ l → x ∈ m
  perm_in Permᴰ.nil i = i
  perm_in (Permᴰ.cons e d) i = cases (Memᴰ.cases_cons i) (λ q. Memᴰ.head (q ∙ e)) (λ j. Memᴰ.tail (perm_in d j))
  perm_in (Permᴰ.swap e f) i = cases (Memᴰ.cases_cons i) (λ q. Memᴰ.tail (Memᴰ.head (q ∙ e)))
      (λ j. cases (Memᴰ.cases_cons j) (λ q. Memᴰ.head (q ∙ f)) (λ k. Memᴰ.tail (Memᴰ.tail k)))
  perm_in (Permᴰ.trans d e) i = perm_in e (perm_in d i)

  pub perm_back : {x : A} {l m : List A} → Permᴰ l m → x ∈ m → x ∈ l
  perm_back d i = perm_in (Permᴰ.symm d) i

  -- members that pass a test
  only_cons : (b : Bool) (x : A) {l m : List A} → Permᴰ l m → Permᴰ (only b x l) (only b x m)
  only_cons true x d = Permᴰ.cons refl d
  only_cons false x d = d

  only_swap : (b c : Bool) (x y : A) (l : List A) → Permᴰ (only b x (only c y l)) (only c y (only b x l))
  only_swap true true x y l = Permᴰ.swap refl refl
  only_swap true false x y l = Permᴰ.refl (x ∷ l)
  only_swap false c x y l = Permᴰ.refl (only c y l)

  pub perm_keep : (p : A → Bool) {l m : List A} → Permᴰ l m → Permᴰ (keep p l) (keep p m)
  perm_keep p Permᴰ.nil = Permᴰ.nil
  perm_keep p (Permᴰ.cons {a = a} {l₁ = l} {l₂ = m} e d) =
      subst (λ z. Permᴰ (only (p a) a (keep p l)) (only (p z) z (keep p m))) e (only_cons (p a) a (perm_keep p d))
  perm_keep p (Permᴰ.swap {a = a} {b = b} {a' = a'} {l = l} e f) =
      subst (λ z. Permᴰ (only (p a) a (only (p b) b (keep p l))) (only (p a') a' (only (p z) z (keep p l)))) e
      (subst (λ z. Permᴰ (only (p a) a (only (p b) b (keep p l))) (only (p z) z (only (p a) a (keep p l)))) f (only_swap (p a) (p b) a b (keep p l)))
  perm_keep p (Permᴰ.trans d e) = Permᴰ.trans (perm_keep p d) (perm_keep p e)

-- what is built member by member, and in which neighbours may change places
pub perm_same : {A B : Type 0} (f : List A → B) → ((x : A) (l m : List A) → f l ≡ f m → f (x ∷ l) ≡ f (x ∷ m)) → ((x y : A) (l : List A) → f (x ∷ y ∷ l) ≡ f (y ∷ x ∷ l))
    → {l m : List A} → Permᴰ l m → f l ≡ f m
perm_same f c s Permᴰ.nil = refl
perm_same f c s (Permᴰ.cons {b = b} {l₁ = l} {l₂ = m} e d) = ap (λ z. f (z ∷ l)) e ∙ c b l m (perm_same f c s d)
perm_same f c s (Permᴰ.swap {a = a} {b = b} {a' = a'} {l = l} e g) = s a b l ∙ ap (λ z. f (z ∷ a ∷ l)) g ∙ ap (λ z. f (a' ∷ z ∷ l)) e
perm_same f c s (Permᴰ.trans d e) = perm_same f c s d ∙ perm_same f c s e

-- what a function made, in another order, it makes of its arguments in that order
pub perm_map : {A B : Type 0} (f : A → B) {l m : List B} → Permᴰ l m → (xs : List A) → l ≡ map f xs → (ys : List A) × (m ≡ map f ys) × Permᴰ xs ys
perm_map f Permᴰ.nil [] q = ([], refl, Permᴰ.nil)
perm_map f Permᴰ.nil (x ∷ xs) q = absurd (omega (arith, ap length q))
perm_map f (Permᴰ.cons e d) [] q = absurd (omega (arith, ap length q))
perm_map f (Permᴰ.cons {a = a} {b = b} {l₁ = l} e d) (x ∷ xs) q =
    let g : a ≡ f x = cc in
    let h : l ≡ map f xs = cc in
    let r = perm_map f d xs h in
    (x ∷ r.0, ap₂ ◌∷◌ (sym e ∙ g) r.1, Permᴰ.cons refl r.2)
perm_map f (Permᴰ.swap e g) [] q = absurd (omega (arith, ap length q))
perm_map f (Permᴰ.swap e g) (x ∷ []) q = absurd (omega (arith, ap length q))
perm_map f (Permᴰ.swap {a = a} {b = b} {l = l} e g) (x ∷ y ∷ xs) q =
    let u : a ≡ f x = cc in
    let v : b ≡ f y = cc in
    let w : l ≡ map f xs = cc in
    (y ∷ x ∷ xs, ap₂ ◌∷◌ (sym g ∙ v) (ap₂ ◌∷◌ (sym e ∙ u) w), Permᴰ.swap refl refl)
perm_map f (Permᴰ.trans d e) xs q =
    let r = perm_map f d xs q in
    let t = perm_map f e r.0 r.1 in
    (t.0, t.1, Permᴰ.trans r.2 t.2)
