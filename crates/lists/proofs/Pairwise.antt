-- Lists whose members are in a relation to every later one.
use mathlib.Core.Path.{◌≡◌, refl, sym, ◌∙◌}
use mathlib.Core.Logic.{◌≢◌, ◌⊎◌, inl, inr}
use mathlib.Core.Bool.{Bool, true, false}
use mathlib.Core.List.Memᴰ
use mathlib.Core.List.{List, [], ◌∷◌, ◌++◌, map, flat_map}
use Rattle.lists.specs.Lists.{◌∈◌, only, keep, Pairwise}
use Rattle.lists.proofs.Tests.{cases, truth}
use Rattle.lists.proofs.Members.{keep_in, keep-none, flat_in}

module _ {A : Type 0} where
  pub pairwise_imp : (R S : A → A → Type 0) (l : List A) → ((x y : A) → x ∈ l → y ∈ l → R x y → S x y) → Pairwise R l → Pairwise S l
  pairwise_imp R S [] f p = tt
  pairwise_imp R S (x ∷ l) f p = (λ y m. f x y (Memᴰ.head refl) (Memᴰ.tail m) (p.0 y m), pairwise_imp R S l (λ y z m n. f y z (Memᴰ.tail m) (Memᴰ.tail n)) p.1)

  pub pairwise_keep : (R : A → A → Type 0) (p : A → Bool) (l : List A) → Pairwise R l → Pairwise R (keep p l)
  pairwise_keep R p [] h = tt
  pairwise_keep R p (x ∷ l) h = elim (p x) as (λ b. Pairwise R (only b x (keep p l))) [
    | true ↦ (λ y m. h.0 y (keep_in p l m).0, pairwise_keep R p l h.1)
    | false ↦ pairwise_keep R p l h.1
  ]

  -- just one element passes, where a member passes and no two do
  pub keep_one : (p : A → Bool) {x : A} (l : List A) → Pairwise (λ y z. p y ≡ true → p z ≢ true) l → x ∈ l → p x ≡ true → keep p l ≡ x ∷ []
  keep_one p [] d m e = absurd (Memᴰ.not-nil m)
  keep_one p {x} (y ∷ l) d (Memᴰ.head q) e =
      let f : p y ≡ true = rw (← q) e in
      rw (f, keep-none p l (λ z m. d.0 z m f), q)
  keep_one p {x} (y ∷ l) d (Memᴰ.tail m) e = cases (truth (p y))
      (λ f. absurd (d.0 x m f e))
      (λ f. rw f (keep_one p l d.1 m e))

  pub pairwise_append : (R : A → A → Type 0) (l m : List A) → Pairwise R l → Pairwise R m → ((x y : A) → x ∈ l → y ∈ m → R x y) → Pairwise R (l ++ m)
  pairwise_append R [] m p q c = q
  pairwise_append R (x ∷ l) m p q c = (
    λ y h. cases (Memᴰ.append_cases l h) (p.0 y) (c x y (Memᴰ.head refl)),
    pairwise_append R l m p.1 q (λ y z i j. c y z (Memᴰ.tail i) j),
  )

  -- two members are one, or related one way or the other
  pub pairwise_either : (R : A → A → Type 0) {x y : A} {l : List A} → Pairwise R l → x ∈ l → y ∈ l → (x ≡ y) ⊎ (R x y ⊎ R y x)
  pairwise_either R {y = y} {l = []} p x9 _ = elim x9 [ ]
  pairwise_either R {l = z ∷ l} p (Memᴰ.head e) (Memᴰ.head f) = inl (e ∙ sym f)
  pairwise_either R {l = z ∷ l} p (Memᴰ.head e) (Memᴰ.tail n) = inr (inl (rw e (p.0 _ n)))
  pairwise_either R {l = z ∷ l} p (Memᴰ.tail m) (Memᴰ.head f) = inr (inr (rw f (p.0 _ m)))
  pairwise_either R {l = z ∷ l} p (Memᴰ.tail m) (Memᴰ.tail n) = pairwise_either R p.1 m n

module _ {A B : Type 0} where
  pub pairwise_map : (R : B → B → Type 0) (f : A → B) (l : List A) → Pairwise (λ x y. R (f x) (f y)) l → Pairwise R (map f l)
  pairwise_map R f [] p = tt
  pairwise_map R f (x ∷ l) p = (λ y m. let r = Memᴰ.of_map f l m in rw (← r.2) (p.0 r.0 r.1), pairwise_map R f l p.1)

  pub pairwise_of_map : (R : B → B → Type 0) (f : A → B) (l : List A) → Pairwise R (map f l) → Pairwise (λ x y. R (f x) (f y)) l
  pairwise_of_map R f [] p = tt
  pairwise_of_map R f (x ∷ l) p = (λ y m. p.0 (f y) (Memᴰ.map f m), pairwise_of_map R f l p.1)

  pub pairwise_flat : (R : B → B → Type 0) (f : A → List B) (l : List A) → ((x : A) → x ∈ l → Pairwise R (f x))
      → Pairwise (λ x y. (u v : B) → u ∈ f x → v ∈ f y → R u v) l → Pairwise R (flat_map f l)
  unfolding flat_map
  pairwise_flat R f [] h p = tt
  pairwise_flat R f (x ∷ l) h p = pairwise_append R (f x) (flat_map f l) (h x (Memᴰ.head refl))
      (pairwise_flat R f l (λ y m. h y (Memᴰ.tail m)) p.1)
      (λ u v i j. let r = flat_in f l j in p.0 r.0 r.1 u v i r.2)
