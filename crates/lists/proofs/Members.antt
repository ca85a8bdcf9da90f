-- Members of the lists that tests, functions and bounds make.
use mathlib.Core.Path.{◌≡◌, refl, sym, ap, ap₂, ◌∙◌}
use mathlib.Core.Logic.{◌≢◌, ◌⊎◌, inl, inr}
use mathlib.Core.Bool.{Bool, true, false, false≢true}
use mathlib.Core.List.Memᴰ
use mathlib.Core.List.{List, [], ◌∷◌, ◌++◌, map, flat_map, append_assoc}
use Prim.Native.Nat.{ℕ, zero, suc, ◌*◌, ◌≤◌, ◌<◌}
use native.Mathlib.Omega.{arith}
use lib.Dec.{eqb}
use lib.ListN.{length, get_or, length-append}
use native.Mathlib.Nat.{suc-mul}
use borrow.Author.Tests.{eqb-true, eqb-false}
use Rattle.lists.specs.Lists.{◌∈◌, only, keep, below, Distinct}
use Rattle.lists.proofs.Tests.{cases, truth}

module _ {A : Type 0} where
  pub only_in : {x y : A} {l : List A} (b : Bool) → x ∈ only b y l → ((x ≡ y) × (b ≡ true)) ⊎ (x ∈ l)
  only_in true (Memᴰ.head e) = inl (e, refl)
  only_in true (Memᴰ.tail m) = inr m
  only_in false m = inr m

  only_old : {x : A} {l : List A} (b : Bool) (y : A) → x ∈ l → x ∈ only b y l
  only_old true y m = Memᴰ.tail m
  only_old false y m = m

  pub keep_in : (p : A → Bool) {x : A} (l : List A) → x ∈ keep p l → (x ∈ l) × (p x ≡ true)
  keep_in p [] m = absurd (Memᴰ.not-nil m)
  keep_in p (y ∷ l) m = cases (only_in (p y) m)
      (λ h. (Memᴰ.head h.0, rw h.0 h.1))
      (λ h. let r = keep_in p l h in (Memᴰ.tail r.0, r.1))

  pub keep_of : (p : A → Bool) {x : A} {l : List A} → x ∈ l → p x ≡ true → x ∈ keep p l
  keep_of p {x = x} {l = []} x6 e = elim x6 [ ]
  keep_of p {x} {l = y ∷ l} (Memᴰ.head h) e = rw (rw h at e) (Memᴰ.head h)
  keep_of p {x} {l = y ∷ l} (Memᴰ.tail m) e = only_old (p y) y (keep_of p m e)

  -- nothing passes
  pub keep-none : (p : A → Bool) (l : List A) → ((x : A) → x ∈ l → p x ≢ true) → keep p l ≡ []
  keep-none p [] h = refl
  keep-none p (y ∷ l) h = cases (truth (p y))
      (λ e. absurd (h y (Memᴰ.head refl) e))
      (λ e. rw e (keep-none p l (λ x m. h x (Memᴰ.tail m))))

  -- the member at a place
  pub at_in : (a : A) (l : List A) (k : ℕ) → k < length l → get_or l k a ∈ l
  at_in a [] k h = absurd (omega arith)
  at_in a (x ∷ l) zero h = Memᴰ.head refl
  at_in a (x ∷ l) (suc k) h = Memᴰ.tail (at_in a l k (omega arith))

  pub in_at : (a : A) {x : A} {l : List A} → x ∈ l → (k : ℕ) × (k < length l) × (get_or l k a ≡ x)
  in_at a {l = []} x3 = elim x3 [ ]
  in_at a {l = y ∷ l} (Memᴰ.head e) = (0, omega arith, sym e)
  in_at a {l = y ∷ l} (Memᴰ.tail m) = let r = in_at a m in (suc r.0, omega (arith, r.1), r.2)

  pub keep_append : (p : A → Bool) (l m : List A) → keep p (l ++ m) ≡ keep p l ++ keep p m
  keep_append p [] m = refl
  keep_append p (x ∷ l) m = cases (truth (p x))
      (λ e. rw (e, keep_append p l m))
      (λ e. rw (e, keep_append p l m))

  pub keep-length : (p : A → Bool) (l : List A) → length (keep p l) ≤ length l
  keep-length p [] = omega arith
  keep-length p (x ∷ l) = cases (truth (p x)) (λ e. rw e (omega (arith, keep-length p l))) (λ e. rw e (omega (arith, keep-length p l)))

  -- tests that agree on the members keep the same
  pub keep_all : (p : A → Bool) (l : List A) → ((x : A) → x ∈ l → p x ≡ true) → keep p l ≡ l
  keep_all p [] h = refl
  keep_all p (x ∷ l) h = rw (h x (Memᴰ.head refl)) (ap (λ (m : List A). x ∷ m) (keep_all p l (λ y m. h y (Memᴰ.tail m))))

  pub keep_same : (p q : A → Bool) (l : List A) → ((x : A) → x ∈ l → p x ≡ q x) → keep p l ≡ keep q l
  keep_same p q [] h = refl
  keep_same p q (x ∷ l) h = ap₂ (λ (b : Bool) (k : List A). only b x k) (h x (Memᴰ.head refl)) (keep_same p q l (λ y m. h y (Memᴰ.tail m)))

  -- a part that has all which pass a test
  pub keep-part : (p q : A → Bool) (l : List A) → ((x : A) → x ∈ l → p x ≡ true → q x ≡ true) → keep p (keep q l) ≡ keep p l
  keep-part p q [] f = refl
  keep-part p q (x ∷ l) f =
      let rest = keep-part p q l (λ y m. f y (Memᴰ.tail m)) in
      cases (truth (q x))
      (λ e. rw (e, rest))
      (λ e. cases (truth (p x)) (λ g. absurd (false≢true (sym e ∙ f x (Memᴰ.head refl) g))) (λ g. rw (e, g, rest)))

module _ {A B : Type 0} where
  pub flat_in : (f : A → List B) {y : B} (l : List A) → y ∈ flat_map f l → (x : A) × (x ∈ l) × (y ∈ f x)
  unfolding flat_map
  flat_in f [] m = absurd (Memᴰ.not-nil m)
  flat_in f (x ∷ l) m = cases (Memᴰ.append_cases (f x) m)
      (λ h. (x, Memᴰ.head refl, h))
      (λ h. let r = flat_in f l h in (r.0, Memᴰ.tail r.1, r.2))

  pub flat_of : (f : A → List B) {x : A} {y : B} {l : List A} → x ∈ l → y ∈ f x → y ∈ flat_map f l
  unfolding flat_map
  flat_of f {x = x} {y = y} {l = []} x6 n = elim x6 [ ]
  flat_of f {x} {y} {l = z ∷ l} (Memᴰ.head e) n = let k : y ∈ f z = rw e at n in Memᴰ.append_left (flat_map f l) k
  flat_of f {l = z ∷ l} (Memᴰ.tail m) n = Memᴰ.append_right (f z) (flat_of f m n)

  -- functions that agree on the members make the same list
  pub map_same : (f g : A → B) (l : List A) → ((x : A) → x ∈ l → f x ≡ g x) → map f l ≡ map g l
  map_same f g [] h = refl
  map_same f g (x ∷ l) h = ap₂ ◌∷◌ (h x (Memᴰ.head refl)) (map_same f g l (λ y m. h y (Memᴰ.tail m)))

  pub flat-same : (f g : A → List B) (l : List A) → ((x : A) → x ∈ l → f x ≡ g x) → flat_map f l ≡ flat_map g l
  unfolding flat_map
  flat-same f g [] h = refl
  flat-same f g (x ∷ l) h = ap₂ ◌++◌ (h x (Memᴰ.head refl)) (flat-same f g l (λ y m. h y (Memᴰ.tail m)))

  -- what a test of f keeps, mapped by f
  pub keep-map : (p : B → Bool) (f : A → B) (l : List A) → keep p (map f l) ≡ map f (keep (λ x. p (f x)) l)
  keep-map p f [] = refl
  keep-map p f (x ∷ l) = cases (truth (p (f x))) (λ e. rw (e, keep-map p f l)) (λ e. rw (e, keep-map p f l))

-- what a list gives, then what another gives
pub flat_append : {A B : Type 0} (f : A → List B) (l m : List A) → flat_map f (l ++ m) ≡ flat_map f l ++ flat_map f m
unfolding flat_map
flat_append f [] m = refl
flat_append f (x ∷ l) m = ap (λ (r : List _). f x ++ r) (flat_append f l m) ∙ sym (append_assoc (f x) (flat_map f l) (flat_map f m))

pub flat-map : {A B C : Type 0} (g : B → List C) (f : A → B) (l : List A) → flat_map g (map f l) ≡ flat_map (λ x. g (f x)) l
unfolding flat_map
flat-map g f [] = refl
flat-map g f (x ∷ l) = ap (λ (m : List _). g (f x) ++ m) (flat-map g f l)

-- lists of at most n members each
pub flat-length : {A B : Type 0} (f : A → List B) (n : ℕ) (l : List A) → ((x : A) → x ∈ l → length (f x) ≤ n) → length (flat_map f l) ≤ length l * n
unfolding flat_map
flat-length f n [] h = omega arith
flat-length f n (x ∷ l) h =
    let r = flat-length f n l (λ y m. h y (Memᴰ.tail m)) in
    let m = suc-mul (length l) n in
    omega (arith, h x (Memᴰ.head refl), length-append (f x) (flat_map f l))

pub below_length : (n : ℕ) → length (below n) ≡ n
below_length zero = refl
below_length (suc n) = ap suc (below_length n)

pub below_in : {s : ℕ} (n : ℕ) → s ∈ below n → s < n
below_in zero m = absurd (Memᴰ.not-nil m)
below_in (suc n) (Memᴰ.head e) = omega arith
below_in (suc n) (Memᴰ.tail m) = omega (arith, below_in n m)

pub below-distinct : (n : ℕ) → Distinct (below n)
below-distinct zero = tt
below-distinct (suc n) = (λ s m e. absurd (omega (arith, below_in n m, e)), below-distinct n)

pub below_of : {s : ℕ} (n : ℕ) → s < n → s ∈ below n
below_of zero h = absurd (omega arith)
below_of {s} (suc n) h = cases (truth (eqb s n))
    (λ e. Memᴰ.head (eqb-true s n e))
    (λ e. let f : s ≢ n = eqb-false s n e in Memᴰ.tail (below_of n (omega arith)))
