-- Lists that rise strictly, and sorting: a rising list is known by its members.
use mathlib.Core.Path.{◌≡◌, refl, sym, ◌∙◌, ap₂}
use mathlib.Core.Logic.{◌≢◌, ◌⊎◌, inl, inr}
use mathlib.Core.Bool.{Bool, true}
use mathlib.Core.List.Memᴰ
use mathlib.Core.List.{List, [], ◌∷◌}
use Prim.Native.Nat.{suc, ◌≤◌}
use native.Mathlib.Omega.{arith}
use lib.ListN.{length}
use Rattle.lists.specs.Lists.{◌∈◌, Distinct}
use Rattle.lists.specs.Order.{Strict, Rising, insert, sort}
use Rattle.lists.proofs.Tests.{cases, truth}
use Rattle.lists.proofs.Pairwise.{pairwise_imp}

module _ {A : Type 0} (less : A → A → Bool) where
  pub rising-one : (x : A) → Rising less (x ∷ [])
  rising-one x = (λ y m. absurd (Memᴰ.not-nil m), tt)

  -- what comes before the first comes before all
  pub rising_cons : Strict less → (x y : A) (l : List A) → less x y ≡ true → Rising less (y ∷ l) → Rising less (x ∷ y ∷ l)
  rising_cons o x y l e r = (λ z m. cases (Memᴰ.cases_cons m) (λ q. rw q e) (λ i. o.trans x y z e (r.0 z i)), r)

  insert_in : (x : A) {z : A} (l : List A) → z ∈ insert less x l → (z ≡ x) ⊎ (z ∈ l)
  insert_in x [] m = Memᴰ.cases_cons m
  insert_in x (y ∷ l) m = cases (truth (less x y))
      (λ p. Memᴰ.cases_cons (rw p at m))
      (λ p. cases (truth (less y x))
      (λ q. cases (Memᴰ.cases_cons (rw (p, q) at m)) (λ e. inr (Memᴰ.head e)) (λ i. cases (insert_in x l i) inl (λ j. inr (Memᴰ.tail j))))
      (λ q. inr (rw (p, q) at m)))

  pub sort_in : {z : A} (l : List A) → z ∈ sort less l → z ∈ l
  sort_in [] m = m
  sort_in (x ∷ l) m = cases (insert_in x (sort less l) m) Memᴰ.head (λ i. Memᴰ.tail (sort_in l i))

  module _ (o : Strict less) where
    insert_of : (x : A) {z : A} (l : List A) → (z ≡ x) ⊎ (z ∈ l) → z ∈ insert less x l
    insert_of x [] m = cases m Memᴰ.head Memᴰ.tail
    insert_of x (y ∷ l) m = cases (truth (less x y))
        (λ p. rw p (cases m Memᴰ.head Memᴰ.tail))
        (λ p. cases (truth (less y x))
        (λ q. rw (p, q) (cases m (λ e. Memᴰ.tail (insert_of x l (inl e))) (λ i. cases (Memᴰ.cases_cons i) Memᴰ.head (λ j. Memᴰ.tail (insert_of x l (inr j))))))
        (λ q. rw (p, q) (cases m (λ e. Memᴰ.head (e ∙ o.total x y p q)) (λ i. i))))

    insert-rising : (x : A) (l : List A) → Rising less l → Rising less (insert less x l)
    insert-rising x [] r = rising-one x
    insert-rising x (y ∷ l) r = cases (truth (less x y))
        (λ p. rw p (rising_cons o x y l p r))
        (λ p. cases (truth (less y x))
        (λ q. rw (p, q) (λ z m. cases (insert_in x l m) (λ e. rw e q) (r.0 z), insert-rising x l r.1))
        (λ q. rw (p, q) r))

    pub sort-rising : (l : List A) → Rising less (sort less l)
    sort-rising [] = tt
    sort-rising (x ∷ l) = insert-rising x (sort less l) (sort-rising l)

    pub sort_of : {z : A} {l : List A} → z ∈ l → z ∈ sort less l
    sort_of {z = z} {l = []} x'' = elim x'' [ ]
    sort_of {l = x ∷ l} (Memᴰ.head e) = insert_of x (sort less l) (inl e)
    sort_of {l = x ∷ l} (Memᴰ.tail m) = insert_of x (sort less l) (inr (sort_of m))

    -- a rising list is known by its members
    rest_in : {x y : A} {l m : List A} → x ≡ y → Rising less (x ∷ l) → ((z : A) → z ∈ x ∷ l → z ∈ y ∷ m) → (z : A) → z ∈ l → z ∈ m
    rest_in {x} {y} {l} {m} e r f z i = cases (Memᴰ.cases_cons (f z (Memᴰ.tail i)))
        (λ q. absurd (o.irrefl x (rw (q ∙ sym e) at (r.0 z i))))
        (λ j. j)

    pub rising_unique : (l m : List A) → Rising less l → Rising less m → ((z : A) → z ∈ l → z ∈ m) → ((z : A) → z ∈ m → z ∈ l) → l ≡ m
    rising_unique [] [] r t f g = refl
    rising_unique [] (y ∷ m) r t f g = absurd (Memᴰ.not-nil (g y (Memᴰ.head refl)))
    rising_unique (x ∷ l) [] r t f g = absurd (Memᴰ.not-nil (f x (Memᴰ.head refl)))
    rising_unique (x ∷ l) (y ∷ m) r t f g =
        let e : x ≡ y = cases (Memᴰ.cases_cons (f x (Memᴰ.head refl))) (λ q. q)
        (λ i. cases (Memᴰ.cases_cons (g y (Memᴰ.head refl))) sym
        (λ j. absurd (o.irrefl x (o.trans x y x (r.0 y j) (t.0 x i))))) in
        ap₂ ◌∷◌ e (rising_unique l m r.1 t.1 (rest_in e r f) (rest_in (sym e) t g))

    -- no element of a rising list occurs twice
    pub rising-distinct : (l : List A) → Rising less l → Distinct l
    rising-distinct l r = pairwise_imp (λ x y. less x y ≡ true) ◌≢◌ l (λ x y m n p e. o.irrefl y (rw e at p)) r

  -- sorting may drop repeated members
  insert-length : (x : A) (l : List A) → length (insert less x l) ≤ suc (length l)
  insert-length x [] = omega arith
  insert-length x (y ∷ l) = cases (truth (less x y))
      (λ p. rw p (omega arith))
      (λ p. cases (truth (less y x)) (λ q. rw (p, q) (omega (arith, insert-length x l))) (λ q. rw (p, q) (omega arith)))

  pub sort-length : (l : List A) → length (sort less l) ≤ length l
  sort-length [] = omega arith
  sort-length (x ∷ l) = omega (arith, insert-length x (sort less l), sort-length l)
