-- How long the lists are that members make, one behind the other.
use mathlib.Core.Path.{◌≡◌, refl}
use mathlib.Core.Bool.{Bool, true, false}
use mathlib.Core.List.Memᴰ
use mathlib.Core.List.{List, [], ◌∷◌, flat_map}
use Prim.Native.Nat.{ℕ, ◌+◌, ◌*◌, ◌≤◌}
use native.Mathlib.Omega.{arith}
use lib.ListN.{length, length-append}
use Rattle.lists.specs.Lists.{◌∈◌, only, keep}
use Rattle.lists.proofs.Members.{flat-length}

module _ {A B : Type 0} where
  -- lists of at least n members each
  pub flat-least : (f : A → List B) (n : ℕ) (l : List A) → ((x : A) → x ∈ l → n ≤ length (f x)) → length l * n ≤ length (flat_map f l)
  unfolding flat_map
  flat-least f n [] h = omega arith
  flat-least f n (x ∷ l) h = omega (arith, h x (Memᴰ.head refl), flat-least f n l (λ y m. h y (Memᴰ.tail m)), length-append (f x) (flat_map f l))

  -- longer lists each make a longer list
  pub flat_longer : (f g : A → List B) (l : List A) → ((x : A) → x ∈ l → length (f x) ≤ length (g x)) → length (flat_map f l) ≤ length (flat_map g l)
  unfolding flat_map
  flat_longer f g [] h = omega arith
  flat_longer f g (x ∷ l) h =
      let r = flat_longer f g l (λ y m. h y (Memᴰ.tail m)) in
      omega (arith, h x (Memᴰ.head refl), r, length-append (f x) (flat_map f l), length-append (g x) (flat_map g l))

  -- one pair more, from either side
  only_either : (b : Bool) (x : A) (y : B) (l : List A) (m : List B) → length (only b y m) + length l ≡ length (only b x l) + length m
  only_either true x y l m = omega arith
  only_either false x y l m = omega arith

  keep-more : (p : A → B → Bool) (xs : List A) (y : B) (ys : List B)
      → length (flat_map (λ x. keep (p x) (y ∷ ys)) xs) ≡ length (keep (λ x. p x y) xs) + length (flat_map (λ x. keep (p x) ys) xs)
  unfolding flat_map
  keep-more p [] y ys = refl
  keep-more p (x ∷ xs) y ys = omega (
    arith,
    length-append (keep (p x) (y ∷ ys)) (flat_map (λ x. keep (p x) (y ∷ ys)) xs),
    length-append (keep (p x) ys) (flat_map (λ x. keep (p x) ys) xs),
    only_either (p x y) x y (keep (λ x. p x y) xs) (keep (p x) ys),
    keep-more p xs y ys,
  )

  -- pairs that pass a test are as many, from whichever side they are counted
  pub keep_turned : (p : A → B → Bool) (xs : List A) (ys : List B) → length (flat_map (λ x. keep (p x) ys) xs) ≡ length (flat_map (λ y. keep (λ x. p x y) xs) ys)
  unfolding flat_map
  keep_turned p xs [] = omega (arith, flat-length (λ x. keep (p x) []) 0 xs (λ x m. omega arith))
  keep_turned p xs (y ∷ ys) =
      omega (arith, keep-more p xs y ys, keep_turned p xs ys, length-append (keep (λ x. p x y) xs) (flat_map (λ y. keep (λ x. p x y) xs) ys))

-- of two lists that each member makes, the second counted k times
pub flat-both : {A B C : Type 0} (f : A → List B) (g : A → List C) (k n : ℕ) (l : List A) → ((x : A) → x ∈ l → length (f x) + k * length (g x) ≤ n)
    → length (flat_map f l) + k * length (flat_map g l) ≤ length l * n
unfolding flat_map
flat-both f g k n [] h = omega arith
flat-both f g k n (x ∷ l) h =
    rw (length-append (f x) (flat_map f l), length-append (g x) (flat_map g l)) (omega (arith, h x (Memᴰ.head refl), flat-both f g k n l (λ y m. h y (Memᴰ.tail m))))
