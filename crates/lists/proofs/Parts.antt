-- Parts of lists.
use mathlib.Core.Path.{◌≡◌, refl, sym, ap, ap₂, ◌∙◌}
use mathlib.Core.List.Memᴰ
use mathlib.Core.List.{List, [], ◌∷◌, ◌++◌, map, flat_map}
use Prim.Native.Nat.{ℕ, zero, suc, ◌+◌, ◌-◌, ◌≤◌}
use native.Mathlib.Nat.{zero-add, suc-add}
use native.Mathlib.Omega.{arith}
use lib.ListN.{length, take, drop, length-append, length-drop, take-append-drop}
use lib.Seq.{slice, length-take-le, take-append-add, take-nil, drop-nil, take-append-le, drop-append-le, take_at, drop_at}
use Rattle.lists.specs.Lists.{◌∈◌, joined}

-- what stands behind a front
pub drop-front : {A : Type 0} {l : List A} (p q : List A) (n : ℕ) → l ≡ p ++ q → length p ≡ n → drop n l ≡ q
drop-front p q n e h = ap (drop n) e ∙ drop_at p q n h

-- a front, and a front of what stands behind it
pub take_more : {A : Type 0} (n k : ℕ) (l : List A) → n ≤ length l → take (n + k) l ≡ take n l ++ take k (drop n l)
take_more n k l h =
    ap₂ (λ m u. take (m + k) u) (sym (length-take-le n l h)) (sym (take-append-drop n l)) ∙ take-append-add (take n l) (drop n l) k

-- fronts of equal length
pub front_same : {A : Type 0} (p q l m : List A) → p ++ l ≡ q ++ m → length p ≡ length q → p ≡ q
front_same p q l m e h = sym (take_at p l (length q) h) ∙ ap (take (length q)) e ∙ take_at q m (length q) refl

-- what stands behind them
pub back-same : {A : Type 0} (p q l m : List A) → p ++ l ≡ q ++ m → length p ≡ length q → l ≡ m
back-same p q l m e h = sym (drop-front p l (length q) refl h) ∙ ap (drop (length q)) e ∙ drop-front q m (length q) refl refl

-- lists one behind the other
pub joined-map : {A B : Type 0} (f : A → List B) (xs : List A) → joined (map f xs) ≡ flat_map f xs
unfolding flat_map
joined-map f [] = refl
joined-map f (x ∷ xs) = ap (λ l. f x ++ l) (joined-map f xs)

-- parts of one length are known by what they make together
pub parts_same : {A B : Type 0} (f : A → List B) (k : ℕ) → 1 ≤ k → (ps : List (List B)) (xs : List A) → ((p : List B) → p ∈ ps → length p ≡ k) → ((x : A) → x ∈ xs → length (f x) ≡ k)
    → joined ps ≡ flat_map f xs → ps ≡ map f xs
unfolding flat_map
parts_same f k h [] [] g l e = refl
parts_same f k h [] (x ∷ xs) g l e = absurd (omega (arith, ap length e, length-append (f x) (flat_map f xs), l x (Memᴰ.head refl)))
parts_same f k h (p ∷ ps) [] g l e = absurd (omega (arith, ap length e, length-append p (joined ps), g p (Memᴰ.head refl)))
parts_same f k h (p ∷ ps) (x ∷ xs) g l e =
    let n = g p (Memᴰ.head refl) ∙ sym (l x (Memᴰ.head refl)) in
    ap₂ ◌∷◌ (front_same p (f x) (joined ps) (flat_map f xs) e n)
    (parts_same f k h ps xs (λ q m. g q (Memᴰ.tail m)) (λ y m. l y (Memᴰ.tail m)) (back-same p (f x) (joined ps) (flat_map f xs) e n))

-- a part of a list that lies in its front
pub part-front : {A : Type 0} (p q : List A) (a d : ℕ) → a + d ≤ length p → take d (drop a (p ++ q)) ≡ take d (drop a p)
part-front p q a d h = rw (drop-append-le a p q (omega arith)) (take-append-le d (drop a p) q (simp length-drop (omega arith)))

-- the front of a list, from a place on
pub drop-take : {A : Type 0} (n m : ℕ) (l : List A) → drop n (take (n + m) l) ≡ take m (drop n l)
drop-take zero m l = rw zero-add
drop-take (suc n) m [] = simp (take-nil, drop-nil)
drop-take (suc n) m (x ∷ l) = rw suc-add (drop-take n m l)

-- members of a part are members
pub slice_in : {z : ℕ} (from end : ℕ) (l : List ℕ) → z ∈ slice from end l → z ∈ l
slice_in {z} from end l m =
    let p : z ∈ take end l = rw (take-append-drop from (take end l)) at (Memᴰ.append_right (take from (take end l)) m) in
    rw (take-append-drop end l) at (Memᴰ.append_left (drop end l) p)
