-- How many bytes things of equal length take, and the header.
use mathlib.Core.Path.{◌≡◌, refl, ap}
use mathlib.Core.List.Memᴰ
use mathlib.Core.List.{List, [], ◌∷◌, ◌++◌, flat_map}
use Prim.Native.Nat.{ℕ, suc, ◌+◌, ◌*◌}
use native.Mathlib.Nat.{zero-mul, suc-mul}
use native.Mathlib.Omega.{arith}
use lib.ListN.{length, length-append}
use Rattle.lists.specs.Lists.{◌∈◌}
use Rattle.fields.specs.Words.{word_bytes, words_bytes}
use Rattle.fields.specs.WordsLaws.{length_words_bytes}
use Rattle.fields_walk.specs.Fields.{header_bytes}
use Rattle.fields_walk.specs.Limits.{Below}

pub length-flat : {A : Type 0} (bytes : A → List ℕ) (k : ℕ) (xs : List A) → ((x : A) → x ∈ xs → length (bytes x) ≡ k) → length (flat_map bytes xs) ≡ length xs * k
unfolding flat_map
length-flat bytes k [] h = rw (zero-mul k)
length-flat bytes k (x ∷ xs) h =
    let e = length-flat bytes k xs (λ y m. h y (Memᴰ.tail m)) in
    let f = h x (Memᴰ.head refl) in
    let g : k + length xs * k ≡ suc (length xs) * k = rw suc-mul (omega arith) in
    omega (arith, length-append (bytes x) (flat_map bytes xs), e, f, g)

pub length-header : (opening zs : List ℕ) → length (header_bytes opening zs) ≡ length opening + 4 + 4 * length zs
length-header opening zs = omega (arith, length-append opening (word_bytes (length zs) ++ words_bytes zs), length_words_bytes zs)

-- one code for each size
pub length-below : (zs x : List ℕ) → Below zs x → length x ≡ length zs
length-below [] [] b = refl
length-below [] (a ∷ x) b = absurd b
length-below (z ∷ zs) [] b = absurd b
length-below (z ∷ zs) (a ∷ x) b = ap suc (length-below zs x b.1)
