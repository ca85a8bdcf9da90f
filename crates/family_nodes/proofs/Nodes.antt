-- Numbers and levels of nodes belong together, and a finer node has no larger number.
use mathlib.Core.Path.{◌≡◌, refl, sym, ap, ap₂, ◌∙◌}
use mathlib.Core.Bool.{true, false≢true}
use mathlib.Core.List.Memᴰ
use mathlib.Core.List.{List, [], ◌∷◌, map}
use Prim.Native.Nat.{ℕ, suc, ◌+◌, ◌-◌, ◌*◌, ◌/◌, ◌%◌, ◌≤◌, ◌<◌}
use native.Mathlib.Nat.{mul_assoc, mul-add, mul_comm, mul-suc, one-mul, mul-pos, mul-le-mul_left, mod-lt, mod-eq_of_lt, div-eq_of_lt, zero-mod, zero-div, div-add-mod, div-lt_iff_lt-mul, add-mul-div_left, add-mul-mod_self_left}
use native.Mathlib.Omega.{arith}
use lib.Dec.{leb}
use borrow.Author.Tests.{leb-true, le-leb}
use Rattle.lists.specs.Lists.{◌∈◌}
use Rattle.lists.proofs.Tests.{both, both_of}
use Rattle.fields_walk.specs.Limits.{Below}
use Rattle.family_nodes.specs.Nodes.{node_count, summed, number_of, levels_of, no_higher, finer}

-- every dimension has a level
abbrev pub Some : List ℕ → Type 0
Some hs = (h : ℕ) → h ∈ hs → 1 ≤ h

abbrev pub fore : {h : ℕ} {hs : List ℕ} → Some (h ∷ hs) → 1 ≤ h
fore {h} p = p h (Memᴰ.head refl)

abbrev pub rest : {h : ℕ} {hs : List ℕ} → Some (h ∷ hs) → Some hs
rest p k m = p k (Memᴰ.tail m)

-- the number by the first level and the others
abbrev mixed : List ℕ → List ℕ → ℕ
mixed [] ls = 0
mixed (h ∷ hs) [] = 0
mixed (h ∷ hs) (l ∷ ls) = l + h * mixed hs ls

summed-mixed : (f : ℕ) (hs ls : List ℕ) → summed f hs ls ≡ f * mixed hs ls
summed-mixed f [] ls = omega arith
summed-mixed f (h ∷ hs) [] = omega arith
summed-mixed f (h ∷ hs) (l ∷ ls) =
    ap (λ n. f * l + n) (summed-mixed (f * h) hs ls ∙ mul_assoc f h (mixed hs ls)) ∙ sym (mul-add f l (h * mixed hs ls))

number-mixed : (hs ls : List ℕ) → number_of hs ls ≡ mixed hs ls
number-mixed hs ls = summed-mixed 1 hs ls ∙ one-mul (mixed hs ls)

-- a number's remainder and quotient
pub digit : (l h m : ℕ) → l < h → ((l + h * m) % h ≡ l) × ((l + h * m) / h ≡ m)
digit l h m k = (
  add-mul-mod_self_left l h m ∙ mod-eq_of_lt k,
  let p : 0 < h = omega (arith, k) in omega (arith, add-mul-div_left l m p, div-eq_of_lt k),
)

pub count-pos : (hs : List ℕ) → Some hs → 1 ≤ node_count hs
count-pos [] p = omega arith
count-pos (h ∷ hs) p = mul-pos (fore p) (count-pos hs (rest p))

pub quotient_lt : (h c n : ℕ) → 1 ≤ h → n < h * c → n / h < c
quotient_lt h c n p k = (div-lt_iff_lt-mul {k = h} {x = n} {y = c} p).1 (rw (mul_comm c h) k)

-- ---- the levels of a number, and the number of levels

mixed-levels : (hs : List ℕ) (n : ℕ) → Some hs → n < node_count hs → mixed hs (levels_of hs n) ≡ n
mixed-levels [] n p k = omega arith
mixed-levels (h ∷ hs) n p k =
    let e = mixed-levels hs (n / h) (rest p) (quotient_lt h (node_count hs) n (fore p) k) in
    let f : n % h + h * (n / h) ≡ n = omega (arith, div-add-mod n h) in
    ap (λ m. n % h + h * m) e ∙ f

levels-mixed : (hs ls : List ℕ) → Below hs ls → levels_of hs (mixed hs ls) ≡ ls
levels-mixed [] [] b = refl
levels-mixed [] (l ∷ ls) b = absurd b
levels-mixed (h ∷ hs) [] b = absurd b
levels-mixed (h ∷ hs) (l ∷ ls) b =
    let g = digit l h (mixed hs ls) b.0 in
    ap₂ ◌∷◌ g.0 (ap (levels_of hs) g.1 ∙ levels-mixed hs ls b.1)

mixed_lt : (hs ls : List ℕ) → Below hs ls → mixed hs ls < node_count hs
mixed_lt [] [] b = omega arith
mixed_lt [] (l ∷ ls) b = absurd b
mixed_lt (h ∷ hs) [] b = absurd b
mixed_lt (h ∷ hs) (l ∷ ls) b =
    let m = mixed hs ls in
    let k : h * suc m ≤ h * node_count hs = mul-le-mul_left h (mixed_lt hs ls b.1) in
    omega (arith, b.0, k, mul-suc h m)

-- Every number below the product is that of its levels, which are levels of the dimensions;
pub number-levels : (hs : List ℕ) (n : ℕ) → Some hs → n < node_count hs → number_of hs (levels_of hs n) ≡ n
number-levels hs n p k = number-mixed hs (levels_of hs n) ∙ mixed-levels hs n p k

pub levels-below : (hs : List ℕ) (n : ℕ) → Some hs → Below hs (levels_of hs n)
levels-below [] n p = tt
levels-below (h ∷ hs) n p = (mod-lt n (fore p), levels-below hs (n / h) (rest p))

-- and levels of the dimensions are those of their number, which is below the product.
pub levels-number : (hs ls : List ℕ) → Below hs ls → levels_of hs (number_of hs ls) ≡ ls
levels-number hs ls b = ap (levels_of hs) (number-mixed hs ls) ∙ levels-mixed hs ls b

pub number_lt : (hs ls : List ℕ) → Below hs ls → number_of hs ls < node_count hs
number_lt hs ls b = rw (number-mixed hs ls) (mixed_lt hs ls b)

-- ---- finer nodes

pub higher-both : (l m : ℕ) (ls ms : List ℕ) → no_higher (l ∷ ls) (m ∷ ms) ≡ true → (l ≤ m) × (no_higher ls ms ≡ true)
higher-both l m ls ms e = let r = both (leb l m) (no_higher ls ms) e in (leb-true l m r.0, r.1)

pub higher_of : (l m : ℕ) (ls ms : List ℕ) → l ≤ m → no_higher ls ms ≡ true → no_higher (l ∷ ls) (m ∷ ms) ≡ true
higher_of l m ls ms h e = both_of (le-leb l m h) e

higher_refl : (ls : List ℕ) → no_higher ls ls ≡ true
higher_refl [] = refl
higher_refl (l ∷ ls) = higher_of l l ls ls (omega arith) (higher_refl ls)

higher-trans : (ls ms ns : List ℕ) → no_higher ls ms ≡ true → no_higher ms ns ≡ true → no_higher ls ns ≡ true
higher-trans [] [] ns e f = f
higher-trans [] (m ∷ ms) ns e f = absurd (false≢true e)
higher-trans (l ∷ ls) [] ns e f = absurd (false≢true e)
higher-trans (l ∷ ls) (m ∷ ms) [] e f = absurd (false≢true f)
higher-trans (l ∷ ls) (m ∷ ms) (n ∷ ns) e f =
    let p = higher-both l m ls ms e in
    let q = higher-both m n ms ns f in
    higher_of l n ls ns (omega (arith, p.0, q.0)) (higher-trans ls ms ns p.1 q.1)

pub finer-refl : (hs : List ℕ) (n : ℕ) → finer hs n n ≡ true
finer-refl hs n = higher_refl (levels_of hs n)

pub finer-trans : (hs : List ℕ) (l m n : ℕ) → finer hs l m ≡ true → finer hs m n ≡ true → finer hs l n ≡ true
finer-trans hs l m n = higher-trans (levels_of hs l) (levels_of hs m) (levels_of hs n)

-- node 0 is the finest,
pub finer-zero : (hs : List ℕ) (n : ℕ) → finer hs 0 n ≡ true
finer-zero [] n = refl
finer-zero (h ∷ hs) n =
    higher_of (0 % h) (n % h) (levels_of hs (0 / h)) (levels_of hs (n / h)) (omega (arith, zero-mod h)) (rw (zero-div h) (finer-zero hs (n / h)))

-- and no finer node has a larger number
pub finer-le : (hs : List ℕ) (m n : ℕ) → Some hs → m < node_count hs → finer hs m n ≡ true → m ≤ n
finer-le [] m n p k e = omega arith
finer-le (h ∷ hs) m n p k e =
    let r = higher-both (m % h) (n % h) (levels_of hs (m / h)) (levels_of hs (n / h)) e in
    let q = finer-le hs (m / h) (n / h) (rest p) (quotient_lt h (node_count hs) m (fore p) k) r.1 in
    omega (arith, r.0, div-add-mod m h, div-add-mod n h, mul-le-mul_left h q)

-- the last node has the highest level everywhere
abbrev pub tops : List ℕ → List ℕ
tops hs = map (λ h. h - 1) hs

pub levels-top : (hs : List ℕ) → Some hs → levels_of hs (node_count hs - 1) ≡ tops hs
levels-top [] p = refl
levels-top (h ∷ hs) p =
    let c = node_count hs in
    let one = count-pos hs (rest p) in
    let s : suc (c - 1) ≡ c = omega (arith, one) in
    let f : h * suc (c - 1) ≡ h * c = ap (λ n. h * n) s in
    let t : h * c - 1 ≡ h - 1 + h * (c - 1) = omega (arith, mul-suc h (c - 1), f, fore p) in
    let g = digit (h - 1) h (c - 1) (omega (arith, fore p)) in
    ap (levels_of (h ∷ hs)) t ∙ ap₂ ◌∷◌ g.0 (ap (levels_of hs) g.1 ∙ levels-top hs (rest p))
