-- The order of integers, sums and multiples.
use mathlib.Core.Path.{◌≡◌, refl, sym, ap, ap₂, ◌∙◌}
use mathlib.Core.Bool.{Bool, true, false, cond, false≢true}
use Prim.Native.Nat.{ℕ, zero, suc, ◌+◌, ◌-◌, ◌*◌}
use native.Mathlib.Nat.{suc-mul}
use native.Mathlib.Omega.{arith}
use borrow.Author.Tests.{leb-true, le-leb, lt-ltb, le-ltb}
use lib.Dec.{ltb}
use lib.IntN.{ℤ, pos, negsuc, neg_ℤ, ◌+ℤ◌, ◌*ℤ◌, +ℤ_idl, +ℤ_idr, +ℤ_invl, +ℤ_comm, +ℤ_assoc, zero-*ℤ, suc_ℤ-*ℤ}
use lib.Signed.{le_z}

-- at most is: so much less
pub slack : (a b : ℤ) → le_z a b ≡ true → (k : ℕ) × (a +ℤ pos k ≡ b)
slack (pos a) (pos b) e = let h = leb-true a b e in (b - a, ap pos (omega (arith, h)))
slack (pos a) (negsuc b) e = absurd (false≢true e)
slack (negsuc a) (pos b) e = (suc a + b, rw (le-ltb (suc a + b) (suc a) (omega arith)) (ap pos (omega arith)))
slack (negsuc a) (negsuc b) e = let h = leb-true b a e in (a - b, rw (lt-ltb (a - b) (suc a) (omega arith)) (ap negsuc (omega (arith, h))))

pub more-most : (a : ℤ) (k : ℕ) → le_z a (a +ℤ pos k) ≡ true
more-most (pos a) k = le-leb a (a + k) (omega arith)
more-most (negsuc a) k = go (ltb k (suc a)) refl
  where
    go : (t : Bool) → ltb k (suc a) ≡ t → le_z (negsuc a) (cond t (negsuc (suc a - suc k)) (pos (k - suc a))) ≡ true
    go true e = le-leb (suc a - suc k) a (omega arith)
    go false e = refl

pub add_swap : (a b c d : ℤ) → (a +ℤ b) +ℤ (c +ℤ d) ≡ (a +ℤ c) +ℤ (b +ℤ d)
add_swap a b c d = +ℤ_assoc a b (c +ℤ d) ∙ ap (λ (z : ℤ). a +ℤ z) (sym (+ℤ_assoc b c d) ∙ ap (λ (z : ℤ). z +ℤ d) (+ℤ_comm b c) ∙ +ℤ_assoc c b d) ∙ sym (+ℤ_assoc a c (b +ℤ d))

pub add_most : (a b c d : ℤ) → le_z a b ≡ true → le_z c d ≡ true → le_z (a +ℤ c) (b +ℤ d) ≡ true
add_most a b c d e f =
    let j = slack a b e in
    let k = slack c d f in
    let g : (a +ℤ c) +ℤ pos (j.0 + k.0) ≡ b +ℤ d = sym (add_swap a (pos j.0) c (pos k.0)) ∙ ap₂ ◌+ℤ◌ j.1 k.1 in
    ap (le_z (a +ℤ c)) (sym g) ∙ more-most (a +ℤ c) (j.0 + k.0)

-- what is added to the same
taken : (a b : ℤ) → neg_ℤ a +ℤ (a +ℤ b) ≡ b
taken a b = sym (+ℤ_assoc (neg_ℤ a) a b) ∙ ap (λ (z : ℤ). z +ℤ b) (+ℤ_invl a) ∙ +ℤ_idl b

pub add_cancel : (a : ℤ) (i j : ℕ) → a +ℤ pos i ≡ a +ℤ pos j → i ≡ j
add_cancel a i j e = let f : pos i ≡ pos j = sym (taken a (pos i)) ∙ ap (λ (z : ℤ). neg_ℤ a +ℤ z) e ∙ taken a (pos j) in cc f

-- one more of k
pub times_suc : (n : ℕ) (k : ℤ) → pos (suc n) *ℤ k ≡ pos n *ℤ k +ℤ k
times_suc n k = suc_ℤ-*ℤ (pos n) k

-- each of n more by w
pub times_more : (n w : ℕ) (k : ℤ) → pos n *ℤ (k +ℤ pos w) ≡ pos n *ℤ k +ℤ pos (n * w)
times_more zero w k =
    let e : 0 * w ≡ 0 = omega arith in
    zero-*ℤ (k +ℤ pos w) ∙ sym (ap₂ (λ (z : ℤ) (m : ℕ). z +ℤ pos m) (zero-*ℤ k) e)
times_more (suc n) w k =
    times_suc n (k +ℤ pos w)
    ∙ ap (λ (z : ℤ). z +ℤ (k +ℤ pos w)) (times_more n w k)
    ∙ add_swap (pos n *ℤ k) (pos (n * w)) k (pos w)
    ∙ ap₂ (λ (z : ℤ) (m : ℕ). z +ℤ pos m) (sym (times_suc n k)) (sym (suc-mul n w))

-- each at most the other
pub at-most-both : (a b : ℤ) → le_z a b ≡ true → le_z b a ≡ true → a ≡ b
at-most-both a b e f =
    let j = slack a b e in
    let k = slack b a f in
    let g : a +ℤ pos (j.0 + k.0) ≡ a +ℤ pos 0 = sym (+ℤ_assoc a (pos j.0) (pos k.0)) ∙ ap (λ (z : ℤ). z +ℤ pos k.0) j.1 ∙ k.1 ∙ sym (+ℤ_idr a) in
    let z : j.0 ≡ 0 = omega (arith, add_cancel a (j.0 + k.0) 0 g) in
    sym (+ℤ_idr a) ∙ ap (λ (n : ℕ). a +ℤ pos n) (sym z) ∙ j.1
