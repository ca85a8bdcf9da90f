-- Where the code stands among the dimensions of a node: the factor in hand, and the levels still to come.
use mathlib.Core.Path.{◌≡◌, ◌∙◌, sym, ap, subst}
use mathlib.Core.List.{List, [], ◌∷◌}
use Prim.Native.Nat.{ℕ, zero, suc, ◌+◌, ◌*◌, ◌/◌, ◌%◌, ◌<◌, ◌≤◌}
use native.Mathlib.Omega.{arith}
use native.Mathlib.Nat.{mul_assoc, mul_comm, mul-suc, mul-one, one-mul, mul-le-mul_left, mul-le-mul, div-add-mod, mod-lt, div-lt_iff_lt-mul}
use lib.ListN.{length, get_or, drop}
use lib.Seq.{drop-cons}
use Rattle.family_nodes.specs.Nodes.{node_count}
use Rattle.family_nodes.proofs.Nodes.{Some, count-pos, quotient_lt, fore, rest}
use Rattle.family_nodes.proofs.Coarser.{first_rise}
use Rattle.family_slots.specs.Turns.{Heights}
use Rattle.family_slots.proofs.Stacked.{tall}

-- dimension i has factor f, and q has the levels from it on
pub record Place (hs : List ℕ) (n i f q : ℕ) : Type 0 where
  pub inside : i ≤ length hs
  pub whole : f * node_count (drop i hs) ≡ node_count hs
  pub lower : q < node_count (drop i hs)
  pub upper : n < f * suc q
  pub positive : 1 ≤ f

pub place-start : (hs : List ℕ) (n : ℕ) → n < node_count hs → Place hs n 0 1 n
place-start hs n h = record { inside = omega arith; whole = one-mul (node_count hs); lower = h; upper = omega (arith, one-mul (suc n)); positive = omega arith }

some-drop : (hs : List ℕ) (i : ℕ) → Some hs → Some (drop i hs)
some-drop hs zero p = p
some-drop [] (suc i) p = p
some-drop (h ∷ hs) (suc i) p = some-drop hs i (rest p)

module _ (hs : List ℕ) (n i f q : ℕ) (k : Heights hs) (c : Place hs n i f q) (l : i < length hs) where
  abbrev h : ℕ
  h = get_or hs i 0

  split : drop i hs ≡ h ∷ drop (i + 1) hs
  split = let e : suc i ≡ i + 1 = omega arith in drop-cons hs i 0 l ∙ ap (λ (m : ℕ). h ∷ drop m hs) e

  some-here : Some (h ∷ drop (i + 1) hs)
  some-here = subst Some split (some-drop hs i (tall k))

  pub height-some : 1 ≤ h
  height-some = fore some-here

  counts : node_count (drop i hs) ≡ h * node_count (drop (i + 1) hs)
  counts = ap node_count split

  more : 1 ≤ node_count (drop (i + 1) hs)
  more = count-pos (drop (i + 1) hs) (rest some-here)

  whole-on : f * h * node_count (drop (i + 1) hs) ≡ node_count hs
  whole-on = mul_assoc f h (node_count (drop (i + 1) hs)) ∙ ap (λ m. f * m) (sym counts) ∙ c.whole

  -- the next factor is no larger than the number of nodes
  pub factor-fits : f * h ≤ 4096
  factor-fits =
      let a : f * h * 1 ≤ f * h * node_count (drop (i + 1) hs) = mul-le-mul_left (f * h) more in
      omega (arith, a, mul-one (f * h), whole-on, k.few)

  pub factor-few : f ≤ 4096
  factor-few = let a : f * 1 ≤ f * h = mul-le-mul_left f height-some in omega (arith, a, mul-one f, factor-fits)

  -- where the level is not the highest, the coarser node is there
  pub room : q % h + 1 < h → n + f < node_count hs
  room r =
      let g = first_rise h q (omega (arith, r)) in
      let u : q / h < node_count (drop (i + 1) hs) = quotient_lt h (node_count (drop (i + 1) hs)) q height-some (subst (λ m. q < m) counts c.lower) in
      let v : (q + 1) / h < node_count (drop (i + 1) hs) = rw g.1 u in
      let w : q + 1 < node_count (drop (i + 1) hs) * h = (div-lt_iff_lt-mul {k = h} {x = q + 1} {y = node_count (drop (i + 1) hs)} height-some).0 v in
      let x : suc (suc q) ≤ node_count (drop i hs) = omega (arith, w, mul_comm (node_count (drop (i + 1) hs)) h, counts) in
      let y : f * suc (suc q) ≤ f * node_count (drop i hs) = mul-le-mul_left f x in
      omega (arith, y, c.whole, c.upper, mul-suc f (suc q))

  pub place-on : Place hs n (i + 1) (f * h) (q / h)
  place-on = record {
    inside = omega (arith, l);
    whole = whole-on;
    lower = quotient_lt h (node_count (drop (i + 1) hs)) q height-some (subst (λ m. q < m) counts c.lower);
    upper = up;
    positive = mul-le-mul c.positive height-some;
  }
    where
      up : n < f * h * suc (q / h)
      up =
          let a : suc q ≤ h * suc (q / h) = omega (arith, div-add-mod q h, mod-lt q height-some, mul-suc h (q / h)) in
          let b : f * suc q ≤ f * (h * suc (q / h)) = mul-le-mul_left f a in
          omega (arith, c.upper, b, mul_assoc f h (suc (q / h)))
