-- The smallest sets of which no cell is shared in a loop over the 256 sets: those of the sets that had a turn stand in front of the list.
use mathlib.Core.Path.{◌≡◌, sym, ap, ◌∙◌}
use mathlib.Core.Bool.{Bool, true, false, not, ◌&&◌, and-false}
use mathlib.Core.List.Memᴰ
use mathlib.Core.List.{List, [], ◌∷◌, ◌++◌, append-nil}
use Prim.Native.Nat.{ℕ, ◌+◌, ◌^◌, ◌≤◌, ◌<◌}
use native.Mathlib.Numerals.{add-one}
use native.Mathlib.Omega.{arith}
use lib.ListN.{length, get_or, take, set, length-append}
use lib.Seq.{take-suc-set, length-take-le}
use Rattle.lists.specs.Lists.{◌∈◌, some, only}
use Rattle.lists.proofs.Tests.{cases, some_same}
use Rattle.lattice.specs.Sets.{sets, sets_from, holds}
use Rattle.lattice.proofs.Sets.{holds-enough}
use Rattle.lattice.proofs.Turns.{from_start, from_on, from-off, from-done}
use Rattle.cube.specs.Codes.{plain}
use Rattle.cube.specs.Condensed.{smallest}
use Rattle.cube.proofs.Smallest.{smallest-length}
use Rattle.call_keys.specs.Bare.{bare, least_bare}

pub record Listing (d : ℕ) (used list : List ℕ) (n k : ℕ) : Type 0 where
  pub below : k ≤ 256
  pub front : n ≤ length list
  pub within : (s : ℕ) → s ∈ take n list → s < 2 ^ d
  pub left : smallest (plain d) (bare d used) (sets_from (2 ^ d) k) (take n list) ≡ least_bare d used

module _ (d : ℕ) (used : List ℕ) (h8 : d ≤ 8) (short : length (least_bare d used) ≤ 70) where
  pub listing_start : (list : List ℕ) → Listing d used list 0 0
  unfolding least_bare
  listing_start list = record {
    below = omega arith;
    front = omega arith;
    within = λ s m. absurd (Memᴰ.not-nil m);
    left = ap (λ (l : List ℕ). smallest (plain d) (bare d used) l []) (from_start d h8);
  }

  module _ {list : List ℕ} {n k : ℕ} (m : Listing d used list n k) where
    -- no more than there can be
    pub listing-few : n ≤ 70
    listing-few = omega (arith, length-take-le n list m.front, smallest-length (plain d) (bare d used) (sets_from (2 ^ d) k) (take n list), ap length m.left, short)

    pub listing-done : 256 ≤ k → take n list ≡ least_bare d used
    listing-done h = ap (λ (l : List ℕ). smallest (plain d) (bare d used) l (take n list)) (sym (from-done (2 ^ d) k h)) ∙ m.left

    module _ {s : ℕ} (h : k < 256) (e : s ≡ get_or (sets 8) k 0) where
      -- a set that is none of the archive's has no turn
      pub listing-off : 2 ^ d ≤ s → Listing d used list n (k + 1)
      listing-off f = record {
        below = omega arith;
        front = m.front;
        within = m.within;
        left = ap (λ (l : List ℕ). smallest (plain d) (bare d used) l (take n list)) (sym (from-off (2 ^ d) k h (rw e at f))) ∙ m.left;
      }

      module _ (f : s < 2 ^ d) where
        -- its turn
        turn : smallest (plain d) (bare d used) (sets_from (2 ^ d) (k + 1)) (take n list ++ only (bare d used s && not (some (holds d s) (take n list))) s []) ≡ least_bare d used
        turn = ap (λ (l : List ℕ). smallest (plain d) (bare d used) l (take n list)) (ap (λ (t : ℕ). t ∷ sets_from (2 ^ d) (k + 1)) e ∙ sym (from_on (2 ^ d) k h (rw e at f))) ∙ m.left

        same-holds : some (holds 32 s) (take n list) ≡ some (holds d s) (take n list)
        same-holds = some_same (holds 32 s) (holds d s) (take n list) (λ t i. holds-enough d 32 s t (m.within t i) (omega (arith, h8)))

        passed : bare d used s && not (some (holds d s) (take n list)) ≡ false → Listing d used list n (k + 1)
        passed g = record {
          below = omega arith;
          front = m.front;
          within = m.within;
          left = ap (λ (l : List ℕ). smallest (plain d) (bare d used) (sets_from (2 ^ d) (k + 1)) l) (sym (append-nil (take n list)) ∙ ap (λ (b : Bool). take n list ++ only b s []) (sym g)) ∙ turn;
        }

        -- it holds a smaller one, or a cell of it is shared
        pub listing-held : some (holds 32 s) (take n list) ≡ true → Listing d used list n (k + 1)
        listing-held g = passed (ap (λ (b : Bool). bare d used s && not b) (sym same-holds ∙ g) ∙ and-false (bare d used s))

        pub listing_no : bare d used s ≡ false → Listing d used list n (k + 1)
        listing_no g = passed (ap (λ (b : Bool). b && not (some (holds d s) (take n list))) g)

        -- it is one more
        module _ (g : some (holds 32 s) (take n list) ≡ false) (q : bare d used s ≡ true) where
          test : bare d used s && not (some (holds d s) (take n list)) ≡ true
          test = let w = sym same-holds ∙ g in rw (q, w)

          more : smallest (plain d) (bare d used) (sets_from (2 ^ d) (k + 1)) (take n list ++ s ∷ []) ≡ least_bare d used
          more = ap (λ (b : Bool). smallest (plain d) (bare d used) (sets_from (2 ^ d) (k + 1)) (take n list ++ only b s [])) (sym test) ∙ turn

          pub listing-room : n < 70
          listing-room = omega (arith, length-take-le n list m.front, length-append (take n list) (s ∷ []), smallest-length (plain d) (bare d used) (sets_from (2 ^ d) (k + 1)) (take n list ++ s ∷ []), ap length more, short)

          pub listing-more : n < length list → length (set list n s) ≡ length list → Listing d used (set list n s) (n + 1) (k + 1)
          listing-more r z =
              let next : take (n + 1) (set list n s) ≡ take n list ++ s ∷ [] = rw add-one (take-suc-set list n s r) in
              record {
                below = omega arith;
                front = omega (arith, r, z);
                within = rw next (λ t i. cases (Memᴰ.append_cases (take n list) i) (λ j. m.within t j) (λ j. rw (Memᴰ.eq_of_singleton j) f));
                left = rw next more;
              }
