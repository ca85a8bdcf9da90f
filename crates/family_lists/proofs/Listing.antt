-- The nodes of a row from its bits, by falling number; 32 without a node are passed over at once.
use mathlib.Core.Path.{◌≡◌, refl, sym, ap, ap₂, ◌∙◌}
use mathlib.Core.Bool.{true, false}
use mathlib.Core.List.{List, [], ◌∷◌, ◌++◌, append_assoc, append-nil}
use Prim.Native.Nat.{ℕ, zero, suc, ◌+◌, ◌-◌, ◌*◌, ◌/◌, ◌%◌, ◌^◌, ◌≤◌, ◌<◌}
use native.Mathlib.Nat.{zero-div}
use native.Mathlib.Numerals.{add-one}
use native.Mathlib.Omega.{arith}
use lib.Dec.{eqb}
use lib.ListN.{length, get_or, take, drop, set, length-set}
use lib.Seq.{get_or-take, get_or-drop, take-suc-set}
use Rattle.rows_bits.specs.Rowsets.{has}
use Rattle.family_lists.specs.Lists.{has_node, nodes_of}

-- a bit in its word
pub node-bit : (listed : List ℕ) (x m : ℕ) → has_node listed x m ≡ eqb (get_or listed (x * 128 + m / 32) 0 / 2 ^ (m % 32) % 2) 1
unfolding has_node has
node-bit listed x m =
    let k = x * 4 + m / 1024 in
    let j = m % 1024 / 32 in
    let at : k * 32 + j ≡ x * 128 + m / 32 = omega arith in
    let low : m % 1024 % 32 ≡ m % 32 = omega arith in
    ap₂ (λ (w b : ℕ). eqb (w / 2 ^ b % 2) 1) (get_or-take 32 (drop (k * 32) listed) j 0 (omega arith) ∙ get_or-drop (k * 32) listed j 0 ∙ ap (λ (i : ℕ). get_or listed i 0) at) low

-- no bit of a word that is 0
pub node-none : (listed : List ℕ) (x i m : ℕ) → get_or listed (x * 128 + i) 0 ≡ 0 → m / 32 ≡ i → has_node listed x m ≡ false
node-none listed x i m e q =
    node-bit listed x m ∙ ap (λ (w : ℕ). eqb (w / 2 ^ (m % 32) % 2) 1) (ap (λ (k : ℕ). get_or listed (x * 128 + k) 0) q ∙ e) ∙ rw (zero-div (2 ^ (m % 32)))

-- ---- the nodes below a number

module _ (listed : List ℕ) (x : ℕ) where
  pub nodes-on : (m : ℕ) → has_node listed x m ≡ true → nodes_of listed x (suc m) ≡ m ∷ nodes_of listed x m
  unfolding nodes_of
  nodes-on m e = rw e

  pub nodes-off : (m : ℕ) → has_node listed x m ≡ false → nodes_of listed x (suc m) ≡ nodes_of listed x m
  unfolding nodes_of
  nodes-off m e = rw e

  pub nodes-skip : (m k : ℕ) → ((i : ℕ) → m ≤ i → i < m + k → has_node listed x i ≡ false) → nodes_of listed x (m + k) ≡ nodes_of listed x m
  nodes-skip m zero h = let e : m + 0 ≡ m = omega arith in ap (nodes_of listed x) e
  nodes-skip m (suc k) h =
      let e : m + suc k ≡ suc (m + k) = omega arith in
      ap (nodes_of listed x) e ∙ nodes-off (m + k) (h (m + k) (omega arith) (omega arith)) ∙ nodes-skip m k (λ i l r. h i l (omega (arith, r)))

  pub nodes-zero : nodes_of listed x 0 ≡ []
  unfolding nodes_of
  nodes-zero = refl

  -- the list as it grows
  pub record Growing (list₀ list : List ℕ) (k len m : ℕ) : Type 0 where
    pub size : length list ≡ length list₀
    pub room : len + m ≤ k
    pub whole : take len list ++ nodes_of listed x m ≡ nodes_of listed x k

  module _ {list₀ list : List ℕ} {k len m : ℕ} (g : Growing list₀ list k len m) where
    pub growing_skip : 32 ≤ m → ((i : ℕ) → m - 32 ≤ i → i < m → has_node listed x i ≡ false) → Growing list₀ list k len (m - 32)
    growing_skip h f =
        let e : m - 32 + 32 ≡ m = omega (arith, h) in
        record {
          size = g.size;
          room = omega (arith, g.room);
          whole = ap (λ (l : List ℕ). take len list ++ l) (sym (ap (nodes_of listed x) (sym e) ∙ nodes-skip (m - 32) 32 (λ i l r. f i l (omega (arith, r, e))))) ∙ g.whole;
        }

    module _ (h : 1 ≤ m) where
      down : suc (m - 1) ≡ m
      down = omega (arith, h)

      pub growing-off : has_node listed x (m - 1) ≡ false → Growing list₀ list k len (m - 1)
      growing-off e = record {
        size = g.size;
        room = omega (arith, g.room);
        whole = ap (λ (l : List ℕ). take len list ++ l) (sym (ap (nodes_of listed x) (sym down) ∙ nodes-off (m - 1) e)) ∙ g.whole;
      }

      pub growing_on : k ≤ length list₀ → has_node listed x (m - 1) ≡ true → Growing list₀ (set list len (m - 1)) k (len + 1) (m - 1)
      growing_on room e = record {
        size = length-set list len (m - 1) ∙ g.size;
        room = omega (arith, g.room, h);
        whole =
            ap (λ (l : List ℕ). l ++ nodes_of listed x (m - 1)) (ap (λ (z : ℕ). take z (set list len (m - 1))) (add-one len) ∙ take-suc-set list len (m - 1) (omega (arith, g.room, h, room, g.size)))
            ∙ append_assoc (take len list) ((m - 1) ∷ []) (nodes_of listed x (m - 1))
            ∙ ap (λ (l : List ℕ). take len list ++ l) (sym (ap (nodes_of listed x) (sym down) ∙ nodes-on (m - 1) e)) ∙ g.whole;
      }

    pub growing-done : m ≤ 0 → (take len list ≡ nodes_of listed x k) × (len ≤ k)
    growing-done h =
        let e : m ≡ 0 = omega (arith, h) in
        (sym (append-nil (take len list)) ∙ ap (λ (l : List ℕ). take len list ++ l) (sym (ap (nodes_of listed x) e ∙ nodes-zero)) ∙ g.whole, omega (arith, g.room))
