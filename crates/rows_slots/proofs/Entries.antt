-- The rows of a slot.
use mathlib.Core.Path.{◌≡◌, refl, sym, ap, subst, ◌∙◌}
use mathlib.Core.List.Memᴰ
use mathlib.Core.List.{List, [], ◌∷◌, ◌++◌, map, map-append}
use Prim.Native.Nat.{ℕ, ◌≤◌, ◌<◌}
use native.Mathlib.Omega.{arith}
use lib.ListN.{length, get_or, length-map}
use Rattle.lists.specs.Lists.{◌∈◌, keep}
use Rattle.lists.proofs.Members.{keep_in, keep-length, at_in}
use Rattle.rows_deals.specs.Deals.{Names}
use Rattle.rows_order.specs.Index.{arranged}
use Rattle.rows_runs.specs.Runs.{Run, members}
use Rattle.rows_order.proofs.Arranged.{arranged-length, arranged_in}
use Rattle.rows_slots.specs.Slots.{flat, crowds, shares, pack, packed, row_in}
use Rattle.rows_slots.proofs.Groups.{crowds-flat}

pack-rows : (x : ℕ) (m : List ℕ) → ((y : ℕ) → y ∈ x ∷ m → y < 1024) → map row_in (pack x m) ≡ x ∷ m
pack-rows x [] h = let k = h x (Memᴰ.head refl) in ap (λ (z : ℕ). z ∷ []) (omega arith)
pack-rows x (y ∷ m) h =
    let k = h x (Memᴰ.head refl) in
    let e : row_in x ≡ x = omega arith in
    ap (λ (z : ℕ). z ∷ map row_in (pack y m)) e ∙ ap (λ (l : List ℕ). x ∷ l) (pack-rows y m (λ z i. h z (Memᴰ.tail i)))

pub packed-rows : (rs : List Run) → ((y : ℕ) → y ∈ flat rs → y < 1024) → map row_in (packed rs) ≡ flat rs
packed-rows [] h = refl
packed-rows (r ∷ rs) h =
    map-append row_in (pack r.first r.more) (packed rs)
    ∙ ap (λ (l : List ℕ). l ++ map row_in (packed rs)) (pack-rows r.first r.more (λ y i. h y (Memᴰ.append_left (flat rs) i)))
    ∙ ap (λ (l : List ℕ). members r ++ l) (packed-rows rs (λ y i. h y (Memᴰ.append_right (members r) i)))

module _ (key : ℕ → List ℕ) (n least : ℕ) (few : n ≤ 1024) where
  pub crowds-below : (y : ℕ) → y ∈ flat (crowds least key n) → y < n
  crowds-below y m = arranged_in key n (keep_in (shares least key n) (arranged key n) (subst (λ (l : List ℕ). y ∈ l) (crowds-flat key n least) m)).0

  pub slot-rows : map row_in (packed (crowds least key n)) ≡ flat (crowds least key n)
  slot-rows = packed-rows (crowds least key n) (λ y m. omega (arith, crowds-below y m))

  pub flat-few : length (flat (crowds least key n)) ≤ n
  flat-few = subst (λ (l : List ℕ). length l ≤ n) (sym (crowds-flat key n least)) (subst (λ (k : ℕ). length (keep (shares least key n) (arranged key n)) ≤ k) (arranged-length key n) (keep-length (shares least key n) (arranged key n)))

  pub slot-length : length (packed (crowds least key n)) ≡ length (flat (crowds least key n))
  slot-length = sym (length-map (packed (crowds least key n)) row_in) ∙ ap length slot-rows

  pub flat-names : Names (flat (crowds least key n)) n
  flat-names i h = crowds-below (get_or (flat (crowds least key n)) i 0) (at_in 0 (flat (crowds least key n)) i h)
