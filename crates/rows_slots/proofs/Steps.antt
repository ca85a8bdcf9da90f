-- The groups of rows in order written into a slot, entry by entry.
use mathlib.Core.Path.{◌≡◌, refl}
use mathlib.Core.Bool.{Bool, true, false}
use mathlib.Core.List.{List, [], ◌∷◌, ◌++◌}
use Prim.Native.Nat.{ℕ, ◌-◌, ◌≤◌}
use lib.Dec.{eqb}
use lib.ListN.{take, drop}
use Rattle.rows_slots.specs.Slots.{closes, slot_from, lone_from}

-- what is written in front, with what is to come, is the whole
pub record Front (l : List ℕ) (k : ℕ) (rest all : List ℕ) : Type 0 where
  pub whole : take k l ++ rest ≡ all

module _ (key : ℕ → List ℕ) where
  -- where all groups are kept, no row is left out
  pub lone-all : (least : ℕ) → eqb least 2 ≡ false → (f : Bool) (l : List ℕ) → lone_from key least f l ≡ []
  lone-all least h f [] = refl
  lone-all least h f (x ∷ l) = rw h (lone-all least h (closes key x l) l)

  module _ (order : List ℕ) where
    -- all groups
    abbrev pub Listing : List ℕ → ℕ → Type 0
    Listing slot i = Front slot i (slot_from key 1 true (drop i order)) (slot_from key 1 true order)

    -- groups of two rows or more
    pub record Packing (slot lone : List ℕ) (len : ℕ) (first : Bool) (i : ℕ) : Type 0 where
      pub kept : Front slot len (slot_from key 2 first (drop i order)) (slot_from key 2 true order)
      pub left : Front lone (i - len) (lone_from key 2 first (drop i order)) (lone_from key 2 true order)
      pub few : len ≤ i
