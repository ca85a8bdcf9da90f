-- The groups of rows under all sets, in one flat list: the slot of set s starts at 1024 * s.
--
--   Passing ..          rows may be passed over at set s: none of them shares its cell; at the empty set there are none, nor at a set of one dimension unless there is one row only
--   Holds ..            the slot of set s has the groups that the rows form by their cells under s
--   AllHold .. m        so have the slots of all sets below m
--   Filled ..           the slot of set s is filled, and the others have what they had
--   place s             the place of the last dimension of set s, counted from 0
--   shorter s           set s without its last dimension
--   left_out ..          the rows that are left out at set s: they share their cell under the set without its last dimension, but not that under s
--   ends l              how many groups a slot has
use Rattle.std.specs.Prelude.{◌≡◌, ◌≢◌, true, List, [], ◌∷◌, ℕ, zero, suc, ◌+◌, ◌-◌, ◌^◌, ◌≤◌, ◌<◌, length, get_or}
use Rattle.std.specs.Int.Count.{count_leading_zeros}
use Rattle.lattice.specs.Sets.{size}
use Rattle.rows.specs.Rows.{cut}
use Rattle.rows_bits.specs.Rowsets.{stays}
use Rattle.rows_order.specs.Index.{key}
use Rattle.rows_columns.specs.Columns.{part}
use Rattle.rows_slots.specs.Slots.{crowds, shares, loners, lone_rows, packed, end_in}

pub record Passing (least d n : ℕ) (ws passed : List ℕ) (s : ℕ) : Type 0 where
  pub room : length passed ≡ 32
  pub sound : (x : ℕ) → x < n → shares least (key s (cut d n ws)) n x ≡ true → stays passed x ≡ true
  pub first : s ≡ 0 → (x : ℕ) → stays passed x ≡ true
  pub next : size s ≡ 1 → n ≢ 1 → (x : ℕ) → x < n → stays passed x ≡ true

abbrev pub place : ℕ → ℕ
place s = 31 - count_leading_zeros 32 s

abbrev pub shorter : ℕ → ℕ
shorter s = s - 2 ^ place s

unfoldable pub left_out : ℕ → List (List ℕ) → ℕ → ℕ → List ℕ
left_out least xs n zero = loners least (key 0 xs) n
left_out least xs n (suc s) = lone_rows least (key (shorter (suc s)) xs) (key (suc s) xs) n

abbrev pub ends : List ℕ → ℕ
ends [] = 0
ends (e ∷ l) = end_in e + ends l

pub record Holds (least d n : ℕ) (ws slots sizes : List ℕ) (s : ℕ) : Type 0 where
  pub few : get_or sizes s 0 ≤ n
  pub slot : part s (get_or sizes s 0) slots ≡ packed (crowds least (key s (cut d n ws)) n)

pub record AllHold (least d n : ℕ) (ws slots sizes : List ℕ) (m : ℕ) : Type 0 where
  pub all : (s : ℕ) → s < m → Holds least d n ws slots sizes s

pub record Filled (least d n : ℕ) (ws slots sizes slots₂ sizes₂ : List ℕ) (s : ℕ) : Type 0 where
  pub here : Holds least d n ws slots₂ sizes₂ s
  pub others : (k t : ℕ) → t ≢ s → Holds k d n ws slots sizes t → Holds k d n ws slots₂ sizes₂ t
