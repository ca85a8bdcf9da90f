-- The rows that are single on each set, as sets of rows: the words of set s stand at 32 * s.
--
--   words_of alone s       the words of set s
--   AloneOn ..            they have the rows that share no cell on s
--   passes k alone s x    row x is in the words of s without one of its first k dimensions
--   is_new alone s x       row x is in the words of none of the sets that have one dimension less: it is not passed over at s
--   Lower ..              the words of these sets serve at s: a row in them shares no cell there, and one that shares none on the shorter set is in them; where s has one dimension they have no row, unless there is one only
--   Stored ..             words are put into those of set s, and those of the others are as they were
--   Told ..               the words of set s have the rows that share no cell there, and those of the others are as they were
use Rattle.std.specs.Prelude.{◌≡◌, ◌≢◌, Bool, true, false, not, ◌&&◌, ◌||◌, List, ℕ, zero, suc, ◌-◌, ◌*◌, ◌^◌, ◌≤◌, ◌<◌, take, drop}
use Rattle.lattice.specs.Sets.{size, holds}
use Rattle.rows.specs.Rows.{cut}
use Rattle.rows_bits.specs.Rowsets.{has}
use Rattle.rows_order.specs.Index.{key}
use Rattle.rows_slots.specs.Slots.{shares}
use Rattle.rows_crowds.specs.Crowds.{shorter}

abbrev pub words_of : List ℕ → ℕ → List ℕ
words_of alone s = take 32 (drop (s * 32) alone)

abbrev pub AloneOn : ℕ → ℕ → List ℕ → List ℕ → ℕ → Type 0
AloneOn d n ws alone s = (x : ℕ) → x < n → has (words_of alone s) x ≡ not (shares 2 (key s (cut d n ws)) n x)

unfoldable pub passes : ℕ → List ℕ → ℕ → ℕ → Bool
passes zero alone s x = false
passes (suc k) alone s x = passes k alone s x || holds 32 s (2 ^ k) && has (words_of alone (s - 2 ^ k)) x

abbrev pub is_new : List ℕ → ℕ → ℕ → Bool
is_new alone s x = not (passes 8 alone s x)

pub record Lower (d n : ℕ) (ws alone : List ℕ) (s : ℕ) : Type 0 where
  pub sound : (x : ℕ) → x < n → shares 2 (key s (cut d n ws)) n x ≡ true → is_new alone s x ≡ true
  pub whole : (x : ℕ) → x < n → 1 ≤ s → shares 2 (key (shorter s) (cut d n ws)) n x ≡ false → passes 8 alone s x ≡ true
  pub next : size s ≡ 1 → n ≢ 1 → (x : ℕ) → x < n → is_new alone s x ≡ true

pub record Stored (words alone alone₂ : List ℕ) (s : ℕ) : Type 0 where
  pub here : words_of alone₂ s ≡ words
  pub others : (t : ℕ) → t ≢ s → words_of alone₂ t ≡ words_of alone t

pub record Told (d n : ℕ) (ws alone alone₂ : List ℕ) (s : ℕ) : Type 0 where
  pub here : AloneOn d n ws alone₂ s
  pub others : (t : ℕ) → t ≢ s → words_of alone₂ t ≡ words_of alone t
