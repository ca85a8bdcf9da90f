-- A set and the column of its last dimension: it tells the rows of a cell without that dimension apart, and by itself those of a set of one dimension.
use mathlib.Core.Path.{◌≡◌, refl, sym, ap, subst, ◌∙◌}
use mathlib.Core.Logic.{◌≢◌}
use mathlib.Core.Bool.{Bool, true, not, ◌&&◌}
use mathlib.Core.List.{List}
use Prim.Native.Nat.{ℕ, zero, suc, ◌+◌, ◌^◌, ◌≤◌, ◌<◌}
use native.Mathlib.Omega.{arith}
use lib.ListN.{length, get_or}
use Rattle.lists.specs.Lists.{◌∈◌, keep}
use Rattle.lists.specs.Order.{earlier, same}
use Rattle.lists.proofs.Members.{at_in, keep_all, keep_same}
use Rattle.lattice.specs.Sets.{size}
use Rattle.rows_deals.specs.Deals.{Names}
use Rattle.rows_bits.specs.Rowsets.{stays}
use Rattle.rows.specs.Rows.{cut}
use Rattle.rows.proofs.Rows.{cut-length}
use Rattle.rows_order.specs.Index.{key, arranged, column_of, Valid}
use Rattle.rows_order.proofs.Columns.{column_small, column-length}
use Rattle.rows_order.proofs.Arranged.{arranged_in}
use Rattle.rows_order.proofs.Dealt.{same-earlier}
use Rattle.rows_runs.proofs.Refined.{Refined}
use Rattle.rows_slots.specs.Slots.{crowds, shares, loners, parted, packed, code_in, lone_rows, slot_from, lone_from}
use Rattle.rows_slots.proofs.Marks.{slot-arranged, lone-arranged}
use Rattle.rows_slots.proofs.Split.{slot_same, lone_same}
use Rattle.rows_slots.proofs.Last.{key-none, last_refined}
use Rattle.rows_columns.specs.Columns.{part, Columns}
use Rattle.rows_crowds.specs.Crowds.{Passing, place, shorter, left_out}
use Rattle.rows_crowds.proofs.Shorter.{shorter-last, shorter_and, shorter-place, shorter-none}
use Rattle.rows_crowds.proofs.Left.{left_in}
use Rattle.rows_crowds.proofs.First.{first-shares, arranged-same}

pub left-next : (least : ℕ) (xs : List (List ℕ)) (n s : ℕ) → 1 ≤ s → left_out least xs n s ≡ lone_rows least (key (shorter s) xs) (key s xs) n
unfolding left_out
left-next least xs n zero h = absurd (omega (arith, h))
left-next least xs n (suc s) h = refl

-- ---- a set and the column of its last dimension

pub record Turn (least d n : ℕ) (ws columns column rising passed : List ℕ) (s : ℕ) : Type 0 where
  pub low : 1 ≤ least
  pub high : least ≤ 2
  pub few : n ≤ 1024
  pub valid : Valid d (cut d n ws)
  pub one : 1 ≤ s
  pub small : s < 256
  pub within : s < 2 ^ d
  pub told : Columns d n ws columns
  pub is_column : column ≡ part (place s) n columns
  pub is_rising : rising ≡ part (8 + place s) n columns
  pub passing : Passing least d n ws passed s

module _ {least d n : ℕ} {ws columns column rising passed : List ℕ} {s : ℕ} (x : Turn least d n ws columns column rising passed s) where
  abbrev xs : List (List ℕ)
  xs = cut d n ws

  last : place s < d
  last = shorter-place s x.one x.small d x.within

  by_last : column ≡ column_of (place s) xs
  by_last = x.is_column ∙ x.told.column (place s) last

  pub turn_refined : Refined n (key (shorter s) xs) (code_in column) (key s xs)
  turn_refined = subst (λ (l : List ℕ). Refined n (key (shorter s) xs) (code_in l) (key s xs)) (sym by_last)
      (last_refined d n (place s) s (shorter s) ws x.valid last (shorter-last s x.one x.small) (shorter_and s x.one x.small))

  pub turn_small : (i : ℕ) → get_or column i 0 < 65536
  turn_small = subst (λ (l : List ℕ). (i : ℕ) → get_or l i 0 < 65536) (sym by_last) (column_small d (place s) xs x.valid)

  pub turn-column : length column ≡ n
  turn-column = ap length by_last ∙ column-length (place s) xs ∙ cut-length d n ws

  pub turn-rising : rising ≡ arranged (code_in column) n
  turn-rising = x.is_rising ∙ x.told.order (place s) last ∙ ap (λ (l : List ℕ). arranged (code_in l) n) (sym by_last)

  -- ---- a set of one dimension is packed from its column

  module _ (single : size s ≡ 1) (more : n ≢ 1) where
    -- nothing else tells the rows apart
    alike-first : (i j : ℕ) → i < n → j < n → earlier (code_in column i) (code_in column j) ≡ earlier (key s xs i) (key s xs j)
    alike-first i j h k = sym (turn_refined.equal i j h k (subst (λ (t : ℕ). key t xs i ≡ key t xs j) (sym (shorter-none s x.one x.small single)) (key-none d n ws x.valid i j h k)))

    in_order : arranged (code_in column) n ≡ arranged (key s xs) n
    in_order = arranged-same (code_in column) (key s xs) n alike-first

    tell_first : (y z : ℕ) → y ∈ arranged (key s xs) n → z ∈ arranged (key s xs) n → same (code_in column y) (code_in column z) ≡ same (key s xs y) (key s xs z)
    tell_first y z i j =
        let h = arranged_in (key s xs) n i in
        let k = arranged_in (key s xs) n j in
        same-earlier (code_in column y) (code_in column z) ∙ rw (alike-first y z h k, alike-first z y k h) (sym (same-earlier (key s xs y) (key s xs z)))

    pub one-names : Names rising n
    one-names k l = arranged_in (code_in column) n (subst (λ (z : List ℕ). get_or rising k 0 ∈ z) turn-rising (at_in 0 rising k l))

    pub one_kept : slot_from (code_in column) least true rising ≡ packed (crowds least (key s xs) n)
    one_kept = ap (slot_from (code_in column) least true) (turn-rising ∙ in_order) ∙ slot_same (code_in column) (key s xs) least true (arranged (key s xs) n) tell_first ∙ slot-arranged (key s xs) least x.low x.high n

    -- all rows share the cell of the empty set
    left_one : left_out least xs n s ≡ loners least (key s xs) n
    unfolding lone_rows loners
    left_one = left-next least xs n s x.one ∙ ap (λ (t : ℕ). lone_rows least (key t xs) (key s xs) n) (shorter-none s x.one x.small single)
        ∙ keep_same (parted least (key 0 xs) (key s xs) n) (λ y. not (shares least (key s xs) n y)) (arranged (key s xs) n)
        (λ y m. ap (λ (b : Bool). b && not (shares least (key s xs) n y)) (first-shares d n ws x.valid least x.high more y (arranged_in (key s xs) n m)))

    pub one_left : lone_from (code_in column) least true rising ≡ keep (stays passed) (left_out least xs n s)
    one_left =
        ap (lone_from (code_in column) least true) (turn-rising ∙ in_order) ∙ lone_same (code_in column) (key s xs) least true (arranged (key s xs) n) tell_first ∙ lone-arranged (key s xs) least x.low x.high n
        ∙ sym left_one ∙ sym (keep_all (stays passed) (left_out least xs n s) (λ y m. x.passing.next single more y (left_in least xs n s y m).0))
