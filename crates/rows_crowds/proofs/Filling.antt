-- A slot is filled from another one.
use mathlib.Core.Path.{◌≡◌, refl, sym, ap, ap₂, subst, ◌∙◌}
use mathlib.Core.Bool.{Bool, true, not}
use mathlib.Core.List.{List, [], ◌∷◌, ◌++◌, map}
use Prim.Native.Nat.{ℕ, ◌+◌, ◌*◌, ◌^◌, ◌≤◌, ◌<◌}
use native.Mathlib.Omega.{arith}
use lib.Dec.{ltb}
use lib.Pow.{pow_mono}
use lib.ListN.{length, get_or, take, drop, set, replicate, length-replicate, get_or-replicate, get_or-eq_default}
use lib.Seq.{get_or-set_same, get_or-set_other}
use borrow.Author.Tests.{ltb-true, ltb-false}
use Rattle.std.specs.List.{sum_by}
use Rattle.std.proofs.lemmas.List.Sums.{sum_by-cons}
use Rattle.lists.specs.Lists.{◌∈◌, keep}
use Rattle.lists.specs.Order.{same}
use Rattle.lists.proofs.Tests.{cases, truth}
use Rattle.lists.proofs.Members.{at_in, keep_in}
use Rattle.rows_deals.specs.Deals.{Names}
use Rattle.rows_bits.specs.Rowsets.{stays}
use Rattle.rows_bits.proofs.Bits.{has-none}
use Rattle.rows.specs.Rows.{cut}
use Rattle.rows_order.specs.Index.{key, arranged}
use Rattle.rows_order.proofs.Sorted.{stable_in}
use Rattle.rows_slots.specs.Slots.{crowds, packed, row_in, end_in, code_in, slot_from, lone_from, out, mark_in, mark_key, split_order, Slot}
use Rattle.rows_slots.proofs.Split.{slot_same, lone_same, split_kept, split_left}
use Rattle.rows_split.proofs.Slotted.{slot-few, slot_in}
use Rattle.rows_columns.specs.Columns.{part}
use Rattle.rows_crowds.specs.Crowds.{Passing, shorter, left_out, Holds, Filled, ends}
use Rattle.rows_crowds.proofs.Column.{Turn, left-next, turn_refined, turn_small, turn-column, turn-rising}
use Rattle.rows_columns.proofs.Parts.{part-here, part-other}

pub below_all : {s : ℕ} (d : ℕ) → d ≤ 8 → s < 2 ^ d → s < 256
below_all d h l = omega (arith, l, pow_mono {i = d} {j = 8} h)

-- ---- the groups of the set without its last dimension are split

pub record Next (least d n : ℕ) (ws columns column rising passed store sizes : List ℕ) (s : ℕ) (old : List ℕ) : Type 0 where
  pub turn : Turn least d n ws columns column rising passed s
  pub held : Holds least d n ws store sizes (shorter s)
  pub is-old : old ≡ part (shorter s) (get_or sizes (shorter s) 0) store

module _ {least d n : ℕ} {ws columns column rising passed store sizes : List ℕ} {s : ℕ} {old : List ℕ} (x : Next least d n ws columns column rising passed store sizes s old) where
  abbrev xs : List (List ℕ)
  xs = cut d n ws

  few : n ≤ 1024
  few = x.turn.few

  whole : old ≡ packed (crowds least (key (shorter s) xs) n)
  whole = x.is-old ∙ x.held.slot

  slot : Slot n old
  slot = record { least = least; by = key (shorter s) xs; groups = whole }

  pub next-slot : Slot (length column) old
  next-slot = subst (λ (k : ℕ). Slot k old) (sym (turn-column x.turn)) slot

  pub next-rising : rising ≡ arranged (code_in column) (length column)
  next-rising = subst (λ (k : ℕ). rising ≡ arranged (code_in column) k) (sym (turn-column x.turn)) (turn-rising x.turn)

  pub next-few : length old ≤ n
  next-few = slot-few few slot

  -- the rows that were split, in order and marked
  module _ (order marks : List ℕ) (e : order ≡ split_order (stays passed) column old) (h : (y : ℕ) → y ∈ map row_in old → get_or marks y 0 ≡ mark_in (stays passed) column 0 0 old y out) where
    abbrev p : ℕ → Bool
    p = stays passed

    inside : {y : ℕ} → y ∈ split_order p column old → y ∈ map row_in old
    inside m = (keep_in p (map row_in old) (stable_in (mark_key p column old) (keep p (map row_in old)) m)).0

    tell : (y z : ℕ) → y ∈ split_order p column old → z ∈ split_order p column old → same (code_in marks y) (code_in marks z) ≡ same (mark_key p column old y) (mark_key p column old z)
    tell y z i j = ap₂ (λ (a b : ℕ). same (a ∷ []) (b ∷ [])) (h y (inside i)) (h z (inside j))

    pub next-names : Names order n
    next-names k l = slot_in few slot (get_or order k 0) (inside (subst (λ (z : List ℕ). get_or order k 0 ∈ z) e (at_in 0 order k l)))

    pub next_kept : slot_from (code_in marks) least true order ≡ packed (crowds least (key s xs) n)
    next_kept =
        ap (slot_from (code_in marks) least true) e ∙ slot_same (code_in marks) (mark_key p column old) least true (split_order p column old) tell
        ∙ ap (λ (l : List ℕ). slot_from (mark_key p column l) least true (split_order p column l)) whole
        ∙ split_kept p column (turn_refined x.turn) (turn_small x.turn) least x.turn.low x.turn.high few x.turn.passing.sound

    pub next-left : lone_from (code_in marks) least true order ≡ keep p (left_out least xs n s)
    next-left =
        ap (lone_from (code_in marks) least true) e ∙ lone_same (code_in marks) (mark_key p column old) least true (split_order p column old) tell
        ∙ ap (λ (l : List ℕ). lone_from (mark_key p column l) least true (split_order p column l)) whole
        ∙ split_left p column (turn_refined x.turn) (turn_small x.turn) least x.turn.low x.turn.high few x.turn.passing.sound
        ∙ ap (keep p) (sym (left-next least xs n s x.turn.one))

-- ---- a slot is filled

module _ (least d n : ℕ) (ws store sizes p : List ℕ) (s a k len : ℕ) (few : n ≤ 1024) (low : s < 256) (room : 262144 ≤ length store) (places : 256 ≤ length sizes)
    (ea : a ≡ s * 1024) (ek : length p ≡ k) (whole : k ≡ 1024) (small : len ≤ n) (g : take len p ≡ packed (crowds least (key s (cut d n ws)) n)) where
  abbrev over : List ℕ
  over = take a store ++ (p ++ drop k (drop a store))

  fits : a + k ≤ length store
  fits = omega (arith, ea, whole, low, room)

  pub filled : Filled least d n ws store sizes over (set sizes s len) s
  filled = record {
    here = record {
      few = rw (get_or-set_same sizes s len 0 (omega (arith, low, places))) small;
      slot = rw (get_or-set_same sizes s len 0 (omega (arith, low, places))) (part-here store p s a k ea ek (omega (arith, whole)) fits len (omega (arith, small, few, whole)) ∙ g);
    };
    others = λ m t q h. record {
      few = rw (get_or-set_other sizes s t len 0 q) h.few;
      slot = rw (get_or-set_other sizes s t len 0 q) (part-other store p s a k ea ek (omega (arith, whole)) fits t (get_or sizes t 0) (omega (arith, h.few, few)) q ∙ h.slot);
    };
  }

-- ---- groups counted

pub ends_sum : (l : List ℕ) → sum_by end_in l ≡ ends l
ends_sum [] = refl
ends_sum (e ∷ l) = sum_by-cons end_in e l ∙ ap (λ (k : ℕ). end_in e + k) (ends_sum l)

-- ---- no row is passed over

abbrev none : List ℕ
none = replicate 32 0

none_long : length none ≡ 32
none_long = length-replicate {A = ℕ} 32 0

none_passed : (x : ℕ) → stays none x ≡ true
none_passed x = ap not (has-none none zeros x)
  where
    zeros : (i : ℕ) → get_or none i 0 ≡ 0
    zeros i = cases (truth (ltb i 32))
        (λ t. get_or-replicate 32 i 0 0 (ltb-true i 32 t))
        (λ t. get_or-eq_default none 0 {n = i} (omega (arith, none_long, ltb-false i 32 t)))

pub passing_none : (least d n : ℕ) (ws : List ℕ) (s : ℕ) → Passing least d n ws none s
passing_none least d n ws s = record { room = none_long; sound = λ x h t. none_passed x; first = λ e x. none_passed x; next = λ e f x h. none_passed x }
