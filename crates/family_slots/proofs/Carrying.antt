-- The groups of the parent carried over to those of the next node.
use mathlib.Core.Path.{◌≡◌, sym, ap, ap₂, subst, ◌∙◌}
use mathlib.Core.Bool.{Bool, true}
use mathlib.Core.List.{List, [], ◌∷◌, ◌++◌, map}
use Prim.Native.Nat.{ℕ, suc, ◌+◌, ◌*◌, ◌≤◌, ◌<◌}
use native.Mathlib.Omega.{arith}
use lib.Dec.{ltb}
use lib.ListN.{length, get_or, take, drop, length-drop, get_or-eq_default}
use lib.Seq.{length-take-le, get_or-take, get_or-drop}
use borrow.Author.Tests.{ltb-true, ltb-false}
use Rattle.lists.specs.Lists.{◌∈◌, keep}
use Rattle.lists.specs.Order.{same}
use Rattle.lists.proofs.Tests.{cases, truth}
use Rattle.lists.proofs.Members.{at_in, keep_in}
use Rattle.rows_deals.specs.Deals.{Names, digit, dealt}
use Rattle.rows_deals.proofs.Dealt.{dealt_in}
use Rattle.rows_bits.specs.Rowsets.{stays}
use Rattle.rows_order.specs.Index.{by_code}
use Rattle.rows_slots.specs.Slots.{crowds, shares, lone_rows, packed, row_in, code_in, slot_from, lone_from, out, mark_in, mark_key, Slot}
use Rattle.rows_slots.proofs.Split.{slot_same, lone_same}
use Rattle.rows_split.proofs.Slotted.{slot-few, slot_in}
use Rattle.rows_columns.specs.Columns.{part}
use Rattle.rows_carry.specs.Carried.{Headed, carry_order}
use Rattle.rows_carry.proofs.Carried.{carry-kept, carry-left}
use Rattle.family_nodes.specs.Nodes.{node_count}
use Rattle.family_slots.specs.Turns.{Heights, turn_at, turn_column, parent}
use Rattle.family_slots.specs.Slots.{node_key, Stack, Small}
use Rattle.family_slots.proofs.Turns.{column-few}
use Rattle.family_slots.proofs.Keys.{node-headed}
use Rattle.family_slots.proofs.Stacked.{tall, next-old, front}

-- ---- a column

part_length : (c n : ℕ) (l : List ℕ) → c * 1024 + n ≤ length l → length (part c n l) ≡ n
part_length c n l h = length-take-le n (drop (c * 1024) l) (omega (arith, length-drop (c * 1024) l, h))

part_small : (c n : ℕ) (l : List ℕ) → c * 1024 + n ≤ length l → Small l → Small (part c n l)
part_small c n l h s i = cases (truth (ltb i n))
    (λ t. rw (get_or-take n (drop (c * 1024) l) i 0 (ltb-true i n t), get_or-drop (c * 1024) l i 0) (s (c * 1024 + i)))
    (λ t. let e : get_or (part c n l) i 0 ≡ 0 = get_or-eq_default (part c n l) 0 {n = i} (omega (arith, ltb-false i n t, part_length c n l h)) in omega (arith, e))

-- ---- what is carried over, and by what

pub record Carrying (least n : ℕ) (columns hs : List ℕ) (node : ℕ) (passed store sizes at old column : List ℕ) : Type 0 where
  pub few : n ≤ 1024
  pub low : 1 ≤ least
  pub high : least ≤ 2
  pub heights : Heights hs
  pub below : suc node < node_count hs
  pub room : 32768 ≤ length columns
  pub small : Small columns
  pub stack : Stack least n columns hs (suc node) store sizes at
  pub sound : (x : ℕ) → x < n → shares least (node_key columns n hs node) n x ≡ true → stays passed x ≡ true
  pub is-old : old ≡ part (get_or at (turn_at hs (suc node) + 1) 0) (get_or sizes (get_or at (turn_at hs (suc node) + 1) 0) 0) store
  pub is_column : column ≡ part (turn_column 0 hs (suc node)) n columns

pub column-room : {hs : List ℕ} (columns : List ℕ) (n node : ℕ) → n ≤ 1024 → Heights hs → suc node < node_count hs → 32768 ≤ length columns → (turn_column 0 hs (suc node) < 32) × (turn_column 0 hs (suc node) * 1024 + n ≤ length columns)
column-room {hs} columns n node few w k room =
    let c = column-few 0 hs (suc node) (λ h m. (tall w h m, w.most h m)) (omega arith) k in
    let l : turn_column 0 hs (suc node) < 32 = omega (arith, c, w.dims) in
    (l, omega (arith, l, few, room))

module _ {least n : ℕ} {columns hs : List ℕ} {node : ℕ} {passed store sizes at old column : List ℕ} (c : Carrying least n columns hs node passed store sizes at old column) where
  abbrev k : ℕ
  k = turn_column 0 hs (suc node)

  abbrev short : ℕ → List ℕ
  short = node_key columns n hs (parent hs node)

  abbrev long : ℕ → List ℕ
  long = node_key columns n hs node

  fits : k * 1024 + n ≤ length columns
  fits = (column-room columns n node c.few c.heights c.below c.room).1

  pub carrying_wide : length column ≡ n
  carrying_wide = ap length c.is_column ∙ part_length k n columns fits

  pub carrying-small : Small column
  carrying-small = subst Small (sym c.is_column) (part_small k n columns fits c.small)

  whole : old ≡ packed (crowds least short n)
  whole = c.is-old ∙ (next-old c.few c.heights c.below c.stack).slot

  slot : Slot n old
  slot = record { least = least; by = short; groups = whole }

  pub carrying-slot : Slot (length column) old
  carrying-slot = subst (λ (m : ℕ). Slot m old) (sym carrying_wide) slot

  pub carrying-few : length old ≤ n
  carrying-few = slot-few c.few slot

  -- the rows that were carried over, in order and marked
  module _ (order marks : List ℕ) (e : order ≡ carry_order (stays passed) column old) (h : (y : ℕ) → y ∈ map row_in old → get_or marks y 0 ≡ mark_in (stays passed) column 0 0 old y out) where
    abbrev p : ℕ → Bool
    p = stays passed

    inside : {y : ℕ} → y ∈ carry_order p column old → y ∈ map row_in old
    unfolding carry_order by_code
    inside m = (keep_in p (map row_in old) (dealt_in (digit column 1) 256 (keep p (map row_in old)) (dealt_in (digit column 256) 256 (dealt (digit column 1) 256 (keep p (map row_in old))) m).0).0).0

    tell : (y z : ℕ) → y ∈ carry_order p column old → z ∈ carry_order p column old → same (code_in marks y) (code_in marks z) ≡ same (mark_key p column old y) (mark_key p column old z)
    tell y z i j = ap₂ (λ (a b : ℕ). same (a ∷ []) (b ∷ [])) (h y (inside i)) (h z (inside j))

    pub carrying-names : Names order n
    carrying-names i l = slot_in c.few slot (get_or order i 0) (inside (subst (λ (z : List ℕ). get_or order i 0 ∈ z) e (at_in 0 order i l)))

    headed : Headed n column short long
    headed = subst (λ (l : List ℕ). Headed n l short long) (sym c.is_column) (node-headed columns n hs node (tall c.heights) c.below)

    pub carrying-kept : slot_from (code_in marks) least true order ≡ packed (crowds least long n)
    carrying-kept =
        ap (slot_from (code_in marks) least true) e ∙ slot_same (code_in marks) (mark_key p column old) least true (carry_order p column old) tell
        ∙ ap (λ (l : List ℕ). slot_from (mark_key p column l) least true (carry_order p column l)) whole
        ∙ carry-kept p column headed carrying-small least c.low c.high c.few c.sound

    pub carrying-left : lone_from (code_in marks) least true order ≡ keep p (lone_rows least short long n)
    carrying-left =
        ap (lone_from (code_in marks) least true) e ∙ lone_same (code_in marks) (mark_key p column old) least true (carry_order p column old) tell
        ∙ ap (λ (l : List ℕ). lone_from (mark_key p column l) least true (carry_order p column l)) whole
        ∙ carry-left p column headed carrying-small least c.low c.high c.few c.sound

-- the marks stand in front of what is lent
pub marked-front : (p : ℕ → Bool) (column old l m : List ℕ) (k : ℕ) → length l ≡ k → ((y : ℕ) → y ∈ map row_in old → get_or l y 0 ≡ mark_in p column 0 0 old y out)
    → (y : ℕ) → y ∈ map row_in old → get_or (take k (l ++ m)) y 0 ≡ mark_in p column 0 0 old y out
marked-front p column old l m k e h y i = ap (λ (z : List ℕ). get_or z y 0) (front l m k e) ∙ h y i
