-- `family_slots::next_node` meets its contract: the rows of the parent are carried over, and their groups are packed.
use mathlib.Core.Path.{◌≡◌, sym, ap, subst, ◌∙◌}
use mathlib.Core.List.{◌++◌}
use Prim.Native.Nat.{ℕ, suc, ◌+◌, ◌≤◌, ◌<◌}
use native.Mathlib.Numerals.{add-one}
use native.Mathlib.Omega.{arith}
use lib.ListN.{length, get_or, take, drop}
use lib.Seq.{length-take-le}
use Rattle.rows_bits.specs.Rowsets.{stays}
use Rattle.rows_columns.specs.Columns.{part}
use Rattle.family_slots.specs.Turns.{turn_at, turn_column}
use Rattle.family_slots.specs.Slots.{Put, Pointed}
use Rattle.family_slots.proofs.Stacked.{next-dim, next-stack, front}
use Rattle.family_slots.proofs.Carrying.{Carrying, column-room, carrying_wide, carrying-small, carrying-slot, carrying-few, carrying-names, carrying-kept, carrying-left, marked-front}
use Rattle.family_slots.proofs.next_node.Goals as goal
use Rattle.family_slots.proofs.next_node.Goals.{After-turn_at-turn, After-column_at-column, After-carry_groups-staying}

-- the dimension whose level falls, and the column to which it falls
dim-is : (c : After-turn_at-turn) → c.turn_at-turn.result.dim ≡ turn_at c.args.heights.now (suc c.args.node)
dim-is c = c.turn_at-turn.ensures.0 ∙ ap (turn_at c.args.heights.now) (add-one c.args.node)

column-is : (c : After-turn_at-turn) → c.turn_at-turn.result.column ≡ turn_column 0 c.args.heights.now (suc c.args.node)
column-is c = c.turn_at-turn.ensures.1 ∙ ap (turn_column 0 c.args.heights.now) (add-one c.args.node)

inside : (c : After-turn_at-turn) → c.turn_at-turn.result.dim < length c.args.heights.now
inside c = let p = c.requires in omega (arith, dim-is c, next-dim p.n_bound.0 p.n_bound.3 p.n_bound.4 p.stack.0)

few : (c : After-turn_at-turn) → c.turn_at-turn.result.dim < 8
few c = omega (arith, inside c, c.requires.n_bound.3.dims)

-- a slot that is named
slot-low : (c : After-turn_at-turn) (j : ℕ) → j ≤ length c.args.heights.now → get_or c.args.at.now j 0 < 9
slot-low c j h = omega (arith, c.requires.stack.0.high j h, c.requires.n_bound.3.dims)

slot-few : (c : After-turn_at-turn) (j : ℕ) → j ≤ length c.args.heights.now → get_or c.args.sizes.now (get_or c.args.at.now j 0) 0 ≤ 1024
slot-few c j h = omega (arith, (c.requires.stack.0.held j h).few, c.requires.n_bound.0)

pub overflow_add-turn : goal.overflow_add-turn
overflow_add-turn c = omega (arith, few (goal.at.overflow_add-turn c).After-turn_at-turn)

pub offset_bounds-at-turn : goal.offset_bounds-at-turn
offset_bounds-at-turn c = omega (arith, few (goal.at.offset_bounds-at-turn c).After-turn_at-turn)

pub bounds-at-turn : goal.bounds-at-turn
bounds-at-turn c = omega (arith, few (goal.at.bounds-at-turn c).After-turn_at-turn, c.requires.in_bounds.2)

pub slot_at-old-requires : goal.slot_at-old-requires
slot_at-old-requires c =
    let at = (goal.at.slot_at-old-requires c).After-turn_at-turn in
    (c.requires.in_bounds.0, c.requires.in_bounds.1, slot-low at _ (omega (arith, inside at)), slot-few at _ (omega (arith, inside at)))

pub column_at-column-requires : goal.column_at-column-requires
column_at-column-requires c =
    let a = c.args in
    let p = c.requires.n_bound in
    let e = column-is (goal.at.column_at-column-requires c).After-turn_at-turn in
    let r = column-room a.columns.now a.n a.node p.0 p.3 p.4 p.5 in
    (omega (arith, e, r.1), omega (arith, e, r.0), p.0)

-- what is carried over, and by what
carrying : (c : After-column_at-column) → let a = c.args in
    Carrying a.least a.n a.columns.now a.heights.now a.node a.passed.now a.store.now a.sizes.now a.at.now c.slot_at-old.result.now c.column_at-column.result.now
carrying c =
    let a = c.args in
    let p = c.requires in
    let d = c.turn_at-turn.ensures.0 ∙ ap (turn_at a.heights.now) (add-one a.node) in
    let k = c.turn_at-turn.ensures.1 ∙ ap (turn_column 0 a.heights.now) (add-one a.node) in
    record {
      few = p.n_bound.0;
      low = p.n_bound.1;
      high = p.n_bound.2;
      heights = p.n_bound.3;
      below = p.n_bound.4;
      room = p.n_bound.5;
      small = p.n_bound.6;
      stack = p.stack.0;
      sound = p.stack.1;
      is-old = c.slot_at-old.ensures ∙ ap (λ (d : ℕ). part (get_or a.at.now (d + 1) 0) (get_or a.sizes.now (get_or a.at.now (d + 1) 0) 0) a.store.now) d;
      is_column = c.column_at-column.ensures ∙ ap (λ (k : ℕ). part k a.n a.columns.now) k;
    }

-- the marks of all rows
wide : (c : After-column_at-column) → length (take c.args.n c.args.marks.now) ≡ c.args.n
wide c = length-take-le c.args.n c.args.marks.now (omega (arith, c.requires.n_bound.0, c.requires.in_bounds.4))

pub carry_groups-staying-requires-clause-column_len_bound : goal.carry_groups-staying-requires-clause-column_len_bound
carry_groups-staying-requires-clause-column_len_bound c =
    let p = c.requires.n_bound in
    let x = carrying (goal.at.carry_groups-staying-requires-clause-column_len_bound c).After-column_at-column in
    (omega (arith, carrying_wide x, p.0), carrying-slot x, p.7, carrying-small x)

pub carry_groups-staying-requires-clause-order_len : goal.carry_groups-staying-requires-clause-order_len
carry_groups-staying-requires-clause-order_len c =
    let t = (goal.at.carry_groups-staying-requires-clause-order_len c).After-column_at-column in
    (c.requires.in_bounds.3, wide t ∙ sym (carrying_wide (carrying t)), c.requires.in_bounds.5)

-- the rows that were carried over
staying : (c : After-carry_groups-staying) → length c.slot_at-old.result.now ≤ c.args.n → (c.carry_groups-staying.result ≤ c.args.n) × (c.carry_groups-staying.result ≤ length c.carry_groups-staying.new.order)
    × (length (take c.carry_groups-staying.result c.carry_groups-staying.new.order) ≡ c.carry_groups-staying.result)
    × (length c.carry_groups-staying.new.marks ≡ c.args.n)
staying c old =
    let p = c.requires in
    let r = c.carry_groups-staying in
    let k : r.result ≤ c.args.n = omega (arith, r.ensures.order_after.1, old) in
    let m : r.result ≤ length r.new.order = omega (arith, k, p.n_bound.0, r.auto.order, p.in_bounds.3) in
    (k, m, length-take-le r.result r.new.order m, r.auto.marks ∙ length-take-le c.args.n c.args.marks.now (omega (arith, p.n_bound.0, p.in_bounds.4)))

pub slice_bounds-fill_slot-end : goal.slice_bounds-fill_slot-end
slice_bounds-fill_slot-end c = let at = goal.at.slice_bounds-fill_slot-end c in (staying at.After-carry_groups-staying (carrying-few (carrying at.After-column_at-column))).1

pub slice_bounds-fill_slot-end-2 : goal.slice_bounds-fill_slot-end-2
slice_bounds-fill_slot-end-2 c = let at = goal.at.slice_bounds-fill_slot-end-2 c in sym (staying at.After-carry_groups-staying (carrying-few (carrying at.After-column_at-column))).2

pub fill_slot-left-requires-clause-order_len_bound : goal.fill_slot-left-requires-clause-order_len_bound
fill_slot-left-requires-clause-order_len_bound c =
    let a = c.args in
    let p = c.requires in
    let r = c.carry_groups-staying in
    let at = goal.at.fill_slot-left-requires-clause-order_len_bound c in
    let x = carrying at.After-column_at-column in
    let s = staying at.After-carry_groups-staying (carrying-few x) in
    let names = carrying-names x (take r.result r.new.order) r.new.marks r.ensures.order_after.0 r.ensures.by_index in
    let long : length (take a.n (r.new.marks ++ drop a.n a.marks.now)) ≡ a.n = ap length (front r.new.marks (drop a.n a.marks.now) a.n s.3) ∙ s.3 in
    (omega (arith, s.2, s.0, p.n_bound.0), λ i l. omega (arith, names i l, long), λ i l. omega (arith, names i l, p.n_bound.0), omega (arith, few at.After-turn_at-turn))

pub point_to-requires : goal.point_to-requires
point_to-requires c =
    let k = few (goal.at.point_to-requires c).After-turn_at-turn in
    (omega (arith, k, c.requires.in_bounds.2), omega (arith, k))

pub returns-clause-stack_2 : goal.returns-clause-stack_2
returns-clause-stack_2 c =
    let a = c.args in
    let p = c.requires in
    let r = c.carry_groups-staying in
    let f = c.fill_slot-left in
    let at = goal.at.returns-clause-stack_2 c in
    let x = carrying at.After-column_at-column in
    let s = staying at.After-carry_groups-staying (carrying-few x) in
    let e = dim-is at.After-turn_at-turn in
    let rest = drop a.n a.marks.now in
    let h = marked-front (stays a.passed.now) c.column_at-column.result.now c.slot_at-old.result.now r.new.marks rest a.n s.3 r.ensures.by_index in
    next-stack p.n_bound.0 p.n_bound.3 p.n_bound.4 p.stack.0 (subst (Put _ a.store.now a.sizes.now f.new.store f.new.sizes) e f.ensures.put) (subst (Pointed a.at.now c.point_to.new.at) e c.point_to.ensures)
    (carrying-kept x (take r.result r.new.order) (take a.n (r.new.marks ++ rest)) r.ensures.order_after.0 h)

pub returns-clause-lone_after : goal.returns-clause-lone_after
returns-clause-lone_after c =
    let a = c.args in
    let r = c.carry_groups-staying in
    let f = c.fill_slot-left in
    let at = goal.at.returns-clause-lone_after c in
    let x = carrying at.After-column_at-column in
    let s = staying at.After-carry_groups-staying (carrying-few x) in
    let rest = drop a.n a.marks.now in
    let h = marked-front (stays a.passed.now) c.column_at-column.result.now c.slot_at-old.result.now r.new.marks rest a.n s.3 r.ensures.by_index in
    (f.ensures.lone_after.0 ∙ carrying-left x (take r.result r.new.order) (take a.n (r.new.marks ++ rest)) r.ensures.order_after.0 h, omega (arith, f.ensures.lone_after.1, s.2, s.0))
