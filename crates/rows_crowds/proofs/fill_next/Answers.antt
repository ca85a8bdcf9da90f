-- `rows_crowds::fill_next` meets its contract: the rows of the set without its last dimension are split, and their groups are packed.
use mathlib.Core.Path.{◌≡◌, refl, ap, ◌∙◌}
use mathlib.Core.List.{List, ◌++◌, map}
use mathlib.Core.Bool.{Bool}
use Prim.Native.Nat.{ℕ, ◌+◌, ◌-◌, ◌*◌}
use native.Mathlib.Omega.{arith}
use borrow.Rule.Slice.PartMut.{mid_len}
use lib.ListN.{length, get_or, take, drop}
use Rattle.std.proofs.Common.{length-append}
use lib.Seq.{length-take-le, take-append-le, take_all}
use Rattle.lists.specs.Lists.{◌∈◌}
use Rattle.rows_bits.specs.Rowsets.{stays}
use Rattle.rows_slots.specs.Slots.{row_in, out, mark_in}
use Rattle.rows_crowds.proofs.Shorter.{shorter_power}
use Rattle.rows_crowds.proofs.Column.{turn_small, turn-column}
use Rattle.rows_crowds.proofs.Filling.{below_all, Next, next-few, next-slot, next-rising, next-names, next_kept, next-left, filled}
use Rattle.rows_crowds.proofs.fill_next.Goals as goal
use Rattle.rows_crowds.proofs.fill_next.Goals.{After-column_of-rising}

-- what is split, and by what
next : (c : goal.After-column_of-rising) → let a = c.args in
    Next a.least a.dims a.n a.rows.now a.columns.now c.column_of-column.result.now c.column_of-rising.result.now a.passed.now a.store.now a.sizes.now a.set c.slot_of-old.result.now
next c =
    let a = c.args in
    let p = c.requires in
    record {
      turn = record {
        low = p.n_bound.1;
        high = p.n_bound.2;
        few = p.n_bound.0;
        valid = p.n_bound.3;
        one = p.dims_bound.2;
        small = below_all c.args.dims p.dims_bound.0 p.dims_bound.3;
        within = p.dims_bound.3;
        told = p.dims_bound.1;
        is_column = rw c.last_dimension-d.ensures.0 at c.column_of-column.ensures;
        is_rising = rw c.last_dimension-d.ensures.0 at c.column_of-rising.ensures;
        passing = p.dims_bound.4;
      };
      held = p.dims_bound.5;
      is-old = rw (c.sets_of.ensures, c.last_dimension-d.ensures.0) at c.slot_of-old.ensures;
    }

-- the marks are in front of what is lent
front : (l m : List ℕ) (k : ℕ) → length l ≡ k → take k (l ++ m) ≡ l
front l m k e = take-append-le k l m (omega (arith, e)) ∙ take_all k l (omega (arith, e))

marked : (p : ℕ → Bool) (column old l m : List ℕ) (k : ℕ) → length l ≡ k → ((y : ℕ) → y ∈ map row_in old → get_or l y 0 ≡ mark_in p column 0 0 old y out) → (y : ℕ) → y ∈ map row_in old → get_or (take k (l ++ m)) y 0 ≡ mark_in p column 0 0 old y out
marked p column old l m k e h y i = ap (λ (z : List ℕ). get_or z y 0) (front l m k e) ∙ h y i

pub overflow_sub-shorter : goal.overflow_sub-shorter
overflow_sub-shorter c = rw (c.sets_of.ensures, c.last_dimension-d.ensures.0) (shorter_power c.args.set c.requires.dims_bound.2 (below_all c.args.dims c.requires.dims_bound.0 c.requires.dims_bound.3))

pub split_groups-staying-requires-clause-column_len_bound : goal.split_groups-staying-requires-clause-column_len_bound
split_groups-staying-requires-clause-column_len_bound c =
    let p = c.requires in
    let x = next (goal.at.split_groups-staying-requires-clause-column_len_bound c).After-column_of-rising in
    (omega (arith, turn-column x.turn, p.n_bound.0), next-slot x, p.dims_bound.4.room, turn_small x.turn, next-rising x)

pub pack_groups-done-requires-clause-names : goal.pack_groups-done-requires-clause-names
pack_groups-done-requires-clause-names c =
    let a = c.args in
    let p = c.requires in
    let r = c.split_groups-staying in
    let x = next (goal.at.pack_groups-done-requires-clause-names c).After-column_of-rising in
    let few = next-few x in
    let wide : length r.new.marks ≡ a.n = r.auto.marks ∙ length-take-le a.n a.marks.now (omega (arith, p.n_bound.0, p.in_bounds.3)) in
    let long : length (take a.n (r.new.marks ++ drop a.n a.marks.now)) ≡ a.n = length-take-le a.n _ (omega (arith, length-append r.new.marks (drop a.n a.marks.now), wide)) in
    let n : length (take r.result r.new.order) ≡ r.result = length-take-le r.result r.new.order (omega (arith, r.ensures.order_after.1, few, p.n_bound.0, r.auto.order, p.in_bounds.2)) in
    let names = next-names x (take r.result r.new.order) r.new.marks r.ensures.order_after.0 r.ensures.by_index in
    (λ i l. omega (arith, names i l, long), λ i l. omega (arith, names i l, p.n_bound.0), omega (arith, n, r.ensures.order_after.1, few, p.n_bound.0))

pub returns : goal.returns
returns c =
    let a = c.args in
    let p = c.requires in
    let s = c.split_groups-staying in
    let r = c.pack_groups-done in
    let x = next (goal.at.returns c).After-column_of-rising in
    let few = next-few x in
    let n : length (take s.result s.new.order) ≡ s.result = length-take-le s.result s.new.order (omega (arith, s.ensures.order_after.1, few, p.n_bound.0, s.auto.order, p.in_bounds.2)) in
    let wide : length s.new.marks ≡ a.n = s.auto.marks ∙ length-take-le a.n a.marks.now (omega (arith, p.n_bound.0, p.in_bounds.3)) in
    let rest = drop a.n a.marks.now in
    let h = marked (stays a.passed.now) c.column_of-column.result.now c.slot_of-old.result.now s.new.marks rest a.n wide s.ensures.by_index in
    let order = take s.result s.new.order in
    let marks = take a.n (s.new.marks ++ rest) in
    let w : a.set * 1024 + 1024 - a.set * 1024 ≡ 1024 = omega arith in
    let len : length r.new.slot ≡ a.set * 1024 + 1024 - a.set * 1024 = r.auto.slot ∙ mid_len (a.set * 1024) (a.set * 1024 + 1024) a.store.now (omega (arith, (below_all c.args.dims c.requires.dims_bound.0 c.requires.dims_bound.3), p.in_bounds.0)) in
    record {
      filled = filled a.least a.dims a.n a.rows.now a.store.now a.sizes.now r.new.slot a.set (a.set * 1024) (a.set * 1024 + 1024 - a.set * 1024) r.result.len p.n_bound.0 (below_all c.args.dims c.requires.dims_bound.0 c.requires.dims_bound.3) p.in_bounds.0 p.in_bounds.1 refl len w
          (omega (arith, r.ensures.len_in_bounds.0, n, s.ensures.order_after.1, few)) (r.ensures.slot_after ∙ next_kept x order marks s.ensures.order_after.0 h);
      lone_after = (r.ensures.lone_after ∙ next-left x order marks s.ensures.order_after.0 h, omega (arith, r.ensures.len_in_bounds.1, n, s.ensures.order_after.1, few));
    }
