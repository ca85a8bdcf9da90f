-- `rows_crowds::fill_one` meets its contract: the column alone tells the rows apart, and its order has them group after group.
use mathlib.Core.Path.{◌≡◌, refl, ap, ◌∙◌}
use Prim.Native.Nat.{◌+◌, ◌-◌, ◌*◌}
use native.Mathlib.Omega.{arith}
use borrow.Rule.Slice.PartMut.{mid_len}
use lib.ListN.{length}
use Rattle.rows_order.proofs.Arranged.{arranged-length}
use Rattle.rows_slots.specs.Slots.{code_in}
use Rattle.rows_crowds.proofs.Column.{Turn, turn-column, turn-rising, one-names, one_kept, one_left}
use Rattle.rows_crowds.proofs.Filling.{below_all, filled}
use Rattle.rows_crowds.proofs.fill_one.Goals as goal
use Rattle.rows_crowds.proofs.fill_one.Goals.{After-column_of-order}

-- its column, and the rows in order
turn : (c : goal.After-column_of-order) → let a = c.args in Turn a.least a.dims a.n a.rows.now a.columns.now c.column_of-by.result.now c.column_of-order.result.now a.passed.now a.set
turn c =
    let p = c.requires in
    record {
      low = p.n_bound.1;
      high = p.n_bound.2;
      few = p.n_bound.0;
      valid = p.n_bound.3;
      one = p.dims_bound.2;
      small = below_all c.args.dims p.dims_bound.0 p.dims_bound.3;
      within = p.dims_bound.3;
      told = p.dims_bound.1;
      is_column = rw c.last_dimension-d.ensures.0 at c.column_of-by.ensures;
      is_rising = rw c.last_dimension-d.ensures.0 at c.column_of-order.ensures;
      passing = p.dims_bound.4;
    }

-- all rows
long : (c : goal.After-column_of-order) → length c.column_of-order.result.now ≡ c.args.n
long c = let x = turn c in ap length (turn-rising x) ∙ arranged-length (code_in c.column_of-by.result.now) c.args.n

pub pack_groups-done-requires-clause-names : goal.pack_groups-done-requires-clause-names
pack_groups-done-requires-clause-names c =
    let p = c.requires in
    let x = turn (goal.at.pack_groups-done-requires-clause-names c).After-column_of-order in
    let n = long (goal.at.pack_groups-done-requires-clause-names c).After-column_of-order in
    let names = one-names x p.dims_bound.5 p.dims_bound.6 in
    (λ i l. omega (arith, names i l, turn-column x), λ i l. omega (arith, names i l, p.n_bound.0), omega (arith, n, p.n_bound.0))

pub returns : goal.returns
returns c =
    let a = c.args in
    let p = c.requires in
    let r = c.pack_groups-done in
    let x = turn (goal.at.returns c).After-column_of-order in
    let n = long (goal.at.returns c).After-column_of-order in
    let w : a.set * 1024 + 1024 - a.set * 1024 ≡ 1024 = omega arith in
    let len : length r.new.slot ≡ a.set * 1024 + 1024 - a.set * 1024 = r.auto.slot ∙ mid_len (a.set * 1024) (a.set * 1024 + 1024) a.store.now (omega (arith, (below_all c.args.dims c.requires.dims_bound.0 c.requires.dims_bound.3), p.in_bounds.0)) in record {
      filled = filled a.least a.dims a.n a.rows.now a.store.now a.sizes.now r.new.slot a.set (a.set * 1024) (a.set * 1024 + 1024 - a.set * 1024) r.result.len p.n_bound.0 (below_all c.args.dims c.requires.dims_bound.0 c.requires.dims_bound.3) p.in_bounds.0 p.in_bounds.1 refl len w
          (omega (arith, r.ensures.len_in_bounds.0, n)) (r.ensures.slot_after ∙ one_kept x p.dims_bound.5 p.dims_bound.6);
      lone_after = (r.ensures.lone_after ∙ one_left x p.dims_bound.5 p.dims_bound.6, omega (arith, r.ensures.len_in_bounds.1, n));
    }
