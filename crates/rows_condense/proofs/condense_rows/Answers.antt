-- `rows_condense::condense_rows` meets its contract: before each set the slots of the sets that had a turn are filled, the rows that are single on these are told, the
-- lists are ours for these, and so many shared cells have been counted as these have.
use mathlib.Core.Path.{◌≡◌, sym, ap, ap₂, ◌∙◌}
use Prim.Native.Nat.{ℕ, zero, suc, ◌+◌, ◌≤◌, ◌<◌}
use native.Mathlib.Omega.{arith}
use lib.Pow.{pow_mono}
use lib.ListN.{get_or}
use Rattle.lattice.specs.Sets.{sets, full}
use Rattle.lattice.proofs.Sets.{full-lt}
use Rattle.lattice.proofs.Table.{set_read}
use Rattle.cube.specs.Codes.{plain}
use Rattle.rows.specs.Slices.{codes}
use Rattle.rows.proofs.Rows.{cut-length}
use Rattle.rows_ready.specs.Blank.{blanks}
use Rattle.rows_ready.proofs.Blank.{normals-count}
use Rattle.rows_crowds.proofs.Turns.{filling_start, filling_skip, filling_shorter, filling_more, filling_done}
use Rattle.rows_condense.proofs.Listing.{Given, listing_start, listing_skip, listing_lower, listing_fit, listing-more, listing-few, listing-done}
use borrow.Author.Rules.{rules}
use Rattle.rows_condense.proofs.condense_rows.Goals as goal
use Rattle.rows_condense.proofs.condense_rows.Goals.{After-sets_of-all, After-from-set, Else-all-set}

-- the base rows, and how many sets have a turn
base : (c : goal.After-sets_of-all) → let r = c.args.rows.now in Given r.dims r.n r.words.now
base c = let p = c.requires.n_bound in record { dims = p.1; few = p.0; size = c.args.rows.now.whole; base = p.2 }

few : (c : goal.After-sets_of-all) → full c.args.rows.now.dims ≤ 256
few c = omega (arith, full-lt c.args.rows.now.dims, pow_mono {i = c.args.rows.now.dims} {j = 8} c.requires.n_bound.1)

-- the set whose turn it is
turn : (c : goal.After-from-set) → c.from-set.result ≡ get_or (sets 8) c.loop-set.set-index 0
turn c = set_read _ c.in_order-set-items.ensures (omega (arith, c.from-set.ensures))

-- it has one
below : (c : goal.Else-all-set) → c.from-set.result < full c.args.rows.now.dims
below c = omega (arith, c.if-all-set.false, c.sets_of-all.ensures)

-- the lists and the common cells when all sets had their turn, and how many cells there are then
one : (n : ℕ) → blanks n ≤ 1
one zero = omega arith
one (suc n) = omega arith

all_listed : (c : goal.After-blanks) → blanks c.args.rows.now.n + c.loop-set.cells ≤ 262145
all_listed c =
    let p = c.requires.n_bound in
    let r = c.args.rows.now in
    let g : Given r.dims r.n r.words.now = record { dims = p.1; few = p.0; size = r.whole; base = p.2 } in
    omega (arith, one r.n, listing-few g c.loop-set.invariant.1)

pub loop-set-init : goal.loop-set-init
loop-set-init c =
    let all = (goal.at.loop-set-init c).After-sets_of-all in
    (filling_start (few all) c.args.store.now c.args.sizes.now, listing_start (base all) _ _ c.clear_lists.ensures)

pub loop-set-preserved-then-all-set : goal.loop-set-preserved-then-all-set
loop-set-preserved-then-all-set c =
    let v = c.loop-set.invariant in
    let h = c.loop-set-test.true in
    let e = turn (goal.at.loop-set-preserved-then-all-set c).After-from-set in
    let f : full c.args.rows.now.dims ≤ c.from-set.result = omega (arith, c.if-all-set.true, c.sets_of-all.ensures) in
    let all = (goal.at.loop-set-preserved-then-all-set c).After-sets_of-all in
    (filling_skip (few all) v.0 h e f, listing_skip (base all) v.1 h e f)

pub list_set-cells-requires : goal.list_set-cells-requires
list_set-cells-requires c =
    let p = c.requires in
    let l = c.loop-set in
    let v = l.invariant in
    let h = c.loop-set-test.true in
    let e = turn (goal.at.list_set-cells-requires c).After-from-set in
    let f = below (goal.at.list_set-cells-requires c).Else-all-set in
    let all = (goal.at.list_set-cells-requires c).After-sets_of-all in
    let g = base all in
    record {
      n_bound = (p.n_bound.0, p.n_bound.2.valid, p.n_bound.1, c.read_columns.ensures, omega (arith, f, full-lt c.args.rows.now.dims), filling_shorter (few all) v.0 h e f);
      in_bounds = search rules;
      in_bounds_2 = (search rules, search rules, listing_lower g v.1 h e f);
      n_in_bounds = (omega (arith, l.auto.lists, p.in_bounds.2), v.1.short, listing_fit g v.1 h e f);
    }

pub overflow_add-cells : goal.overflow_add-cells
overflow_add-cells c =
    let all = (goal.at.overflow_add-cells c).After-sets_of-all in
    let r = c.list_set-cells.ensures in
    omega (arith, listing-few (base all) (listing-more (base all) c.loop-set.invariant.1 c.loop-set-test.true (turn (goal.at.overflow_add-cells c).After-from-set) (below (goal.at.overflow_add-cells c).Else-all-set) r.told r.lists_after r.value))

pub loop-set-preserved : goal.loop-set-preserved
loop-set-preserved c =
    let v = c.loop-set.invariant in
    let h = c.loop-set-test.true in
    let e = turn (goal.at.loop-set-preserved c).After-from-set in
    let f = below (goal.at.loop-set-preserved c).Else-all-set in
    let all = (goal.at.loop-set-preserved c).After-sets_of-all in
    let r = c.list_set-cells.ensures in
    (filling_more (few all) v.0 h e f r.filled, listing-more (base all) v.1 h e f r.told r.lists_after r.value)

pub overflow_add-result : goal.overflow_add-result
overflow_add-result c = omega (arith, all_listed c, c.blanks.ensures)

pub returns : goal.returns
returns c =
    let r = c.args.rows.now in
    let v = c.loop-set.invariant in
    let all = (goal.at.returns c).After-sets_of-all in
    let w = listing-done (base all) v.1 c.loop-set-test.false in
    record {
      all_hold = filling_done (few all) v.0 c.loop-set-test.false;
      lists_after = (w.0, v.1.short);
      value = ap₂ ◌+◌ (c.blanks.ensures ∙ ap blanks (sym (cut-length r.dims r.n r.words.now))) w.1 ∙ sym (normals-count (plain r.dims) (codes r));
    }
