-- `call_fee::share_rows` meets its contract: the cells' counts are the weights, and add up to the rows' count.
use mathlib.Core.Path.{◌≡◌, sym, ◌∙◌, ap}
use mathlib.Core.List.{List}
use Prim.Native.Nat.{ℕ, ◌≤◌}
use native.Mathlib.Omega.{arith}
use lib.ListN.{length, take}
use lib.Seq.{length-take-le}
use Rattle.lists.specs.Lists.{sum}
use Rattle.lattice.proofs.Sets.{sets_of}
use Rattle.rows.specs.Slices.{held}
use Rattle.rows.proofs.Flat.{rows-length}
use Rattle.call_answers.proofs.Answers.{answered_as}
use Rattle.call_answers.specs.Answers.{bytes}
use Rattle.fee_list.specs.Listed.{fee_bytes}
use Rattle.call_fee.proofs.Counts.{weights-total, some-rows}
use borrow.Author.Rules.{rules}
use Rattle.call_fee.proofs.share_rows.Goals as goal
use Rattle.call_fee.proofs.share_rows.Goals.{After-cell_counts-count}

-- the counts are in the front of the array
front : (c : goal.After-cell_counts-count) → c.cell_counts-count.result ≤ length c.cell_counts-count.new.tallies
front c = search rules

pub cell_counts-count-requires : goal.cell_counts-count-requires
cell_counts-count-requires c =
    let a = c.args in
    let p = c.requires in
    let rows = held a.rows.now in
    (p.0, omega (arith, some-rows rows p.3, rows-length a.rows.now.dims a.rows.now.n a.rows.now.words.now), search rules)

pub slice_bounds-fee-end : goal.slice_bounds-fee-end
slice_bounds-fee-end c = sym (length-take-le _ _ (front (goal.at.slice_bounds-fee-end c).After-cell_counts-count))

pub invariant_of-fee : goal.invariant_of-fee
invariant_of-fee c =
    let r = c.args.rows.now in
    let p = c.requires in
    let n = c.cell_counts-count.result in
    let tallies = c.cell_counts-count.new.tallies in
    let e = c.cell_counts-count.ensures in
    let t : sum (take n tallies) ≡ _ = ap sum e.0 ∙ weights-total r.dims (held r) p.0.table (sets_of r.dims p.1) in
    record {
      small = p.2;
      few = omega (arith, length-take-le n tallies (front (goal.at.invariant_of-fee c).After-cell_counts-count), e.1, p.0.few);
      some = omega (arith, t, p.3);
      bounded = omega (arith, t, p.0.summable.few);
    }

pub returns : goal.returns
returns c = let a = c.args in answered_as (ap (λ (l : List ℕ). bytes (fee_bytes a.fee l)) (sym c.cell_counts-count.ensures.0)) c.fit_fee.ensures
