-- `family_columns::fill_dimension` meets its contract: the codes of level l are in hand, and those of the levels up to it in their columns.
use mathlib.Core.Path.{sym, subst}
use Prim.Native.Nat.{ℕ, ◌+◌, ◌*◌, ◌≤◌}
use native.Mathlib.Omega.{arith}
use lib.ListN.{length, get_or}
use Rattle.rows.specs.Slices.{codes}
use Rattle.rows.proofs.Rows.{cut-length}
use Rattle.family_columns.proofs.Lifting.{stands_at}
use Rattle.family_columns.proofs.Filling.{Given, Filling, filling_start, filling_range, filling_more}
use Rattle.family_columns.proofs.fill_dimension.Goals as goal
use Rattle.family_columns.proofs.fill_dimension.Goals.{Start}

given : (c : Start) → let a = c.args in Given a.s.now a.z a.places.now a.d (codes a.rows.now)
given c =
    let a = c.args in
    let r = a.rows.now in
    let p = c.requires.places_len_bound in
    record { few = omega (arith, cut-length r.dims r.n r.words.now, c.requires.dims_value.2); three = p.0; most = p.1; stands = p.2; range = p.3 }

pub loop-l-init : goal.loop-l-init
loop-l-init c =
    let a = c.args in
    filling_start (given (goal.at.loop-l-init c).Start) (a.d * 4) (omega arith) c.read_column.ensures c.requires.dims_value.5 c.put_column.ensures

pub raise_codes-requires : goal.raise_codes-requires
raise_codes-requires c =
    let a = c.args in
    let l = c.loop-l in
    let there = subst (λ (b : ℕ). get_or a.places.now l.l 0 + (4 + 4 * b) ≤ length a.s.now) (sym l.invariant.top) (stands_at a.s.now a.z a.places.now l.l c.requires.places_len_bound.2 c.loop-l-test.true) in
    (omega (arith, there), filling_range (given (goal.at.raise_codes-requires c).Start) l.invariant)

pub loop-l-preserved : goal.loop-l-preserved
loop-l-preserved c =
    let a = c.args in
    let l = c.loop-l in
    subst (λ (b : ℕ). Filling a.s.now a.z a.places.now a.d (codes a.rows.now) c.put_column.new.columns c.raise_codes.new.codes c.put_column-in-loop-l.new.columns b (l.l + 1)) (sym c.word_at-below.ensures)
    (filling_more (given (goal.at.loop-l-preserved c).Start) l.invariant c.loop-l-test.true (a.d * 4 + l.l + 1) (omega arith) c.raise_codes.ensures c.put_column-in-loop-l.ensures)
