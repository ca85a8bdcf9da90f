-- `family_columns::fill_columns` meets its contract: the columns of the dimensions before are filled.
use mathlib.Core.Path.{◌≡◌, refl, sym, subst}
use mathlib.Core.List.{List}
use Prim.Native.Nat.{ℕ, ◌+◌, ◌-◌, ◌≤◌}
use native.Mathlib.Omega.{arith}
use lib.ListN.{length, get_or, take, drop}
use Rattle.lists.proofs.Members.{at_in}
use Rattle.rows.specs.Slices.{codes}
use Rattle.family_fields.specs.Places.{Stands}
use Rattle.family_fields.proofs.Towers.{tables-few}
use Rattle.family_columns.specs.Raised.{Dimension}
use Rattle.family_columns.proofs.Dimensions.{places_of, stand_get, below_at, count_at, places-three, places-end, places-are, columning-more, columning-done}
use Rattle.family_columns.proofs.fill_columns.Goals as goal
use Rattle.family_columns.proofs.fill_columns.Goals.{In-loop-d}

-- the level count in hand, and where the places of the dimension end
counted : (c : In-loop-d) → let n = get_or c.args.counts.now c.loop-d.d 0 in (1 ≤ n) × (n ≤ 4)
counted c = let a = c.args in let p = c.requires.counts_len in count_at a.s.now a.counts.now a.places.now p.1 c.loop-d.d (omega (arith, c.loop-d-test.true, p.0))

ends : (c : In-loop-d) → let a = c.args in c.loop-d.len + (get_or a.counts.now c.loop-d.d 0 - 1) ≤ length a.places.now
ends c = let a = c.args in let p = c.requires.counts_len in places-end a.s.now a.counts.now a.places.now p.1 c.loop-d.d (omega (arith, c.loop-d-test.true, p.0)) c.loop-d.invariant.count p.3

-- there are few
small : (c : In-loop-d) → length c.args.places.now ≤ 24
small c = let a = c.args in let p = c.requires.counts_len in omega (arith, p.3, p.0, c.requires.sizes_value.1, tables-few a.counts.now (λ m i. (p.1 m i).1))

-- the places of the dimension
lent : (c : In-loop-d) → let a = c.args in let l = c.loop-d in
    take (l.len + (get_or a.counts.now l.d 0 - 1) - l.len) (drop l.len a.places.now) ≡ places_of a.s.now a.counts.now a.places.now l.d
lent c = let a = c.args in let p = c.requires.counts_len in places-are a.s.now a.counts.now a.places.now p.1 c.loop-d.d (omega (arith, c.loop-d-test.true, p.0)) c.loop-d.invariant.count

pub overflow_sub-to : goal.overflow_sub-to
overflow_sub-to c = (counted (goal.at.overflow_sub-to c).In-loop-d).0

pub overflow_add-to : goal.overflow_add-to
overflow_add-to c = let at = (goal.at.overflow_add-to c).In-loop-d in omega (arith, ends at, small at)

pub offset_bounds-places-len : goal.offset_bounds-places-len
offset_bounds-places-len c = let at = (goal.at.offset_bounds-places-len c).In-loop-d in omega (arith, ends at, small at)

pub slice_bounds-fill_dimension-end : goal.slice_bounds-fill_dimension-end
slice_bounds-fill_dimension-end c = ends (goal.at.slice_bounds-fill_dimension-end c).In-loop-d

pub fill_dimension-requires-clause-places_len_bound : goal.fill_dimension-requires-clause-places_len_bound
fill_dimension-requires-clause-places_len_bound c =
    let a = c.args in
    let p = c.requires.counts_len in
    let l = c.loop-d in
    let t = c.loop-d-test.true in
    let e = sym (lent (goal.at.fill_dimension-requires-clause-places_len_bound c).In-loop-d) in (
      subst (λ (q : List ℕ). length q ≤ 3) e (places-three a.s.now a.counts.now a.places.now p.1 l.d (omega (arith, t, p.0))),
      p.2 _ (at_in 0 a.sizes.now l.d t),
      subst (Stands a.s.now (get_or a.sizes.now l.d 0)) e (stand_get a.s.now a.sizes.now a.counts.now a.places.now l.d p.0 t p.4),
      λ x m. below_at a.sizes.now x l.d (p.5 x m) t,
    )

pub loop-d-preserved : goal.loop-d-preserved
loop-d-preserved c =
    let a = c.args in
    let p = c.requires.counts_len in
    let l = c.loop-d in
    let t = c.loop-d-test.true in
    columning-more p.0 p.1 l.invariant t refl
    (subst (λ (q : List ℕ). Dimension a.s.now (get_or a.sizes.now l.d 0) q l.d (codes a.rows.now) l.columns c.fill_dimension.new.columns (length q)) (lent (goal.at.loop-d-preserved c).In-loop-d) c.fill_dimension.ensures)
    (λ i h. places-three a.s.now a.counts.now a.places.now p.1 i (omega (arith, h, t, p.0)))

pub returns : goal.returns
returns c = let p = c.requires.counts_len in let v = c.loop-d.invariant in (columning-done p.0 p.1 v c.loop-d-test.false, v.small)
