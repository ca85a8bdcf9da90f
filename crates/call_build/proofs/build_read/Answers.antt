-- `call_build::build_read` meets its contract: the front of the array has the base rows of the table that was read, and its sizes stand in its bytes.
use mathlib.Core.Path.{sym, ◌∙◌}
use mathlib.Core.List.{List, [], ◌∷◌}
use Prim.Native.Nat.{ℕ}
use native.Mathlib.Omega.{arith}
use lib.ListN.{length-take}
use lib.Seq.{length-take-le}
use Rattle.fields_walk.proofs.Limits.{bytes_of}
use Rattle.rows.proofs.Fronts.{fronted}
use Rattle.call_answers.proofs.Answers.{answered_as}
use Rattle.call_build.proofs.Building.{Tabled, tabled}
use Rattle.call_build.proofs.build_read.Goals as goal
use Rattle.call_build.proofs.build_read.Goals.{After-front-rows}

abbrev zeros : List ℕ
zeros = 0 ∷ 0 ∷ 0 ∷ 0 ∷ 0 ∷ 0 ∷ 0 ∷ 0 ∷ []

-- the slice that is lent has the base rows
lent : (c : goal.After-front-rows) → (let r = c.front-rows.result in Tabled c.args.s.now r.dims r.n r.words.now)
lent c =
    let a = c.args in
    let p = c.requires in
    fronted a.rows.now (Tabled a.s.now) c.front-rows.ensures (tabled (bytes_of a.s.now (λ i. omega (arith, c.type_inv.s i))) p.s_value a.rows.now p.in_bounds.0 p.in_bounds.1)

pub front-rows-requires : goal.front-rows-requires
front-rows-requires c =
    let a = c.args in
    let p = c.requires in
    let t = tabled (bytes_of a.s.now (λ i. omega (arith, c.type_inv.s i))) p.s_value a.rows.now p.in_bounds.0 p.in_bounds.1 in
    (t.ready.dims, omega (arith, t.small, p.in_bounds.0))

pub slice_bounds-sizes-end : goal.slice_bounds-sizes-end
slice_bounds-sizes-end c = omega (arith, (lent (goal.at.slice_bounds-sizes-end c).After-front-rows).ready.dims, c.front-rows.ensures.2)

pub slice_bounds-write_sized-end : goal.slice_bounds-write_sized-end
slice_bounds-write_sized-end c = rw length-take (omega (arith, (lent (goal.at.slice_bounds-write_sized-end c).After-front-rows).ready.dims, c.front-rows.ensures.2))

pub write_sized-requires : goal.write_sized-requires
write_sized-requires c =
    let t = lent (goal.at.write_sized-requires c).After-front-rows in
    let e = c.front-rows.ensures.2 in
    record { sizes_in_bounds = (t.headed, t.ready, length-take-le c.args.folded.dims zeros (omega (arith, t.ready.dims, e)) ∙ sym e, omega arith); limits = t.limits }

pub returns : goal.returns
returns c = answered_as (lent (goal.at.returns c).After-front-rows).built c.write_sized.ensures
