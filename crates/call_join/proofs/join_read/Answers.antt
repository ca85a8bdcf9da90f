-- `call_join::join_read` meets its contract: dimensions and sizes are compared, and then the base rows are joined.
use mathlib.Core.Path.{refl, sym, ◌∙◌}
use mathlib.Core.List.{List, [], ◌∷◌, ◌++◌}
use Prim.Native.Nat.{ℕ}
use native.Mathlib.Omega.{arith}
use lib.ListN.{take, drop}
use lib.Seq.{length-take-le}
use Rattle.archive_entries.proofs.Front.{front_is, front_length, front-room}
use Rattle.call_answers.proofs.Answers.{stopped, answered_as}
use Rattle.call_ask.proofs.Opened.{opened_of, opened_rows}
use Rattle.call_join.proofs.Outcomes.{Joined, opened_sizes, told_in, joins-dims, joins-sizes, joins-filed}
use Rattle.call_join.proofs.join_read.Goals as goal
use Rattle.call_join.proofs.join_read.Goals.{After-rows-rows2}

abbrev zeros : List ℕ
zeros = 0 ∷ 0 ∷ 0 ∷ 0 ∷ 0 ∷ 0 ∷ 0 ∷ 0 ∷ []

-- both archives' base rows as slices
joined : (c : goal.After-rows-rows2) → (let a = c.args in let r = c.rows-rows1.result in let q = c.rows-rows2.result in
    Joined a.first.now.bytes.now a.second.now.bytes.now (take a.first.now.shape.dims (c.same_sizes.new.sizes ++ drop a.first.now.shape.dims zeros)) r.dims r.n r.words.now q.dims q.n q.words.now)
joined c =
    let a = c.args in
    let few = (opened_of c.args.first.now).ready.dims in
    joins-filed (opened_rows c.args.first.now c.rows-rows1.ensures) (opened_rows c.args.second.now c.rows-rows2.ensures)
    c.rows-rows1.ensures.2 (c.rows-rows2.ensures.2 ∙ sym c.if-first-second.false)
    (sym c.if-same_sizes.true ∙ told_in a.first.now.bytes.now a.second.now.bytes.now zeros few c.same_sizes.ensures.1) (front_is a.first.now.bytes.now zeros a.first.now.shape.dims 8 few c.same_sizes.ensures.0)

pub returns-then-first-second : goal.returns-then-first-second
returns-then-first-second c = stopped c.args.out.now (joins-dims (opened_of c.args.first.now) (opened_of c.args.second.now) c.if-first-second.true)

pub slice_bounds-sizes-end : goal.slice_bounds-sizes-end
slice_bounds-sizes-end c = (opened_of c.args.first.now).ready.dims

pub slice_bounds-same_sizes-end : goal.slice_bounds-same_sizes-end
slice_bounds-same_sizes-end c = sym (length-take-le c.args.first.now.shape.dims zeros (opened_of c.args.first.now).ready.dims)

pub slice_bounds-others-end : goal.slice_bounds-others-end
slice_bounds-others-end c = (opened_of c.args.first.now).ready.dims

pub slice_bounds-same_sizes-end-2 : goal.slice_bounds-same_sizes-end-2
slice_bounds-same_sizes-end-2 c = sym (length-take-le c.args.first.now.shape.dims zeros (opened_of c.args.first.now).ready.dims)

pub same_sizes-requires-clause-sizes_in_bounds : goal.same_sizes-requires-clause-sizes_in_bounds
same_sizes-requires-clause-sizes_in_bounds c =
    let o = opened_of c.args.first.now in
    rw (length-take-le c.args.first.now.shape.dims zeros o.ready.dims) (opened_sizes o, omega (arith, opened_sizes (opened_of c.args.second.now), c.if-first-second.false))

pub slice_bounds-sizes-end-then-same_sizes : goal.slice_bounds-sizes-end-then-same_sizes
slice_bounds-sizes-end-then-same_sizes c = front-room c.args.first.now.bytes.now zeros c.args.first.now.shape.dims 8 (opened_of c.args.first.now).ready.dims c.same_sizes.ensures.0

pub slice_bounds-join_rows-end : goal.slice_bounds-join_rows-end
slice_bounds-join_rows-end c = front_length c.args.first.now.bytes.now zeros c.args.first.now.shape.dims 8 (opened_of c.args.first.now).ready.dims c.same_sizes.ensures.0

pub join_rows-requires : goal.join_rows-requires
join_rows-requires c =
    let a = c.args in
    let t = joined (goal.at.join_rows-requires c).After-rows-rows2 in
    let long = front_length a.first.now.bytes.now zeros a.first.now.shape.dims 8 (opened_of c.args.first.now).ready.dims c.same_sizes.ensures.0 in
    record { stores = (t.0, t.1); dims = (c.rows-rows1.ensures.2 ∙ long, c.rows-rows2.ensures.2 ∙ sym c.if-first-second.false ∙ long, c.requires) }

pub returns-then-same_sizes : goal.returns-then-same_sizes
returns-then-same_sizes c = answered_as (joined (goal.at.returns-then-same_sizes c).After-rows-rows2).2 c.join_rows.ensures

pub returns-else-same_sizes : goal.returns-else-same_sizes
returns-else-same_sizes c =
    let a = c.args in
    let o = opened_of c.args.first.now in
    stopped a.out.now (joins-sizes o (opened_of c.args.second.now) refl (sym c.if-first-second.false) (sym c.if-same_sizes.false ∙ told_in a.first.now.bytes.now a.second.now.bytes.now zeros o.ready.dims c.same_sizes.ensures.1))
