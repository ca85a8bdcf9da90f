-- `call_add::add_read` meets its contract: what was read of the archive is lent on, with a buffer for its sizes.
use mathlib.Core.Path.{refl, sym}
use mathlib.Core.List.{List, [], ◌∷◌}
use Prim.Native.Nat.{ℕ}
use lib.Seq.{length-take-le}
use Rattle.call_answers.proofs.Answers.{answered_as}
use Rattle.call_ask.proofs.Opened.{opened_rows}
use Rattle.call_join.proofs.Outcomes.{opened_sizes, opened_store}
use Rattle.call_add.proofs.Adding.{answered-adds, adds_opened}
use borrow.Author.Rules.{rules}
use Rattle.call_add.proofs.add_read.Goals as goal

abbrev zeros : List ℕ
zeros = 0 ∷ 0 ∷ 0 ∷ 0 ∷ 0 ∷ 0 ∷ 0 ∷ 0 ∷ []

pub slice_bounds-sizes-end : goal.slice_bounds-sizes-end
slice_bounds-sizes-end c = (opened_rows c.args.archive.now c.rows-rows.ensures).ready.dims

pub slice_bounds-add_sized-end : goal.slice_bounds-add_sized-end
slice_bounds-add_sized-end c = sym (length-take-le c.rows-rows.result.dims zeros (opened_rows c.args.archive.now c.rows-rows.ensures).ready.dims)

pub add_sized-requires : goal.add_sized-requires
add_sized-requires c =
    let o = opened_rows c.args.archive.now c.rows-rows.ensures in
    (opened_sizes o, opened_store o refl, length-take-le c.rows-rows.result.dims zeros o.ready.dims, search rules)

pub returns : goal.returns
returns c =
    let a = c.args in
    answered-adds a.archive.now.bytes.now a.codes.now c.ranges.reading (answered_as (adds_opened (opened_rows c.args.archive.now c.rows-rows.ensures) a.codes.now _) c.add_sized.ensures)
