-- `archive_entries::check_cells` meets its contract: the normal count, then so many bytes as the normal entries take.
use borrow.Author.Rules.{rules}
use Rattle.stops.proofs.Handed.{handed}
use Rattle.fields_walk.proofs.Steps.{place-got}
use Rattle.archive_entries.proofs.Cells.{cells-off, cells_on}
use Rattle.archive_entries.proofs.check_cells.Goals as goal

pub word_at-count-requires : goal.word_at-count-requires
word_at-count-requires c =
    let a = c.args in
    let g = c.in_ok-next.ensures.says in
    (place-got a.s.now a.at _ (search rules) g.1 g.2).0

pub returns-in_err-next : goal.returns-in_err-next
returns-in_err-next c =
    let a = c.args in
    rw (handed c.from_residual.result c.from_residual.ensures.1) (record { says = cells-off a.s.now a.dims a.at c.in_err-next.ensures.says })

pub returns : goal.returns
returns c =
    let a = c.args in
    let g = c.in_ok-next.ensures.says in
    cells_on a.s.now a.dims a.at g.1 c.word_at-count.ensures c.check_room-2.ensures
