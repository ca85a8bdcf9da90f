-- `rows_lists::note_at` meets its contract: the set is written behind the row's list, and the other lists stand elsewhere.
use Rattle.rows_lists.proofs.Lists.{lists_put}
use Rattle.rows_lists.proofs.note_at.Goals as goal

pub returns-clause-lists_after : goal.returns-clause-lists_after
returns-clause-lists_after c =
    let a = c.args in
    let p = c.requires in
    rw c.from.ensures (lists_put a.n a.row a.set a.lists.now p.0 p.1 p.2 p.3)
