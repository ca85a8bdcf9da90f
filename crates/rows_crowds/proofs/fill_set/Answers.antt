-- `rows_crowds::fill_set` meets its contract: the empty set is the first, one of one dimension has its column, and each other one comes from a shorter one.
use mathlib.Core.Path.{sym, ◌∙◌}
use Rattle.lists.proofs.Members.{keep_all}
use Rattle.rows_bits.specs.Rowsets.{stays}
use Rattle.rows_crowds.proofs.fill_set.Goals as goal

pub returns-then-set-eq0-clause-lone_after : goal.returns-then-set-eq0-clause-lone_after
returns-then-set-eq0-clause-lone_after c =
    let e = c.if-set-eq0.true in
    let r = c.fill_first.ensures.lone_after in
    let all = c.requires.dims_bound.3.first e in
    rw e (r.0 ∙ sym (keep_all (stays c.args.passed.now) _ (λ x m. all x)), r.1)
