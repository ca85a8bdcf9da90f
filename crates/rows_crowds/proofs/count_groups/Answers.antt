-- `rows_crowds::count_groups` meets its contract: the sum over the entries is the groups that end.
use mathlib.Core.Path.{◌≡◌, ◌∙◌}
use borrow.Author.Rules.{rules}
use Rattle.std.specs.List.{sum_by}
use Rattle.rows_slots.specs.Slots.{end_in}
use Rattle.rows_crowds.proofs.Filling.{ends_sum}
use Rattle.rows_crowds.proofs.count_groups.Goals as goal

pub returns : goal.returns
returns c =
    let sum : c.sum.result ≡ sum_by end_in c.args.slot.now = search rules in
    sum ∙ ends_sum c.args.slot.now
