-- `fee_shares::total_of` meets its contract: the total of a list is the library's.
use Rattle.std.proofs.Common.{rules, refl}
use Rattle.std.proofs.lemmas.List.Recursion.{is_sum_by}
use Rattle.lists.specs.Lists.{sum}
use Rattle.fee_shares.proofs.total_of.Goals as goal

pub returns : goal.returns
returns c = rw (is_sum_by sum (λ x. x) refl (λ _ _. refl) c.args.list.now) (search rules)
