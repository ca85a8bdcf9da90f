-- `fee_shares::share_by` meets its contract: the fee is divided, a threshold found for the cents left, and these are given out by it.
use mathlib.Core.Path.{◌∙◌}
use Rattle.fee_shares.proofs.Sharing.{Divided, divided_le, divided_few, divided_low, divided_given}
use borrow.Author.Rules.{rules}
use Rattle.fee_shares.proofs.share_by.Goals as goal
use Rattle.fee_shares.proofs.share_by.Goals.{After-total_of}

divided : (c : goal.After-total_of)
    → Divided c.args.fee.now.cents c.args.fee.now.counts.now c.total_of-total.result c.divide.new.shares c.divide.new.rests c.total_of.result
divided c = record {
  some = c.args.fee.now.some;
  all = c.total_of-total.ensures;
  whole = c.divide.ensures.shares_after.0;
  over = c.divide.ensures.shares_after.1;
  cents = c.total_of.ensures;
}

pub overflow_sub-left : goal.overflow_sub-left
overflow_sub-left c = divided_le (divided c)

pub threshold-v-requires : goal.threshold-v-requires
threshold-v-requires c = let d = divided (goal.at.threshold-v-requires c).After-total_of in (search rules, divided_few d, divided_low d)

pub returns : goal.returns
returns c = c.give.ensures ∙ divided_given (divided (goal.at.returns c).After-total_of) c.threshold-v.ensures.0 c.at_least-above.ensures
