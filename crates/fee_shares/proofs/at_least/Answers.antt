-- `fee_shares::at_least` meets its contract: its count is the library's.
use Rattle.std.proofs.Common.{rules, leb}
use Rattle.fee_shares.proofs.Counts.{count-is}
use Rattle.fee_shares.proofs.at_least.Goals as goal

pub returns : goal.returns
returns c = rw (count-is (leb c.args.v) c.args.rests.now) (search rules)
