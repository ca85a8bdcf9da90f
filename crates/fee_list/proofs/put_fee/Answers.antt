-- `fee_list::put_fee` meets its contract: the shares go over the front of an array.
use mathlib.Core.Path.{sym}
use lib.Seq.{length-take-le}
use Rattle.fee_list.proofs.put_fee.Goals as goal

pub slice_bounds-put_shares-end : goal.slice_bounds-put_shares-end
slice_bounds-put_shares-end c = sym (length-take-le _ _ c.args.fee.now.few)

pub put_shares-requires : goal.put_shares-requires
put_shares-requires c = record { shares_len = length-take-le _ _ c.args.fee.now.few; room = c.requires }
