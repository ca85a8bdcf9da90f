-- `fee_list::put_shares` meets its contract: the shares, counted.
use mathlib.Core.Path.{ap}
use native.Mathlib.Omega.{arith}
use lib.ListN.{length}
use Rattle.fee_shares.proofs.Proportions.{shares-length}
use Rattle.fee_list.proofs.Listed.{fee_is, fee_length}
use Rattle.fee_list.proofs.put_shares.Goals as goal

pub put_list-requires : goal.put_list-requires
put_list-requires c =
    let f = c.args.fee.now in
    let e = c.share_fee.ensures in
    (omega (arith, ap length e, shares-length f.cents f.counts.now, f.few), omega (arith, ap length e, shares-length f.cents f.counts.now, fee_length f.cents f.counts.now, c.requires.room))

pub returns : goal.returns
returns c =
    let f = c.args.fee.now in
    rw (fee_is f.cents f.counts.now c.share_fee.ensures) c.put_list.ensures
