-- `call_fee::fit_fee` meets its contract: the length is known before a byte is written.
use mathlib.Core.Path.{refl}
use native.Mathlib.Omega.{arith}
use Rattle.call_answers.proofs.Answers.{done}
use Rattle.call_answers.proofs.Fitted.{has_room, unfitted}
use Rattle.fee_list.proofs.Listed.{fee_length}
use Rattle.call_fee.proofs.fit_fee.Goals as goal

pub returns-in_err-fitting : goal.returns-in_err-fitting
returns-in_err-fitting c = let f = c.args.fee.now in unfitted refl (fee_length f.cents f.counts.now) c.from_residual.ensures.1 c.in_err-fitting.ensures

pub put_fee-requires : goal.put_fee-requires
put_fee-requires c = let f = c.args.fee.now in omega (arith, has_room c.in_ok-fitting.ensures, fee_length f.cents f.counts.now)

pub returns : goal.returns
returns c = let f = c.args.fee.now in done refl (omega (arith, has_room c.in_ok-fitting.ensures, fee_length f.cents f.counts.now)) c.put_fee.ensures
