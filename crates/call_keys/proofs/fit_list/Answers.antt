-- `call_keys::fit_list` meets its contract: the length is known before a byte is written.
use mathlib.Core.Path.{refl}
use native.Mathlib.Omega.{arith}
use Rattle.archive_cells.specs.ListBytes.{list_length}
use Rattle.call_answers.proofs.Answers.{done}
use Rattle.call_answers.proofs.Fitted.{has_room, unfitted}
use Rattle.call_keys.proofs.fit_list.Goals as goal

pub returns-in_err-fitting : goal.returns-in_err-fitting
returns-in_err-fitting c = unfitted refl (list_length c.args.list.now) c.from_residual.ensures.1 c.in_err-fitting.ensures

pub returns : goal.returns
returns c = let a = c.args in done refl (omega (arith, has_room c.in_ok-fitting.ensures, list_length a.list.now)) c.put_list.ensures
