-- `call_keys::keys_in` meets its contract: the reader's stops, or the smallest keys of an archive that it accepts.
use mathlib.Core.Path.{sym}
use Rattle.call_answers.proofs.Answers.{stopped_on}
use Rattle.call_keys.proofs.Outcomes.{keys-refused}
use Rattle.call_keys.proofs.keys_in.Goals as goal

pub keys_read-requires : goal.keys_read-requires
keys_read-requires c = c.in_ok-shape.ensures.shares

pub returns-in_err-shape : goal.returns-in_err-shape
returns-in_err-shape c = stopped_on c.args.out.now _ c.from_residual.ensures.1 (keys-refused c.args.s.now (sym c.in_err-shape.ensures.value))
