-- `cube_archive::number` meets its contract: a case each.
use mathlib.Core.Path.{sym, ap, ◌∙◌}
use Prim.Native.Nat.{ℕ}
use Rattle.std.specs.Prelude.{Result}
use Rattle.stops.specs.declared.Stop.{Stop}
use Rattle.stops.specs.Numbers.{numbered}
use Rattle.call_answers.specs.Numbers.{written_number}
use Rattle.cube_archive.proofs.number.Goals as goal

pub returns-in-Err : goal.returns-in-Err
returns-in-Err c = c.refused.ensures ∙ sym (ap (λ (r : Result ℕ Stop). written_number (numbered r)) c.in-Err.is)
