-- `cube_archive::cube_check` meets its contract: the call's answer as a number.
use mathlib.Core.Path.{ap, ap₂, ◌∙◌}
use Prim.Native.Nat.{ℕ, ◌+◌, ◌*◌}
use Rattle.call_answers.specs.Numbers.{checked_number}
use Rattle.cube_archive.proofs.cube_check.Goals as goal

pub returns-in-Ok : goal.returns-in-Ok
returns-in-Ok c = ap₂ (λ (m n : ℕ). m + 4294967296 * n) c.from.ensures c.from-in-Ok.ensures ∙ ap checked_number c.in-Ok.ensures

pub returns-in-Err : goal.returns-in-Err
returns-in-Err c = c.refused.ensures ∙ ap checked_number c.in-Err.ensures
