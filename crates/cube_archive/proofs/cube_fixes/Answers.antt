-- `cube_archive::cube_fixes` meets its contract: the call's answer as a number.
use mathlib.Core.Path.{◌≡◌, refl, ap, ◌∙◌}
use mathlib.Core.Bool.{Bool, true, false}
use mir.Val.{bool_byte}
use Rattle.std.specs.Prelude.{Ok}
use Rattle.call_answers.specs.Numbers.{fixed_number}
use Rattle.cube_archive.proofs.cube_fixes.Goals as goal

fixed_byte : (b : Bool) → bool_byte b ≡ fixed_number (Ok b)
fixed_byte true = refl
fixed_byte false = refl

pub returns-in-Ok : goal.returns-in-Ok
returns-in-Ok c = c.from.ensures ∙ fixed_byte c.in-Ok.fixed ∙ ap fixed_number c.in-Ok.ensures

pub returns-in-Err : goal.returns-in-Err
returns-in-Err c = c.refused.ensures ∙ ap fixed_number c.in-Err.ensures
