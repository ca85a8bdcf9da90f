-- `cube_archive::cube_look_up` meets its contract: the call's answer as a number, and what it stores.
use mathlib.Core.Path.{sym, ap, ◌∙◌}
use mir.Syntax.{w64}
use mir.Facts.{to_z-of_z}
use Rattle.std.specs.Prelude.{Option, Ok}
use Rattle.call_questions.specs.declared.Cell.{Cell}
use Rattle.call_answers.specs.Numbers.{found_number, sum_left, count_left, entry_left}
use borrow.Author.Rules.{rules}
use Rattle.cube_archive.proofs.cube_look_up.Goals as goal

pub returns-in-Ok-Some : goal.returns-in-Ok-Some
returns-in-Ok-Some c =
    let a = c.args in
    let e = ap (λ (o : Option Cell). Ok o) (sym c.in-Ok-Some.field-0-is) ∙ c.in-Ok-Some.ensures in
    let z = to_z-of_z {w = w64} {z = c.in-Ok-Some.cell.sum} (search rules) in
    record { value = ap found_number e; sum_after = rw z (ap (λ f. sum_left f a.sum.now) e); count_after = (ap (λ f. count_left f a.count.now) e, ap (λ f. entry_left f a.entry.now) e) }

pub returns-in-Ok-None : goal.returns-in-Ok-None
returns-in-Ok-None c =
    let a = c.args in
    let e = ap (λ (o : Option Cell). Ok o) (sym c.in-Ok-None.field-0-is) ∙ c.in-Ok-None.ensures in
    record { value = ap found_number e; sum_after = ap (λ f. sum_left f a.sum.now) e; count_after = (ap (λ f. count_left f a.count.now) e, ap (λ f. entry_left f a.entry.now) e) }

pub returns-in-Err : goal.returns-in-Err
returns-in-Err c =
    let a = c.args in
    let e = c.in-Err.ensures in
    record { value = c.refused.ensures ∙ ap found_number e; sum_after = ap (λ f. sum_left f a.sum.now) e; count_after = (ap (λ f. count_left f a.count.now) e, ap (λ f. entry_left f a.entry.now) e) }
