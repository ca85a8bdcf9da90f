-- `cube_archive::cube_window` meets its contract: the call's answer as a number, and what it stores.
use mathlib.Core.Path.{sym, ap, ◌∙◌}
use mir.Syntax.{w64}
use mir.Facts.{to_z-of_z}
use Rattle.std.specs.Prelude.{Option, Ok}
use Rattle.cube.specs.declared.Total.{Total}
use Rattle.call_window.specs.Numbers.{seen_number, seen_sum_left, seen_count_left}
use borrow.Author.Rules.{rules}
use Rattle.cube_archive.proofs.cube_window.Goals as goal

pub returns-in-Ok-Some : goal.returns-in-Ok-Some
returns-in-Ok-Some c =
    let a = c.args in
    let e = ap (λ (o : Option Total). Ok o) (sym c.in-Ok-Some.field-0-is) ∙ c.in-Ok-Some.ensures in
    let z = to_z-of_z {w = w64} {z = c.in-Ok-Some.total.sum} (search rules) in
    record { value = ap seen_number e; sum_after = (rw z (ap (λ f. seen_sum_left f a.sum.now) e), ap (λ f. seen_count_left f a.count.now) e) }

pub returns-in-Ok-None : goal.returns-in-Ok-None
returns-in-Ok-None c =
    let a = c.args in
    let e = ap (λ (o : Option Total). Ok o) (sym c.in-Ok-None.field-0-is) ∙ c.in-Ok-None.ensures in
    record { value = ap seen_number e; sum_after = (ap (λ f. seen_sum_left f a.sum.now) e, ap (λ f. seen_count_left f a.count.now) e) }

pub returns-in-Err : goal.returns-in-Err
returns-in-Err c =
    let a = c.args in
    let e = c.in-Err.ensures in
    record { value = c.refused.ensures ∙ ap seen_number e; sum_after = (ap (λ f. seen_sum_left f a.sum.now) e, ap (λ f. seen_count_left f a.count.now) e) }
