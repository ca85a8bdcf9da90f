-- `archive_editions::check_extremes` meets its contract: the bytes of three words, then the test of number 19.
use mathlib.Core.Path.{sym, ◌∙◌}
use borrow.Author.Rules.{rules}
use lib.ListN.{drop}
use Rattle.std.specs.Prelude.{Ok}
use Rattle.stops.proofs.Handed.{handed}
use Rattle.fields_walk.specs.Fields.{room}
use Rattle.fields_walk.specs.Walked.{Says}
use Rattle.fields_walk.proofs.Steps.{place-got}
use Rattle.archive_editions.proofs.Told.{extremes-off, extremes_on, extremes_not}
use Rattle.archive_editions.proofs.check_extremes.Goals as goal

pub returns-in_err-next : goal.returns-in_err-next
returns-in_err-next c =
    let a = c.args in
    rw (handed c.from_residual.result c.from_residual.ensures.1) (record { tells = extremes-off a.s.now a.sums a.at _ c.in_err-next.ensures.says })

pub are_sound-requires-clause-in_bounds : goal.are_sound-requires-clause-in_bounds
are_sound-requires-clause-in_bounds c =
    let s = c.args.s.now in
    let f : Says s (room 12 (drop c.args.at s)) (Ok c.in_ok-next.next) = c.in_ok-next.ensures.says in
    (place-got s c.args.at 12 (search rules) f.1 f.2).0

pub returns-then-are_sound : goal.returns-then-are_sound
returns-then-are_sound c =
    let s = c.args.s.now in
    let f : Says s (room 12 (drop c.args.at s)) (Ok c.in_ok-next.next) = c.in_ok-next.ensures.says in
    record { tells = extremes_on s c.args.sums c.args.at (search rules) f (sym c.are_sound.ensures ∙ c.if-are_sound.true) }

pub returns-else-are_sound : goal.returns-else-are_sound
returns-else-are_sound c =
    let s = c.args.s.now in
    let f : Says s (room 12 (drop c.args.at s)) (Ok c.in_ok-next.next) = c.in_ok-next.ensures.says in
    record { tells = extremes_not s c.args.sums c.args.at (search rules) f (sym c.are_sound.ensures ∙ c.if-are_sound.false) }
