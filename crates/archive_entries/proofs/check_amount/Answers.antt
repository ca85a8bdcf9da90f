-- `archive_entries::check_amount` meets its contract: the bytes of the sum and of the count, then the three tests of number 8.
use mathlib.Core.Path.{◌≡◌, sym, ◌∙◌}
use native.Mathlib.Omega.{arith}
use borrow.Author.Rules.{rules, sfits_of}
use lib.ListN.{drop}
use mir.Syntax.{w64}
use mir.Facts.{to_z-of_z}
use Rattle.fields.specs.Words.{word_at}
use Rattle.fields_sums.specs.Twos.{sum_at}
use Rattle.cube.specs.Bounds.{can_make}
use Rattle.std.specs.Prelude.{Ok}
use Rattle.fields_walk.specs.Fields.{room}
use Rattle.fields_walk.specs.Walked.{Says}
use Rattle.stops.proofs.Handed.{handed}
use Rattle.fields_walk.proofs.Steps.{place-got}
use Rattle.archive_entries.proofs.Parts.{amount-off, amount-ended, amount-none, amount_much, amount_unmade, amount_on}
use Rattle.archive_entries.proofs.check_amount.Goals as goal

pub check_room-requires-2 : goal.check_room-requires-2
check_room-requires-2 c = c.in_ok-p.ensures.says.2

pub word_at-count-requires : goal.word_at-count-requires
word_at-count-requires c =
    let s = c.args.s.now in
    let f : Says s (room 8 (drop c.args.at s)) (Ok c.in_ok-p.p) = c.in_ok-p.ensures.says in
    let g : Says s (room 4 (drop c.in_ok-p.p s)) (Ok c.in_ok-next.next) = c.in_ok-next.ensures.says in
    (place-got s c.in_ok-p.p _ f.2 g.1 g.2).0

pub returns-then-count-eq0 : goal.returns-then-count-eq0
returns-then-count-eq0 c =
    let s = c.args.s.now in
    let f : Says s (room 8 (drop c.args.at s)) (Ok c.in_ok-p.p) = c.in_ok-p.ensures.says in
    let g : Says s (room 4 (drop c.in_ok-p.p s)) (Ok c.in_ok-next.next) = c.in_ok-next.ensures.says in
    record { says = amount-none s c.args.total c.args.at f g (sym c.word_at-count.ensures ∙ c.if-count-eq0.true) }

pub returns-then-total-count : goal.returns-then-total-count
returns-then-total-count c =
    let s = c.args.s.now in
    let f : Says s (room 8 (drop c.args.at s)) (Ok c.in_ok-p.p) = c.in_ok-p.ensures.says in
    let g : Says s (room 4 (drop c.in_ok-p.p s)) (Ok c.in_ok-next.next) = c.in_ok-next.ensures.says in
    record { says = amount_much s c.args.total c.args.at f g (omega arith) }

pub sum_at-requires : goal.sum_at-requires
sum_at-requires c =
    let s = c.args.s.now in
    let f : Says s (room 8 (drop c.args.at s)) (Ok c.in_ok-p.p) = c.in_ok-p.ensures.says in
    (place-got s c.args.at _ (search rules) f.1 f.2).0

pub returns-in_err-p : goal.returns-in_err-p
returns-in_err-p c =
    let a = c.args in
    rw (handed c.from_residual.result c.from_residual.ensures.1) (record { says = amount-off a.s.now a.total a.at c.in_err-p.ensures.says })

pub returns-in_err-next : goal.returns-in_err-next
returns-in_err-next c =
    let s = c.args.s.now in
    let f : Says s (room 8 (drop c.args.at s)) (Ok c.in_ok-p.p) = c.in_ok-p.ensures.says in
    rw (handed c.from_residual-in_err-next.result c.from_residual-in_err-next.ensures.1) (record { says = amount-ended s c.args.total c.args.at f c.in_err-next.ensures.says })

pub returns-then-can_make : goal.returns-then-can_make
returns-then-can_make c =
    let s = c.args.s.now in
    let f : Says s (room 8 (drop c.args.at s)) (Ok c.in_ok-p.p) = c.in_ok-p.ensures.says in
    let g : Says s (room 4 (drop c.in_ok-p.p s)) (Ok c.in_ok-next.next) = c.in_ok-next.ensures.says in
    let made : c.can_make.result ≡ can_make (word_at s c.in_ok-p.p) (sum_at s c.args.at) =
    rw (to_z-of_z {w = w64} (sfits_of c.sum_at.type_inv), c.word_at-count.ensures, c.sum_at.ensures) at c.can_make.ensures in
    record { says = amount_on s c.args.total c.args.at f g (omega arith) (omega arith) (sym made ∙ c.if-can_make.true) }

pub returns-else-can_make : goal.returns-else-can_make
returns-else-can_make c =
    let s = c.args.s.now in
    let f : Says s (room 8 (drop c.args.at s)) (Ok c.in_ok-p.p) = c.in_ok-p.ensures.says in
    let g : Says s (room 4 (drop c.in_ok-p.p s)) (Ok c.in_ok-next.next) = c.in_ok-next.ensures.says in
    let made : c.can_make.result ≡ can_make (word_at s c.in_ok-p.p) (sum_at s c.args.at) =
    rw (to_z-of_z {w = w64} (sfits_of c.sum_at.type_inv), c.word_at-count.ensures, c.sum_at.ensures) at c.can_make.ensures in
    record { says = amount_unmade s c.args.total c.args.at f g (sym made ∙ c.if-can_make.false) }
