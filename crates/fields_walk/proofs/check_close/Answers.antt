-- `fields_walk::check_close` meets its contract: the ends of the check word.
use mathlib.Core.Path.{sym}
use native.Mathlib.Omega.{arith}
use lib.Seq.{length-take-le}
use borrow.Author.Rules.{rules}
use Rattle.stops.proofs.Handed.{handed}
use Rattle.fields_walk.proofs.Steps.{place-got}
use Rattle.fields_walk.proofs.Fields.{close-off, close_follow, close_right, close_wrong}
use Rattle.fields_walk.proofs.check_close.Goals as goal

pub returns-then-next-s : goal.returns-then-next-s
returns-then-next-s c =
    let a = c.args in
    record { says = close_follow a.s.now a.at (omega arith) c.in_ok-next.ensures.says (omega arith) }

pub slice_bounds-check_word-end : goal.slice_bounds-check_word-end
slice_bounds-check_word-end c = let a = c.args in sym (length-take-le a.at a.s.now (omega arith))

pub word_at-requires : goal.word_at-requires
word_at-requires c =
    let a = c.args in
    let g = c.in_ok-next.ensures.says in
    (place-got a.s.now a.at 4 (search rules) g.1 g.2).0

pub returns-in_err-next : goal.returns-in_err-next
returns-in_err-next c =
    let a = c.args in
    rw (handed c.from_residual.result c.from_residual.ensures.1) (record { says = close-off a.s.now a.at (omega arith) c.in_err-next.ensures.says })

pub returns-then-word_at-sum : goal.returns-then-word_at-sum
returns-then-word_at-sum c =
    let a = c.args in
    record { says = close_right a.s.now a.at (omega arith) c.in_ok-next.ensures.says (omega arith) (cc) }

pub returns-else-word_at-sum : goal.returns-else-word_at-sum
returns-else-word_at-sum c =
    let a = c.args in
    record { says = close_wrong a.s.now a.at (omega arith) c.in_ok-next.ensures.says (omega arith) (λ e. c.if-word_at-sum.false (cc)) }
