-- `fields_walk::check_field` meets its contract: the ends of a field whose value is tested.
use native.Mathlib.Omega.{arith}
use borrow.Author.Rules.{rules}
use Rattle.stops.proofs.Handed.{handed}
use Rattle.fields_walk.proofs.Steps.{place-got}
use Rattle.fields_walk.proofs.Fields.{word-at-place, field_off, field-low, field-high, field_in}
use Rattle.fields_walk.proofs.check_field.Goals as goal

pub word_at-w-requires : goal.word_at-w-requires
word_at-w-requires c = let g = c.in_ok-next.ensures.says in (place-got c.args.s.now c.args.at 4 (search rules) g.1 g.2).0

pub returns-then-w-low : goal.returns-then-w-low
returns-then-w-low c =
    let g = c.in_ok-next.ensures.says in
    let a = c.args in
    λ n. record { tells = field-low _ _ _ _ g.1 (rw (word-at-place a.s.now a.at) (rw c.word_at-w.ensures at c.if-w-low.true)) }

pub returns-in_err-next : goal.returns-in_err-next
returns-in_err-next c = rw (handed c.from_residual.result c.from_residual.ensures.1) (λ n. record { tells = field_off _ _ _ _ c.in_err-next.ensures.says })

pub returns-then-w-limit : goal.returns-then-w-limit
returns-then-w-limit c =
    let g = c.in_ok-next.ensures.says in
    let a = c.args in
    let e = word-at-place a.s.now a.at in
    λ n. record { tells = (_, field_in _ _ _ _ g.1 (omega (arith, e)) (omega (arith, e)), g.2) }

pub returns-else-w-limit : goal.returns-else-w-limit
returns-else-w-limit c =
    let g = c.in_ok-next.ensures.says in
    let a = c.args in
    λ n. record { tells = field-high _ _ _ _ g.1 (omega (arith, word-at-place a.s.now a.at)) }
