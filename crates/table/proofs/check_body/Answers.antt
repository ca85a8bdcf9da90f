-- `table::check_body` meets its contract: the row count, then as many rows, then the check word.
use mathlib.Core.Path.{◌≡◌, sym, ap, ◌∙◌}
use Prim.Native.Nat.{ℕ}
use borrow.Author.Rules.{rules}
use lib.ListN.{drop}
use Rattle.stops.specs.declared.Stop.TheVariants as Why
use Rattle.stops.proofs.Handed.{handed}
use Rattle.fields_walk.proofs.Steps.{tested_at, tested_off, walked_as, walked-map, then_on, then_off}
use Rattle.fields_walk.proofs.Fields.{field_at}
use Rattle.table.specs.Reading.{body}
use Rattle.table.proofs.Accepted.{rowed, counted}
use Rattle.table.proofs.check_body.Goals as goal
use Rattle.table.proofs.check_body.Goals.{After-check_rows}

-- as many rows are read as the field says
many-rows : (c : goal.After-check_rows)
    → (let a = c.args in
    let s = a.s.now in
    let g = tested_at c.in_ok-next.ensures.ok_part (c.in_ok-check_field.ensures 5) in
    body s a.sizes.now (drop a.at s) ≡ counted s a.sizes.now c.word_at.result (drop c.in_ok-next.next s))
unfolding body
many-rows c =
    let a = c.args in
    let s = a.s.now in
    let g = tested_at c.in_ok-next.ensures.ok_part (c.in_ok-check_field.ensures 5) in
    let f = field_at s 0 1025 5 a.at (search rules) g.1 g.2 in
    then_on (counted s a.sizes.now) g.1 ∙ ap (λ (n : ℕ). counted s a.sizes.now n (drop c.in_ok-next.next s)) (f.value ∙ sym c.word_at.ensures)

pub word_at-requires : goal.word_at-requires
word_at-requires c =
    let g = tested_at c.in_ok-next.ensures.ok_part (c.in_ok-check_field.ensures 5) in
    let a = c.args in
    (field_at a.s.now 0 1025 5 a.at (search rules) g.1 g.2).whole

pub check_rows-requires : goal.check_rows-requires
check_rows-requires c = (tested_at c.in_ok-next.ensures.ok_part (c.in_ok-check_field.ensures 5)).2

pub check_close-requires : goal.check_close-requires
check_close-requires c = c.in_ok-end.ensures.says.2

pub returns-in_err-check_field : goal.returns-in_err-check_field
unfolding body
returns-in_err-check_field c =
    let a = c.args in
    rw (handed c.from_residual.result c.from_residual.ensures.1) (record { says = then_off (counted a.s.now a.sizes.now) (c.in_err-check_field.ensures 5).tells })

pub returns-in_err-next : goal.returns-in_err-next
unfolding body
returns-in_err-next c =
    let a = c.args in
    rw (handed c.from_residual-in_err-next.result c.from_residual-in_err-next.ensures.1) (record { says = then_off (counted a.s.now a.sizes.now) (tested_off c.in_ok-check_field.field-0 Why.Rows _ c.in_err-next.ensures.value (c.in_ok-check_field.ensures 5)) })

pub returns-in_err-end : goal.returns-in_err-end
returns-in_err-end c =
    let a = c.args in
    rw (handed c.from_residual-in_err-end.result c.from_residual-in_err-end.ensures.1) (record { says = many-rows (goal.at.returns-in_err-end c).After-check_rows ∙ then_off (rowed a.s.now a.sizes.now) c.in_err-end.ensures.says })

pub returns : goal.returns
returns c =
    let a = c.args in
    let g = c.in_ok-end.ensures.says in
    walked_as (many-rows (goal.at.returns c).After-check_rows ∙ then_on (rowed a.s.now a.sizes.now) g.1) (walked-map (λ u. record { sizes = a.sizes.now; rows = g.0 }) c.check_close.ensures)
