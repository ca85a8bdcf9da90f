-- `archive_entries::check_list` meets its contract: the list count, then so many bytes as its set numbers take.
use native.Mathlib.Omega.{arith}
use borrow.Author.Rules.{rules}
use Rattle.stops.specs.declared.Stop.TheVariants as Why
use Rattle.stops.proofs.Handed.{handed}
use Rattle.fields_walk.proofs.Steps.{tested_at, tested_off}
use Rattle.fields_walk.proofs.Fields.{field_at}
use Rattle.archive_entries.proofs.Parts.{list-off, list_on}
use Rattle.archive_entries.proofs.check_list.Goals as goal

pub word_at-requires : goal.word_at-requires
word_at-requires c =
    let a = c.args in
    let g = tested_at c.in_ok-next.ensures.ok_part (c.in_ok-check_field.ensures 9) in
    (field_at a.s.now _ _ _ a.at (search rules) g.1 g.2).whole

pub check_room-requires : goal.check_room-requires
check_room-requires c = (tested_at c.in_ok-next.ensures.ok_part (c.in_ok-check_field.ensures 9)).2

pub returns-in_err-check_field : goal.returns-in_err-check_field
returns-in_err-check_field c =
    let a = c.args in
    rw (handed c.from_residual.result c.from_residual.ensures.1) (record { says = list-off a.s.now a.at (c.in_err-check_field.ensures 9).tells })

pub returns-in_err-next : goal.returns-in_err-next
returns-in_err-next c =
    let a = c.args in
    rw (handed c.from_residual-in_err-next.result c.from_residual-in_err-next.ensures.1) (record { says = list-off a.s.now a.at (tested_off c.in_ok-check_field.field-0 Why.List _ c.in_err-next.ensures.value (c.in_ok-check_field.ensures 9)) })

pub returns : goal.returns
returns c =
    let a = c.args in
    let g = tested_at c.in_ok-next.ensures.ok_part (c.in_ok-check_field.ensures 9) in
    let f = field_at a.s.now _ _ _ a.at (search rules) g.1 g.2 in
    list_on a.s.now a.at g.1 (omega (arith, f.value, c.word_at.ensures)) c.check_room.ensures
