-- `archive_entries::check_bases` meets its contract: the base count, then so many entries.
use mathlib.Core.Path.{ap, sym, ◌∙◌}
use Prim.Native.Nat.{ℕ}
use mathlib.Core.List.{[]}
use borrow.Author.Rules.{rules}
use lib.ListN.{drop}
use Rattle.stops.specs.declared.Stop.TheVariants as Why
use Rattle.stops.proofs.Handed.{handed}
use Rattle.fields_walk.proofs.Steps.{tested_at, tested_off, walked_as}
use Rattle.fields_walk.proofs.Fields.{field_at}
use Rattle.archive_entries.specs.Reading.{entries}
use Rattle.archive_entries.proofs.Entries.{bases-off, bases_on}
use Rattle.archive_entries.proofs.check_bases.Goals as goal

pub word_at-requires : goal.word_at-requires
word_at-requires c =
    let a = c.args in
    let g = tested_at c.in_ok-next.ensures.ok_part (c.in_ok-check_field.ensures 5) in
    (field_at a.s.now _ _ _ a.at (search rules) g.1 g.2).whole

pub check_entries-requires : goal.check_entries-requires
check_entries-requires c = (search rules, search rules, (tested_at c.in_ok-next.ensures.ok_part (c.in_ok-check_field.ensures 5)).2)

pub returns-in_err-check_field : goal.returns-in_err-check_field
returns-in_err-check_field c =
    let a = c.args in
    rw (handed c.from_residual.result c.from_residual.ensures.1) (record { says = bases-off a.sizes.now (drop a.at a.s.now) (c.in_err-check_field.ensures 5).tells })

pub returns-in_err-next : goal.returns-in_err-next
returns-in_err-next c =
    let a = c.args in
    rw (handed c.from_residual-in_err-next.result c.from_residual-in_err-next.ensures.1) (record { says = bases-off a.sizes.now (drop a.at a.s.now) (tested_off c.in_ok-check_field.field-0 Why.Rows _ c.in_err-next.ensures.value (c.in_ok-check_field.ensures 5)) })

pub returns : goal.returns
returns c =
    let a = c.args in
    let g = tested_at c.in_ok-next.ensures.ok_part (c.in_ok-check_field.ensures 5) in
    let f = field_at a.s.now _ _ _ a.at (search rules) g.1 g.2 in
    let e = ap (λ (n : ℕ). entries a.sizes.now n [] 0 (drop c.in_ok-next.next a.s.now)) (f.value ∙ sym c.word_at.ensures) in
    walked_as (bases_on a.sizes.now (drop a.at a.s.now) g.1 ∙ e) c.check_entries.ensures
