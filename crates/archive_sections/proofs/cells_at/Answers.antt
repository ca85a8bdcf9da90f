-- `archive_sections::cells_at` meets its contract: the header is read again, and D stands in its second field.
use mathlib.Core.Path.{ap, sym, ◌∙◌}
use Prim.Native.Nat.{ℕ}
use native.Mathlib.Omega.{arith}
use lib.ListN.{drop}
use borrow.Author.Rules.{rules}
use Rattle.stops.proofs.Handed.{handed}
use Rattle.fields_walk.proofs.Steps.{walked_as}
use Rattle.fields_walk.proofs.Places.{header_read}
use Rattle.archive_entries.specs.Layout.{CUBE}
use Rattle.archive_entries.specs.Reading.{cells}
use Rattle.archive_sections.proofs.Ends.{cells-off, cells_on, cells_past}
use Rattle.archive_sections.proofs.cells_at.Goals as goal

pub returns-in_err-check_header : goal.returns-in_err-check_header
returns-in_err-check_header c =
    let a = c.args in
    rw (handed c.from_residual.result c.from_residual.ensures.1) (record { says = cells-off a.s.now a.at c.in_err-check_header.ensures.says })

pub returns-then-s-at : goal.returns-then-s-at
returns-then-s-at c = let a = c.args in record { says = cells_past a.s.now a.at c.in_ok-check_header.ensures.says.1 c.if-s-at.true }

pub word_at-requires : goal.word_at-requires
word_at-requires c = omega (arith, (header_read c.args.s.now CUBE c.in_ok-check_header.ensures.says.1).whole)

pub check_cells-requires : goal.check_cells-requires
check_cells-requires c =
    let h = header_read c.args.s.now CUBE c.in_ok-check_header.ensures.says.1 in
    (omega (arith, c.word_at.ensures, h.few), search rules)

pub returns : goal.returns
returns c =
    let a = c.args in
    let e = c.in_ok-check_header.ensures.says.1 in
    let d = (header_read a.s.now CUBE e).dims ∙ sym c.word_at.ensures in
    walked_as (cells_on a.s.now a.at e ∙ ap (λ (n : ℕ). cells n (drop a.at a.s.now)) d) c.check_cells.ensures
