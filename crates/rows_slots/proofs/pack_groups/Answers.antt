-- `rows_slots::pack_groups` meets its contract: where groups of one row are kept, no row is left out.
use mathlib.Core.Path.{◌≡◌, sym}
use mathlib.Core.Bool.{true, false}
use native.Mathlib.Omega.{arith}
use lib.Dec.{eqb}
use borrow.Author.Tests.{ne_eqb}
use Rattle.rows_slots.specs.Slots.{code_in}
use Rattle.rows_slots.proofs.Steps.{lone-all}
use Rattle.rows_slots.proofs.pack_groups.Goals as goal

pub returns-clause-lone_after : goal.returns-clause-lone_after
returns-clause-lone_after c =
    let a = c.args in
    let other : eqb a.least 2 ≡ false = ne_eqb a.least 2 (λ e. omega (arith, e)) in
    sym (lone-all (code_in a.column.now) a.least other true a.order.now)
