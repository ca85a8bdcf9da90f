-- `rows_compare::is_single` meets its contract. The row loop: no row so far agrees, and the row is single among the rows from i on just where it is among all.
-- The dimension loop: what is left of two rows agrees on the rest of the set just where they agree on the set; `continue 'rows` steps i, so i is among its variables.
use mathlib.Core.Path.{sym, ap, ◌∙◌}
use mathlib.Core.List.{[]}
use mathlib.Core.Path.{◌≡◌}
use native.Mathlib.Omega.{arith}
use Prim.Native.Nat.{◌<◌, ◌%◌}
use Rattle.rows_compare.proofs.Compared.{alike_in}
use borrow.Author.Rules.{rules}
use borrow.Author.Tests.{ne_eqb}
use lib.ListN.{length}
use Rattle.cube.specs.Codes.{plain}
use Rattle.rows.specs.Rows.{row_at}
use Rattle.rows.specs.Slices.{codes}
use Rattle.rows.proofs.Rows.{cut-length}
use Rattle.rows_compare.proofs.Agree.{alike-out, agree_skip, agree-stop, agree-done}
use Rattle.lists.proofs.Places.{distinct-at}
use Rattle.rows_compare.proofs.Singles.{single-own, single_skip, single-stop, single-done}
use Rattle.rows_compare.proofs.is_single.Goals as goal
use Rattle.rows_compare.proofs.is_single.Goals.{In-rows}

-- the place in hand is that of a row
within : (c : goal.In-rows)
    → (let a = c.args in
    c.rows.i < length (codes a.rows.now))
within c = rw cut-length (search rules)

pub rows-preserved-then-i-row : goal.rows-preserved-then-i-row
rows-preserved-then-i-row c =
    let a = c.args in
    let xs = codes a.rows.now in
    let l = c.rows in (
      l.invariant.0,
      search rules,
      single-own (plain a.rows.now.dims) a.set c.codes_at-mine.result.now xs l.i (within (goal.at.rows-preserved-then-i-row c).In-rows)
          (c.codes_at-mine.ensures.0 ∙ ap (row_at xs) (sym c.if-i-row.true))
          ∙ l.invariant.2,
    )

pub rows-preserved : goal.rows-preserved
rows-preserved c =
    let a = c.args in
    let mine = c.codes_at-mine.result.now in
    let one : c.loop-d.rest % 2 ≡ 1 = omega arith in
    let stop = agree-stop c.loop-d.rest mine c.codes_at-other.result.now c.loop-d.d (search rules) (search rules)
    (rw one (ne_eqb _ _ c.if-mine-d.true)) in (
      c.rows.invariant.0,
      search rules,
      rw c.loop-d.invariant.0
          (single_skip (plain a.rows.now.dims) a.set mine (codes a.rows.now) c.rows.i (within (goal.at.rows-preserved c).In-rows)
          c.codes_at-other.ensures.0 (sym c.loop-d.invariant.2 ∙ stop) ∙ c.rows.invariant.2),
    )

pub loop-d-preserved : goal.loop-d-preserved
loop-d-preserved c =
    let l = c.loop-d in (
      search rules,
      search rules,
      agree_skip l.rest _ _ l.d (search rules) (search rules)
          (grind (arith, alike_in, alike-out)) ∙ l.invariant.2,
    )

pub returns-after-rows : goal.returns-after-rows
returns-after-rows c =
    let a = c.args in
    c.rows.invariant.0
    ∙ sym (sym c.rows.invariant.2
    ∙ single-done (plain a.rows.now.dims) a.set c.codes_at-mine.result.now (codes a.rows.now) c.rows.i (rw cut-length (search rules)))

pub returns-after-loop-d : goal.returns-after-loop-d
returns-after-loop-d c =
    let a = c.args in
    let mine = c.codes_at-mine.result.now in
    let xs = codes a.rows.now in
    let done = agree-done c.loop-d.rest mine c.codes_at-other.result.now c.loop-d.d (search rules) (search rules) in
    sym (sym c.rows.invariant.2
    ∙ single-stop (plain a.rows.now.dims) a.set mine xs c.rows.i (within (goal.at.returns-after-loop-d c).In-rows)
    c.codes_at-other.ensures.0 (sym c.loop-d.invariant.2 ∙ done)
    (λ e. distinct-at [] xs c.rows.i a.row c.requires.1 (within (goal.at.returns-after-loop-d c).In-rows) (rw cut-length (search rules)) c.if-i-row.false
    (sym c.codes_at-other.ensures.0 ∙ sym e ∙ c.codes_at-mine.ensures.0)))
