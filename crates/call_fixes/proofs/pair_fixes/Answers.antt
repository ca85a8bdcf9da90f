-- `call_fixes::pair_fixes` meets its contract: rows that do not agree on the set are passed over.
use mathlib.Core.Path.{◌≡◌, sym, ap₂, ◌∙◌}
use Rattle.rows.specs.Rows.{row_at}
use Rattle.rows.specs.Slices.{codes}
use Rattle.call_keys.specs.Laid.{follows}
use Rattle.call_fixes.proofs.Follows.{follows-apart, follows_as}
use Rattle.call_fixes.proofs.pair_fixes.Goals as goal
use Rattle.call_fixes.proofs.pair_fixes.Goals.{After-codes_at-other}

-- the rows that are compared
compared : (c : goal.After-codes_at-other) → (let a = c.args in let xs = codes a.rows.now in
    follows a.set a.fixed (row_at xs a.i) (row_at xs a.j) ≡ follows a.set a.fixed c.codes_at-mine.result.now c.codes_at-other.result.now)
compared c = let a = c.args in ap₂ (follows a.set a.fixed) (sym c.codes_at-mine.ensures.0) (sym c.codes_at-other.ensures.0)

pub returns-then-not-agrees : goal.returns-then-not-agrees
returns-then-not-agrees c =
    let a = c.args in
    sym (compared (goal.at.returns-then-not-agrees c).After-codes_at-other ∙ follows-apart a.set a.fixed c.codes_at-mine.result.now c.codes_at-other.result.now (sym c.agrees.ensures ∙ c.if-not-agrees.true))

pub returns : goal.returns
returns c =
    let a = c.args in
    c.agrees-2.ensures
    ∙ sym (compared (goal.at.returns c).After-codes_at-other ∙ follows_as a.set a.fixed c.codes_at-mine.result.now c.codes_at-other.result.now (sym c.agrees.ensures ∙ c.if-not-agrees.false))
