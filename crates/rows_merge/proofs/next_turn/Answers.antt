-- `rows_merge::next_turn` meets its contract: a list that is at its end has no turn, and otherwise the next codes are compared.
use Rattle.std.proofs.Common.{Ordering}
use Rattle.std.specs.Ordering.{is_lt, is_eq}
use mathlib.Core.Path.{◌≡◌, sym, ◌∙◌}
use mathlib.Core.Logic.{◌≢◌}
use Prim.Native.Nat.{ℕ, ◌≤◌, ◌<◌}
use native.Mathlib.Omega.{arith}
use lib.ListN.{length, drop}
use Rattle.rows.specs.declared.RowSlice.{RowSlice}
use Rattle.rows.specs.Slices.{codes}
use Rattle.rows.proofs.Rows.{cut-length}
use Rattle.rows_merge.specs.Turns.{turn_by, turn}
use Rattle.rows_merge.proofs.Turns.{turn-none, turn-only, turn-compared}
use Rattle.rows_merge.proofs.next_turn.Goals as goal
use Rattle.rows_merge.proofs.next_turn.Goals.{After-cmp}

-- a list that is not at its end has a row left
left : (r : RowSlice) (i : ℕ) → i ≢ r.n → i ≤ r.n → i < length (codes r)
left r i h k = omega (arith, cut-length r.dims r.n r.words.now, h, k)

-- what the comparison told settles the turn
told : (c : goal.After-cmp) → {o : Ordering} → c.cmp.result ≡ o
    → (let a = c.args in turn (drop a.done.first (codes a.first.now)) (drop a.done.second (codes a.second.now)) ≡ turn_by (is_lt o) (is_eq o))
told c e =
    let a = c.args in
    let r = a.first.now in
    let q = a.second.now in
    turn-compared (codes r) (codes q) a.done.first a.done.second (left r a.done.first c.if-done-first.false c.requires.0) (left q a.done.second c.if-done-second.false c.requires.1)
    c.codes_at-mine.ensures.0 c.codes_at-other.ensures.0 (sym e ∙ c.cmp.ensures)

pub returns-then-done-first : goal.returns-then-done-first
returns-then-done-first c =
    let a = c.args in
    let r = a.first.now in
    sym (turn-none (codes r) (codes a.second.now) a.done.first a.done.second (omega (arith, cut-length r.dims r.n r.words.now, c.if-done-first.true)))

pub returns-then-done-second : goal.returns-then-done-second
returns-then-done-second c =
    let a = c.args in
    let r = a.first.now in
    let q = a.second.now in
    sym (turn-only (codes r) (codes q) a.done.first a.done.second (left r a.done.first c.if-done-first.false c.requires.0) (omega (arith, cut-length q.dims q.n q.words.now, c.if-done-second.true)))

pub returns-in-Less : goal.returns-in-Less
returns-in-Less c = sym (told (goal.at.returns-in-Less c).After-cmp c.in-Less.is)

pub returns-in-Equal : goal.returns-in-Equal
returns-in-Equal c = sym (told (goal.at.returns-in-Equal c).After-cmp c.in-Equal.is)

pub returns-in-Greater : goal.returns-in-Greater
returns-in-Greater c = sym (told (goal.at.returns-in-Greater c).After-cmp c.in-Greater.is)
