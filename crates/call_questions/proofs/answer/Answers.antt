-- `call_questions::answer` meets its contract. No row falls in the cell, or the first that does is single on the cell's set and answers, or two or more do:
-- the cell is then a normal cell, and the search finds the entry at it.
use mathlib.Core.Path.{◌≡◌, sym, ap, ap₂, subst, ◌∙◌}
use Prim.Native.Nat.{ℕ, ◌+◌, ◌*◌}
use native.Mathlib.Omega.{arith}
use lib.IntN.{ℤ}
use mir.Syntax.{w64}
use mir.Facts.{to_z-of_z}
use Rattle.std.specs.Prelude.{Some}
use Rattle.cube.specs.declared.Total.{Total}
use Rattle.cube.specs.Codes.{set-of, plain}
use Rattle.cube.specs.Condensed.{single}
use Rattle.rows.specs.Rows.{row_at}
use Rattle.rows.specs.Slices.{codes}
use Rattle.call_questions.specs.Questions.{looked, rowless, First}
use Rattle.call_questions.proofs.Asked.{Entry, asked, asked-room, asked-below, asked-none, asked-row, asked-normal}
use borrow.Author.Rules.{rules, sfits_of}
use Rattle.call_questions.proofs.answer.Goals as goal
use Rattle.call_questions.proofs.answer.Goals.{After-find_cell-k, After-is_single}

-- whether the row is single
alone : (c : goal.After-is_single)
    → (let a = c.args in
    let xs = codes a.rows.now in
    c.is_single.result ≡ single (plain a.rows.now.dims) xs (set-of a.cell.now) (row_at xs c.in-Some.i))
alone c = rw c.set_of.ensures at c.is_single.ensures

-- where it is not, the normal entry that was found answers
entry : (c : goal.After-find_cell-k)
    → (let a = c.args in
    let k = c.find_cell-k.result in
    Entry a.s.now (a.at + k * (4 * a.rows.now.dims + 12)) a.rows.now.dims (a.rows.now.n + k) (asked c.requires.ready.0 a.cell.now))
entry c =
    let a = c.args in
    asked-normal c.requires.ready.0 a.cell.now c.in-Some.ensures c.requires.normals_at c.requires.ready.1 c.find_cell-k.ensures
    (sym (rw c.set_of.ensures at c.is_single.ensures) ∙ c.if-is_single.false)

pub returns-in_default : goal.returns-in_default
returns-in_default c =
    let a = c.args in
    c.without_rows.ensures ∙ ap (λ (d : ℕ). looked (rowless d a.rows.now.n a.cell.now)) c.requires.ready.1
    ∙ asked-none c.requires.ready.0 a.cell.now (subst (First a.cell.now (codes a.rows.now)) c.in_default.is c.first_row.ensures)

pub is_single-requires : goal.is_single-requires
is_single-requires c =
    let ready = c.requires.ready.0 in
    (asked-below ready c.args.cell.now c.in-Some.ensures, ready.distinct)

pub total_at-total-requires : goal.total_at-total-requires
total_at-total-requires c = asked-below c.requires.ready.0 c.args.cell.now c.in-Some.ensures

pub overflow_cast-result : goal.overflow_cast-result
overflow_cast-result c = omega (arith, asked-below c.requires.ready.0 c.args.cell.now c.in-Some.ensures, c.requires.ready.0.few)

pub returns-then-is_single : goal.returns-then-is_single
returns-then-is_single c =
    let i = c.in-Some.i in
    let t = c.total_at-total in
    ap (λ (z : ℤ). Some (record { sum = z; count = t.result.count; entry = i })) (to_z-of_z {w = w64} (search rules))
    ∙ ap (λ (u : Total). Some (record { sum = u.sum; count = u.count; entry = i })) t.ensures
    ∙ asked-row c.requires.ready.0 c.args.cell.now c.in-Some.ensures (sym (alone (goal.at.returns-then-is_single c).After-is_single) ∙ c.if-is_single.true)

pub find_cell-k-requires : goal.find_cell-k-requires
find_cell-k-requires c =
    (omega (arith, c.requires.ready.1, c.requires.ready.0.dims), rw c.requires.ready.1 (asked-room c.requires.ready.0 c.args.cell.now c.requires.normals_at))

pub overflow_mul-place-2 : goal.overflow_mul-place-2
overflow_mul-place-2 c = omega (arith, (entry (goal.at.overflow_mul-place-2 c).After-find_cell-k).within)

pub overflow_add-place-2 : goal.overflow_add-place-2
overflow_add-place-2 c = omega (arith, (entry (goal.at.overflow_add-place-2 c).After-find_cell-k).within)

pub overflow_add-place-3 : goal.overflow_add-place-3
overflow_add-place-3 c = omega (arith, (entry (goal.at.overflow_add-place-3 c).After-find_cell-k).within)

pub sum_at-sum-requires : goal.sum_at-sum-requires
sum_at-sum-requires c = omega (arith, (entry (goal.at.sum_at-sum-requires c).After-find_cell-k).within)

pub overflow_add-place-4 : goal.overflow_add-place-4
overflow_add-place-4 c = omega (arith, (entry (goal.at.overflow_add-place-4 c).After-find_cell-k).within)

pub word_at-count-requires : goal.word_at-count-requires
word_at-count-requires c = omega (arith, (entry (goal.at.word_at-count-requires c).After-find_cell-k).within)

pub overflow_add-entry : goal.overflow_add-entry
overflow_add-entry c = omega (arith, (entry (goal.at.overflow_add-entry c).After-find_cell-k).fits)

pub overflow_cast-entry : goal.overflow_cast-entry
overflow_cast-entry c = omega (arith, (entry (goal.at.overflow_cast-entry c).After-find_cell-k).fits)

pub returns : goal.returns
returns c =
    let k = c.find_cell-k.result in
    ap₂ (λ (z : ℤ) (m : ℕ). Some (record { sum = z; count = m; entry = c.args.rows.now.n + k })) (to_z-of_z {w = w64} (sfits_of c.sum_at-sum.type_inv) ∙ c.sum_at-sum.ensures) c.word_at-count.ensures
    ∙ (entry (goal.at.returns c).After-find_cell-k).answers
