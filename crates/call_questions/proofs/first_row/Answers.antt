-- `call_questions::first_row` meets its contract: `find` answers by place, and the row at the place that it found, or no row, falls in the cell.
use mathlib.Core.Path.{◌≡◌, refl}
use mathlib.Core.Bool.{true, false}
use mathlib.Core.List.{List}
use Prim.Native.Nat.{ℕ, ◌<◌}
use native.Mathlib.Omega.{arith}
use borrow.Author.Rules.{rules}
use lib.ListN.{length, get_or}
use Rattle.std.specs.Prelude.{Option, Some, None}
use Rattle.std.proofs.iter.runs.Sources.{ranges}
use Rattle.cube.specs.Codes.{falls}
use Rattle.rows.specs.Rows.{row_at}
use Rattle.rows.specs.Slices.{codes}
use Rattle.rows.proofs.Rows.{cut-length}
use Rattle.call_questions.specs.Questions.{FirstAt, First}
use Rattle.call_questions.proofs.first_row.Goals as goal

-- a list read at a place: `search` then takes what `find` says of that place
read_at : (xs : List ℕ) (k : ℕ) → get_or xs k 0 ≡ get_or xs k 0
read_at xs k = refl

none : (c : goal.After-find) → c.find.result ≡ None → (k : ℕ) → k < c.args.rows.now.n → falls c.args.cell.now (row_at (codes c.args.rows.now) k) ≡ false
none c e k h = search (rules, ranges, read_at c.args.cell.now k)

within : (c : goal.After-find) → (i : ℕ) → c.find.result ≡ Some i → i < c.args.rows.now.n
within c i e = search (rules, ranges)

here : (c : goal.After-find) → (i : ℕ) → c.find.result ≡ Some i → falls c.args.cell.now (row_at (codes c.args.rows.now) i) ≡ true
here c i e = search (rules, ranges)

before : (c : goal.After-find) → (i k : ℕ) → c.find.result ≡ Some i → k < i → falls c.args.cell.now (row_at (codes c.args.rows.now) k) ≡ false
before c i k e h = search (rules, ranges, read_at c.args.cell.now k)

by-result : {c : List ℕ} {xs : List (List ℕ)} (o : Option ℕ) → (o ≡ None → First c xs None) → ((i : ℕ) → o ≡ Some i → FirstAt c xs i) → First c xs o
by-result None f g = f refl
by-result (Some i) f g = g i refl

pub returns : goal.returns
returns c =
    let r = c.args.rows.now in
    let size : length (codes r) ≡ r.n = cut-length r.dims r.n r.words.now in
    by-result c.find.result
    (λ e k h. none c e k (omega (arith, h, size)))
    (λ i e. record { within = omega (arith, within c i e, size); before = λ k h. before c i k e h; here = here c i e })
