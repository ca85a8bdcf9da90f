-- `call_fixes::neighbours_fix` meets its contract: `all` asks every row of the index, but the first, whether it follows the row in front of it.
use mathlib.Core.Path.{refl, ◌∙◌}
use Prim.Native.Nat.{◌-◌}
use native.Mathlib.Omega.{arith}
use borrow.Author.Rules.{rules}
use Rattle.std.proofs.lemmas.Iterator.{YieldsList-from_range, serves_from_Range}
use Rattle.std.proofs.lemmas.Iterator.Search.{all_from_yields_List}
use Rattle.rows.specs.Slices.{codes}
use Rattle.rows_order.specs.Index.{Indexed}
use Rattle.rows_runs.proofs.Indexed.{indexed_below}
use Rattle.call_fixes.proofs.Neighbours.{fixed_none, fixed_rest, next}
use Rattle.call_fixes.proofs.neighbours_fix.Goals as goal

pub all-requires-clause-callable : goal.all-requires-clause-callable
all-requires-clause-callable c =
    let x = c.order_rows.ensures in
    serves_from_Range (λ k q e. search rules) (λ k low high. search (rules, x.places, indexed_below x (k - 1) (omega arith), indexed_below x k high))

pub returns : goal.returns
returns c =
    let a = c.args in
    let r = a.rows.now in
    let x : Indexed r.n r.dims a.set r.words.now c.order_rows.new.index = c.order_rows.ensures in
    all_from_yields_List (next x a.fixed) c.all.new.self _ c.all.result c.all.ensures.ran (YieldsList-from_range 1 r.n (r.n - 1) refl refl) (λ k b q e. (search rules, search rules))
    ∙ fixed_rest x a.fixed (r.n - 1) 1 (fixed_none (codes r) _ a.set a.fixed) (omega arith) refl
