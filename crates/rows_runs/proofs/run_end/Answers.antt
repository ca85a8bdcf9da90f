-- `rows_runs::run_end` meets its contract: the first row comes before the row that `find` answers, and before none of those passed.
use mathlib.Core.Path.{◌≡◌}
use mathlib.Core.Bool.{Bool, true, false}
use mathlib.Core.List.{List}
use Prim.Native.Nat.{ℕ, ◌+◌, ◌≤◌, ◌<◌}
use native.Mathlib.Omega.{arith}
use borrow.Author.Rules.{rules}
use lib.ListN.{length, get_or}
use Rattle.std.specs.Prelude.{Option, Some, None}
use Rattle.std.specs.Option.{MatchOption, unwrap_or}
use Rattle.std.proofs.lemmas.Iterator.{first_from_Range, serves_from_Range}
use Rattle.lists.specs.Order.{earlier}
use Rattle.rows.specs.Slices.{codes}
use Rattle.rows_order.specs.Index.{key}
use Rattle.rows_order.specs.Few.{Ordered}
use Rattle.rows_runs.specs.Runs.{Ends}
use Rattle.rows_runs.proofs.Runs.{ends_at}
use Rattle.rows_runs.proofs.Indexed.{indexed_ordered, indexed_below}
use Rattle.rows_runs.proofs.run_end.Goals as goal

pub find-requires-clause-callable : goal.find-requires-clause-callable
find-requires-clause-callable c =
    let x = c.requires.0 in
    let head = indexed_below x c.args.from c.requires.1 in
    serves_from_Range (λ k q e. search rules) (λ k low high. search (rules, head, x.places, indexed_below x k high))

-- whether the first row comes before the row at a place
abbrev before : (ℕ → List ℕ) → List ℕ → ℕ → ℕ → Bool
before keys l from k = earlier (keys (get_or l from 0)) (keys (get_or l k 0))

ends : (keys : ℕ → List ℕ) (l : List ℕ) (from n : ℕ) → Ordered keys l → from < n → length l ≡ n → (o : Option ℕ)
    → MatchOption o ((k : ℕ) → from + 1 ≤ k → k < n → before keys l from k ≡ false)
    (λ i. (from + 1 ≤ i) × (i < n) × (before keys l from i ≡ true) × ((k : ℕ) → from + 1 ≤ k → k < i → before keys l from k ≡ false))
    → Ends keys l from (unwrap_or o n)
ends keys l from n s h e None f = ends_at keys l from n s h (omega (arith, e)) (λ j a b. f j (omega (arith, a)) b) (λ g. absurd (omega (arith, g, e)))
ends keys l from n s h e (Some i) f = ends_at keys l from i s (omega (arith, f.0)) (omega (arith, f.1, e)) (λ j a b. f.3 j (omega (arith, a)) b) (λ g. f.2)

pub returns : goal.returns
returns c =
    let a = c.args in
    let x = c.requires.0 in
    let keys = key a.set (codes a.rows.now) in
    let l = a.index.now in
    let found =
    first_from_Range _ _ _ c.find.result (λ k. before keys l a.from k ≡ true) (λ k. before keys l a.from k ≡ false) c.find.ensures.ran
    (λ k q e. search rules) (λ k q e. (search rules, search rules)) in
    rw c.unwrap_or.ensures (ends keys l a.from a.rows.now.n (indexed_ordered x) c.requires.1 x.places c.find.result found)
