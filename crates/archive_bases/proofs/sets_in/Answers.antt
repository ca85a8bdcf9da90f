-- `archive_bases::sets_in` meets its contract. The invariant: with the sets of the entries from a row on, those counted so far are all.
use mathlib.Core.Path.{◌≡◌, ap, ◌∙◌}
use mathlib.Core.List.{[], ◌∷◌, ◌++◌}
use Prim.Native.Nat.{◌+◌, ◌*◌, ◌≤◌, ◌<◌}
use native.Mathlib.Omega.{arith}
use lib.ListN.{length, get_or, length-append, length-drop}
use lib.Dec.{ltb}
use borrow.Author.Tests.{ltb-true, ltb-false}
use Rattle.lists.proofs.Tests.{cases, truth}
use Rattle.archive_bases.proofs.Chunks.{chunk-behind, chunk-first}
use Rattle.archive_bases.proofs.Bases.{sets-next, sets-none}
use Rattle.archive_bases.proofs.sets_in.Goals as goal
use Rattle.archive_bases.proofs.sets_in.Goals.{After-from-all, In-None}

-- the list in hand is that of a row
below : (c : After-from-all) → length c.loop-list.yielded < c.args.rows.now.n
below c = omega (arith, c.loop-list.invariant.1, c.in-Some.ensures.steps.1)

count : (c : After-from-all) → c.from-all.result ≡ get_or c.args.lists.now (length c.loop-list.yielded * 71) 0
count c =
    let l = c.loop-list in
    let step = c.in-Some.ensures.steps.0 in
    c.from-all.ensures ∙ chunk-first 71 (length l.yielded) c.args.lists.now _ _ (l.invariant.2 ∙ step.1.0) (step.1.1 ∙ l.invariant.0) (omega arith)

-- no list is left
none : (c : In-None) → c.args.rows.now.n ≤ length c.loop-list.yielded
none c =
    let l = c.loop-list in
    let left = l.list-iterator.n in
    cases (truth (ltb 0 left))
    (λ t. let short = c.in-None.ensures.steps (ltb-true 0 left t) in
    absurd (omega (arith, short.1.0, l.invariant.0, l.invariant.1, ap length l.invariant.2, length-drop (length l.yielded * 71) c.args.lists.now, c.requires.room, ltb-true 0 left t)))
    (λ t. omega (arith, ltb-false 0 left t, l.invariant.1))

pub loop-list-preserved : goal.loop-list-preserved
loop-list-preserved c =
    let l = c.loop-list in
    let step = c.in-Some.ensures.steps in
    let i = length l.yielded in
    let next : length (l.yielded ++ c.in-Some.list ∷ []) ≡ i + 1 = length-append l.yielded (c.in-Some.list ∷ []) in
    rw next (
      step.0.0 ∙ l.invariant.0,
      omega (arith, l.invariant.1, step.1),
      chunk-behind 71 i c.args.lists.now _ _ (l.invariant.2 ∙ step.0.1.0) (step.0.1.1 ∙ l.invariant.0),
      omega (arith, l.invariant.3, c.requires.short i (below c), count c),
      omega (arith, l.invariant.4, sets-next c.requires i (below c), count c),
    )

pub returns-clause-value : goal.returns-clause-value
returns-clause-value c = omega (arith, c.loop-list.invariant.4, sets-none c.requires _ (none c))
