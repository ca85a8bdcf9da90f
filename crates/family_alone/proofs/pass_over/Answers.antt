-- `family_alone::pass_over` meets its contract: the rows of the nodes one level coarser are joined, dimension by dimension.
use mathlib.Core.Path.{sym, ap, ◌∙◌}
use mathlib.Core.Bool.{Bool, ◌||◌, or-false}
use mathlib.Core.List.{List}
use Prim.Native.Nat.{ℕ, ◌+◌, ◌*◌, ◌/◌, ◌<◌}
use native.Mathlib.Omega.{arith}
use lib.ListN.{length, get_or, drop}
use Rattle.rows_bits.specs.Rowsets.{has}
use Rattle.rows_alone.proofs.Words.{cleared_none}
use Rattle.family_alone.specs.Alone.{raised}
use Rattle.family_alone.proofs.Places.{place-start, room, place-on}
use Rattle.family_alone.proofs.Raised.{raised_all, raised-off, raised-on, raised-done}
use Rattle.family_alone.proofs.Blocks.{block_length}
use Rattle.family_alone.proofs.pass_over.Goals as goal
use Rattle.family_alone.proofs.pass_over.Goals.{Else-h-level}

pub loop-h-init : goal.loop-h-init
loop-h-init c =
    let a = c.args in
    let p = c.requires in
    let r = c.clear.ensures in
    (place-start a.heights.now a.node p.2, r.0 ∙ p.3, λ x. ap (λ (b : Bool). b || raised a.alone.now a.node 1 a.heights.now a.node x) (cleared_none c.clear.new.next r.1 x) ∙ raised_all a.alone.now a.node x a.heights.now)

pub loop-h-preserved-then-h-level : goal.loop-h-preserved-then-h-level
loop-h-preserved-then-h-level c =
    let a = c.args in
    let l = c.loop-h in
    let hs = a.heights.now in
    let t = c.loop-h-test.true in
    (place-on hs a.node l.h-index l.factor l.rest c.requires.1 l.invariant.0 t, l.invariant.1, λ x. ap (λ (b : Bool). has l.passed x || b) (sym (raised-off a.alone.now a.node x l.factor hs l.h-index l.rest t (omega (arith, c.if-h-level.true)))) ∙ l.invariant.2 x)

-- the coarser node is there
there : (c : Else-h-level) → c.args.node + c.loop-h.factor < 4096
there c =
    let a = c.args in
    let l = c.loop-h in
    omega (arith, room a.heights.now a.node l.h-index l.factor l.rest c.requires.1 l.invariant.0 c.loop-h-test.true (omega (arith, c.if-h-level.false)), c.requires.1.few)

pub words_at-requires : goal.words_at-requires
words_at-requires c = (c.requires.0, omega (arith, there (goal.at.words_at-requires c).Else-h-level))

pub join-requires : goal.join-requires
join-requires c =
    let a = c.args in
    let l = c.loop-h in
    (l.invariant.1, ap length c.words_at.ensures ∙ block_length a.alone.now _ (omega (arith, there (goal.at.join-requires c).Else-h-level, c.requires.0)))

pub loop-h-preserved : goal.loop-h-preserved
loop-h-preserved c =
    let a = c.args in
    let l = c.loop-h in
    let hs = a.heights.now in
    let t = c.loop-h-test.true in
    let r = c.join.ensures in (
      place-on hs a.node l.h-index l.factor l.rest c.requires.1 l.invariant.0 t,
      r.0,
      λ x. ap (λ (b : Bool). b || raised a.alone.now a.node (l.factor * get_or hs l.h-index 0) (drop (l.h-index + 1) hs) (l.rest / get_or hs l.h-index 0) x)
          (r.1 x ∙ ap (λ (w : List ℕ). has l.passed x || has w x) c.words_at.ensures)
          ∙ sym (raised-on a.alone.now a.node x l.factor hs l.h-index l.rest t (omega (arith, c.if-h-level.false)) (has l.passed x)) ∙ l.invariant.2 x,
    )

pub returns : goal.returns
returns c =
    let a = c.args in
    let l = c.loop-h in
    (l.invariant.1, λ x. sym (ap (λ (b : Bool). has l.passed x || b) (raised-done a.alone.now a.node x l.factor a.heights.now l.h-index l.rest c.loop-h-test.false) ∙ or-false (has l.passed x)) ∙ l.invariant.2 x)
