-- `archive_groups::shown_is` meets its contract. The invariant: whether all words stand there is whether those before dimension d do, and those from it on.
use mathlib.Core.Path.{sym, ap, ◌∙◌}
use mathlib.Core.Bool.{Bool, ◌&&◌, and_assoc, and-true}
use Prim.Native.Nat.{◌+◌}
use native.Mathlib.Omega.{arith}
use lib.ListN.{drop}
use Rattle.fields.specs.Opening.{starts_with}
use Rattle.archive_groups.proofs.Shown.{shown_from, shown-all, shown-compared, shown-none}
use Rattle.archive_groups.proofs.shown_is.Goals as goal

pub loop-d-init : goal.loop-d-init
loop-d-init c =
    let a = c.args in
    (omega arith, ap (starts_with (drop a.start a.s.now)) (sym (shown-all a.missing.now a.mine.now)))

pub loop-d-preserved : goal.loop-d-preserved
loop-d-preserved c =
    let a = c.args in
    let l = c.loop-d in
    let rest = starts_with (drop (l.at + 4) a.s.now) (shown_from a.missing.now a.mine.now (l.d + 1)) in (
      omega (arith, l.invariant.0),
      l.invariant.1
          ∙ ap (λ (b : Bool). l.same && b) (shown-compared a.missing.now a.mine.now l.d c.loop-d-test.true a.s.now l.at)
          ∙ ap (λ (b : Bool). l.same && (b && rest)) (sym c.word_is-same.ensures)
          ∙ sym (and_assoc l.same c.word_is-same.result rest),
    )

pub returns : goal.returns
returns c =
    let a = c.args in
    let l = c.loop-d in
    sym (rw (shown-none a.missing.now a.mine.now c.loop-d-test.false, and-true) at l.invariant.1)
