-- `call_keys::is_bare` meets its contract: it is the full set, or the number of rows that share a cell tells.
use mathlib.Core.Path.{sym, ap, ◌∙◌}
use mathlib.Core.Bool.{Bool, ◌||◌}
use Prim.Native.Nat.{◌-◌}
use native.Mathlib.Omega.{arith}
use lib.Dec.{eqb}
use lib.ListN.{get_or}
use borrow.Author.Tests.{eq-eqb, ne_eqb}
use Rattle.lattice.specs.Sets.{full}
use Rattle.call_keys.specs.Bare.{bare}
use Rattle.call_keys.proofs.is_bare.Goals as goal

pub returns-then-set-sets_of : goal.returns-then-set-sets_of
unfolding bare
returns-then-set-sets_of c =
    let a = c.args in
    sym (ap (λ (b : Bool). b || eqb (get_or a.used.now a.set 0) 0) (eq-eqb a.set (full a.dims) (omega (arith, c.if-set-sets_of.true, c.sets_of.ensures))))

pub returns : goal.returns
unfolding bare
returns c =
    let a = c.args in
    sym (ap (λ (b : Bool). b || eqb (get_or a.used.now a.set 0) 0) (ne_eqb a.set (full a.dims) (λ e. c.if-set-sets_of.false (e ∙ ap (λ n. n - 1) (sym c.sets_of.ensures)))))
