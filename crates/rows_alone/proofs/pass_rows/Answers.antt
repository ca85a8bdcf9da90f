-- `rows_alone::pass_rows` meets its contract: the rows of the sets without one of the first d dimensions are joined.
use mathlib.Core.Path.{◌≡◌, sym, ap, ap₂, ◌∙◌}
use mathlib.Core.List.{List}
use mathlib.Core.Bool.{true, ◌||◌}
use Prim.Native.Nat.{ℕ, ◌-◌, ◌^◌}
use native.Mathlib.Omega.{arith}
use lib.ListN.{length}
use Rattle.lattice.specs.Sets.{holds}
use Rattle.rows_bits.specs.Rowsets.{has}
use Rattle.rows_alone.specs.Alone.{words_of}
use Rattle.rows_alone.proofs.Words.{words-length, cleared_none, passes-start, passes-off, passes_on}
use Rattle.rows_alone.proofs.pass_rows.Goals as goal
use Rattle.rows_alone.proofs.pass_rows.Goals.{After-holds_set, Else-not-holds_set}

-- whether the set has the dimension
tested : (c : goal.After-holds_set) → c.holds_set.result ≡ holds 32 c.args.set (2 ^ c.loop-d.d)
tested c = c.holds_set.ensures ∙ ap (holds 32 c.args.set) c.sets_of-one.ensures

-- it has, so that there is a set without it
had : (c : goal.Else-not-holds_set) → holds 32 c.args.set (2 ^ c.loop-d.d) ≡ true
had c = sym (c.holds_set.ensures ∙ ap (holds 32 c.args.set) c.sets_of-one.ensures) ∙ c.if-not-holds_set.false

pub loop-d-init : goal.loop-d-init
loop-d-init c =
    let a = c.args in
    let r = c.clear.ensures in
    (r.0 ∙ c.requires.2, λ x. cleared_none c.clear.new.next r.1 x ∙ sym (passes-start a.alone.now a.set x))

pub loop-d-preserved-then-not-holds_set : goal.loop-d-preserved-then-not-holds_set
loop-d-preserved-then-not-holds_set c =
    let a = c.args in
    let l = c.loop-d in
    (l.invariant.0, λ x. l.invariant.1 x ∙ sym (passes-off a.alone.now a.set x l.d (sym (tested (goal.at.loop-d-preserved-then-not-holds_set c).After-holds_set) ∙ c.if-not-holds_set.true)))

pub join-requires : goal.join-requires
join-requires c =
    let a = c.args in
    let p = c.requires in
    (c.loop-d.invariant.0, ap length c.words_of.ensures ∙ words-length a.alone.now (a.set - c.sets_of-one.result) (omega (arith, p.1)) p.0)

pub loop-d-preserved : goal.loop-d-preserved
loop-d-preserved c =
    let a = c.args in
    let l = c.loop-d in
    let r = c.join.ensures in
    let less = c.words_of.ensures ∙ ap (λ (u : ℕ). words_of a.alone.now (a.set - u)) c.sets_of-one.ensures in
    (r.0, λ x. r.1 x ∙ ap₂ ◌||◌ (l.invariant.1 x) (ap (λ (w : List ℕ). has w x) less) ∙ sym (passes_on a.alone.now a.set x l.d (had (goal.at.loop-d-preserved c).Else-not-holds_set)))
