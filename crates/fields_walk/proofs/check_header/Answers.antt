-- `fields_walk::check_header` meets its contract: the opening, then D and the sizes.
use mathlib.Core.Path.{◌≡◌, sym, ap, ◌∙◌}
use mathlib.Core.Bool.{true}
use mathlib.Core.List.{List}
use Prim.Native.Nat.{ℕ, ◌≤◌}
use native.Mathlib.Omega.{arith}
use lib.ListN.{length, drop, length-append}
use Rattle.fields.specs.Opening.{starts_with}
use Rattle.fields.specs.OpeningLaws.{starts_is}
use Rattle.fields_walk.specs.Fields.{sizes}
use Rattle.stops.proofs.Handed.{handed}
use Rattle.stops.specs.declared.Stop.TheVariants as Why
use Rattle.fields_walk.proofs.Steps.{tested_at, tested_off, walked_as, then_on, then_off}
use Rattle.fields_walk.proofs.Fields.{field_at, header-off, header_on}
use Rattle.fields_walk.proofs.check_header.Goals as goal
use Rattle.fields_walk.proofs.check_header.Goals.{Else-not-opening_is}

-- what begins with four bytes has them
long : (s o : List ℕ) → starts_with s o ≡ true → length o ≡ 4 → 4 ≤ length s
long s o e h = omega (arith, ap length (starts_is s o e), length-append o (drop (length o) s))

opens : (c : goal.Else-not-opening_is) → starts_with c.args.s.now c.args.opening.now ≡ true
opens c = sym c.opening_is.ensures.value ∙ c.if-not-opening_is.false

inside : (c : goal.Else-not-opening_is) → 4 ≤ length c.args.s.now
inside c = long c.args.s.now c.args.opening.now (opens c) c.opening_is.ensures.opening_len

pub returns-then-not-opening_is : goal.returns-then-not-opening_is
returns-then-not-opening_is c = record { says = header-off _ _ (sym c.opening_is.ensures.value ∙ c.if-not-opening_is.true) }

pub check_field-requires : goal.check_field-requires
check_field-requires c = inside c

pub word_at-requires : goal.word_at-requires
word_at-requires c =
    let g = tested_at c.in_ok-next.ensures.ok_part (c.in_ok-check_field.ensures 3) in
    (field_at c.args.s.now 1 9 3 4 (inside (goal.at.word_at-requires c).Else-not-opening_is) g.1 g.2).whole

pub check_sizes-requires : goal.check_sizes-requires
check_sizes-requires c = (tested_at c.in_ok-next.ensures.ok_part (c.in_ok-check_field.ensures 3)).2

pub returns-in_err-check_field : goal.returns-in_err-check_field
returns-in_err-check_field c =
    rw (handed c.from_residual.result c.from_residual.ensures.1) (record { says = header_on _ _ (opens (goal.at.returns-in_err-check_field c).Else-not-opening_is) ∙ then_off sizes (c.in_err-check_field.ensures 3).tells })

pub returns-in_err-next : goal.returns-in_err-next
returns-in_err-next c =
    rw (handed c.from_residual-in_err-next.result c.from_residual-in_err-next.ensures.1) (record { says = header_on _ _ (opens (goal.at.returns-in_err-next c).Else-not-opening_is) ∙ then_off sizes (tested_off c.in_ok-check_field.field-0 Why.Dimensions _ c.in_err-next.ensures.value (c.in_ok-check_field.ensures 3)) })

pub returns : goal.returns
returns c =
    let g = tested_at c.in_ok-next.ensures.ok_part (c.in_ok-check_field.ensures 3) in
    let f = field_at c.args.s.now 1 9 3 4 (inside (goal.at.returns c).Else-not-opening_is) g.1 g.2 in
    walked_as (header_on _ _ (opens (goal.at.returns c).Else-not-opening_is) ∙ then_on sizes g.1 ∙ ap (λ (n : ℕ). sizes n (drop c.in_ok-next.next c.args.s.now)) (f.value ∙ sym c.word_at.ensures)) c.check_sizes.ensures
