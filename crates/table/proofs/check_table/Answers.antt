-- `table::check_table` meets its contract: the header, whose sizes are read, and then the body.
use mathlib.Core.Path.{◌≡◌, sym, ap, ◌∙◌}
use mathlib.Core.List.{List, [], ◌∷◌}
use Prim.Native.Nat.{ℕ, ◌≤◌}
use native.Mathlib.Omega.{arith}
use lib.ListN.{length, take, drop, length-take}
use lib.Seq.{length-take-le}
use Rattle.fields.specs.Words.{words_at}
use Rattle.stops.proofs.Handed.{handed}
use Rattle.fields_walk.proofs.Steps.{walked_as, then_on, then_off}
use Rattle.fields_walk.proofs.Places.{Header, header_read}
use Rattle.table.specs.Layout.{FACT}
use Rattle.table.specs.Reading.{body, read_table}
use Rattle.table.proofs.check_table.Goals as goal
use Rattle.table.proofs.check_table.Goals.{In_ok-at}

-- the header that was read
headed : (c : goal.In_ok-at) → (let g = c.in_ok-at.ensures.says in
    Header c.args.s.now g.0 (drop c.in_ok-at.at c.args.s.now))
headed c = header_read c.args.s.now FACT c.in_ok-at.ensures.says.1

-- as many sizes as the header has dimensions
sized : (d : ℕ) → d ≤ 8 → length {A = ℕ} (take d (0 ∷ 0 ∷ 0 ∷ 0 ∷ 0 ∷ 0 ∷ 0 ∷ 0 ∷ [])) ≡ d
sized d h = length-take-le d (0 ∷ 0 ∷ 0 ∷ 0 ∷ 0 ∷ 0 ∷ 0 ∷ 0 ∷ []) h

pub word_at-dims-requires : goal.word_at-dims-requires
word_at-dims-requires c = omega (arith, (headed c).whole, (headed c).some)

pub slice_bounds-sizes-end : goal.slice_bounds-sizes-end
slice_bounds-sizes-end c = omega (arith, c.word_at-dims.ensures, (headed (goal.at.slice_bounds-sizes-end c).In_ok-at).few)

pub slice_bounds-check_sized-end : goal.slice_bounds-check_sized-end
slice_bounds-check_sized-end c = rw length-take (omega (arith, c.word_at-dims.ensures, (headed (goal.at.slice_bounds-check_sized-end c).In_ok-at).few))

pub check_sized-requires : goal.check_sized-requires
check_sized-requires c =
    let h = headed (goal.at.check_sized-requires c).In_ok-at in
    let n = sized c.word_at-dims.result (omega (arith, c.word_at-dims.ensures, h.few)) in
    (omega (arith, n, c.word_at-dims.ensures, h.whole), c.in_ok-at.ensures.says.2)

pub returns-in_err-at : goal.returns-in_err-at
unfolding read_table
returns-in_err-at c = rw (handed c.from_residual.result c.from_residual.ensures.1) (record { says = then_off (body c.args.s.now) c.in_err-at.ensures.says })

pub returns : goal.returns
unfolding read_table
returns c =
    let s = c.args.s.now in
    let g = c.in_ok-at.ensures.says in
    let h = headed (goal.at.returns c).In_ok-at in
    let n = sized c.word_at-dims.result (omega (arith, c.word_at-dims.ensures, h.few)) ∙ c.word_at-dims.ensures in
    walked_as (then_on (body s) g.1 ∙ ap (λ (zs : List ℕ). body s zs (drop c.in_ok-at.at s)) (h.are ∙ ap (λ (m : ℕ). words_at s m 8) (sym n))) c.check_sized.ensures
