-- `call_cuboids::blank_cells` meets its contract: an empty table has one cell, that of the empty set, in which any codes are all ALL.
use mathlib.Core.Path.{refl, sym}
use mathlib.Core.List.{List, [], ◌∷◌}
use Prim.Native.Nat.{ℕ}
use native.Mathlib.Omega.{arith}
use lib.ListN.{take}
use lib.Seq.{length-take-le}
use Rattle.rows.specs.Rows.{rows_of}
use Rattle.call_cuboids.proofs.Lengths.{blank_elsewhere, blank_put}
use Rattle.call_cuboids.proofs.blank_cells.Goals as goal

abbrev zeros : List ℕ
zeros = 0 ∷ 0 ∷ 0 ∷ 0 ∷ 0 ∷ 0 ∷ 0 ∷ 0 ∷ []

pub returns-then-set-ne0 : goal.returns-then-set-ne0
unfolding rows_of
returns-then-set-ne0 c = (omega arith, blank_elsewhere c.args.dims c.args.set c.if-set-ne0.true)

pub returns : goal.returns
returns c =
    let a = c.args in
    (omega arith, blank_put a.dims a.set (take a.dims zeros) _ a.cells.now _ (sym (length-take-le a.dims zeros c.requires.0)) (omega (arith, c.if-set-ne0.false)) refl c.put_row.ensures)
