-- `small_tally::put_row` meets its contract: the digits, then one word of the total after the other.
use mathlib.Core.List.{List}
use Prim.Native.Nat.{ℕ, ◌+◌, ◌≤◌}
use native.Mathlib.Omega.{arith}
use lib.ListN.{length, length-set}
use Rattle.fields.specs.Written.{Wrote}
use Rattle.rows.specs.Rows.{width}
use Rattle.small_model.specs.Small.{binary}
use Rattle.small_model.proofs.Binary.{binary-length}
use Rattle.small_tally.proofs.Flat.{row_wrote}
use borrow.Author.Rules.{rules}
use Rattle.small_tally.proofs.put_row.Goals as goal

-- there is room for three more
room : (d j : ℕ) {before after : List ℕ} {n : ℕ} → width d ≤ length before → Wrote (binary d j) before after n → n + 3 ≤ length before
room d j p w = omega (arith, w.count, binary-length d j, p)

pub bounds-out-at-2 : goal.bounds-out-at-2
bounds-out-at-2 c = simp length-set (search (rules, room c.args.dims c.args.j c.requires c.put_binary-at.ensures))

pub bounds-out-at-3 : goal.bounds-out-at-3
bounds-out-at-3 c = simp length-set (search (rules, room c.args.dims c.args.j c.requires c.put_binary-at.ensures))

pub returns : goal.returns
returns c =
    let a = c.args in
    row_wrote a.dims a.j (room c.args.dims c.args.j c.requires c.put_binary-at.ensures) c.put_binary-at.ensures
