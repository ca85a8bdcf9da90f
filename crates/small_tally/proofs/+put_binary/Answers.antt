-- `small_tally::put_binary` meets its contract: the call writes all digits but the last, and there is room for the last one.
use mathlib.Core.List.{List}
use Prim.Native.Nat.{ℕ, ◌-◌, ◌/◌, ◌%◌, ◌≤◌, ◌<◌}
use native.Mathlib.Omega.{arith}
use lib.ListN.{length}
use Rattle.std.proofs.Common.{◌≢◌}
use Rattle.fields.specs.Written.{Wrote}
use Rattle.fields.specs.WrittenLaws.{wrote_none, wrote_one}
use Rattle.small_model.specs.Small.{binary}
use Rattle.small_model.proofs.Binary.{binary-length}
use Rattle.small_tally.proofs.Flat.{binary-none, binary-last}
use Rattle.small_tally.proofs.+put_binary.Goals as goal

-- there is room for the last digit
room : (d j : ℕ) {before after : List ℕ} {n : ℕ} → d ≢ 0 → d ≤ length before → Wrote (binary (d - 1) (j / 2)) before after n → n < length before
room d j h p w = omega (arith, w.count, binary-length (d - 1) (j / 2), p, h)

pub returns-then-dims-eq0 : goal.returns-then-dims-eq0
returns-then-dims-eq0 t c = rw (binary-none c.args.j c.if-dims-eq0.true) (wrote_none _)

pub returns : goal.returns
returns t c =
    let a = c.args in
    rw (binary-last a.dims a.j c.if-dims-eq0.false) (wrote_one (a.j % 2) (room a.dims a.j c.if-dims-eq0.false c.requires c.put_binary-at.ensures) c.put_binary-at.ensures)
