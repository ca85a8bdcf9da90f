-- `family_columns::put_column` meets its contract: a column starts at 1024 times its number.
use mathlib.Core.Path.{◌≡◌, refl}
use Prim.Native.Nat.{◌+◌, ◌-◌, ◌*◌, ◌≤◌}
use native.Mathlib.Omega.{arith}
use borrow.Author.Rules.{rules}
use lib.ListN.{length}
use Rattle.family_columns.proofs.Raising.{put-into}
use Rattle.family_columns.proofs.put_column.Goals as goal

pub returns : goal.returns
returns c =
    let a = c.args in
    let p = c.requires in
    let from = a.c * 1024 in
    let n = length a.codes.now in
    let room : from + n ≤ length a.columns.now = omega (arith, p.0, p.1, p.2) in
    let w : from + n - from ≡ n = omega arith in
    rw c.copy_from_slice.ensures.after (put-into a.columns.now a.codes.now a.codes.now a.c from (from + n - from) refl (omega (arith, w)) (omega (arith, w, p.0)) (omega (arith, w, room)) refl (search rules))
