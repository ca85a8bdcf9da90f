-- `family_alone::keep_rows` meets its contract: the rows are copied into the block of the node.
use mathlib.Core.Path.{◌≡◌, refl, ap}
use mathlib.Core.List.{List}
use Prim.Native.Nat.{ℕ, ◌+◌, ◌-◌, ◌*◌, ◌≤◌}
use native.Mathlib.Omega.{arith}
use lib.ListN.{length}
use Rattle.rows_bits.specs.Rowsets.{has}
use Rattle.family_alone.proofs.Blocks.{block_here, block-other}
use Rattle.family_alone.proofs.keep_rows.Goals as goal

pub returns : goal.returns
returns c =
    let a = c.args in
    let p = c.requires in
    let room : a.node * 32 + 32 ≤ length a.alone.now = omega (arith, p.1, p.2) in
    let w : a.node * 32 + 32 - a.node * 32 ≡ 32 = omega arith in
    let len : length a.rows.now ≡ a.node * 32 + 32 - a.node * 32 = omega (arith, p.0) in
    rw c.copy_from_slice.ensures.after
    (record {
      here = λ x. ap (λ (l : List ℕ). has l x) (block_here a.alone.now a.rows.now a.node (a.node * 32) (a.node * 32 + 32 - a.node * 32) refl w len room);
      others = block-other a.alone.now a.rows.now a.node (a.node * 32) (a.node * 32 + 32 - a.node * 32) refl w len room;
    })
