-- `family_lists::note_node` meets its contract: the bit is set in its block.
use mathlib.Core.Path.{◌≡◌, refl, ap, ◌∙◌}
use mathlib.Core.Bool.{◌||◌}
use Prim.Native.Nat.{ℕ, ◌+◌, ◌-◌, ◌*◌, ◌/◌, ◌%◌, ◌≤◌}
use native.Mathlib.Omega.{arith}
use borrow.Author.Rules.{rules}
use borrow.Rule.Slice.PartMut.{mid_len}
use lib.Dec.{eqb}
use lib.ListN.{length, take, drop}
use Rattle.rows_bits.specs.Rowsets.{has}
use Rattle.family_lists.proofs.Notes.{noted_one}
use Rattle.family_lists.proofs.note_node.Goals as goal

pub returns : goal.returns
returns c =
    let a = c.args in
    let p = c.requires in
    let r = c.add in
    let s = (a.row * 4 + a.node / 1024) * 32 in
    let l = a.listed.now in
    let room : s + 32 ≤ length l = omega (arith, p.0, p.1, p.2) in
    let w : s + 32 - s ≡ 32 = omega arith in
    let len : length r.new.words ≡ s + 32 - s = r.auto.words ∙ mid_len s (s + 32) l room in
    record {
      size = search rules;
      each = noted_one l r.new.words a.row a.node s (s + 32 - s) p.2 refl w len room (λ y. r.ensures.1 y ∙ ap (λ (k : ℕ). eqb (a.node % 1024) y || has (take k (drop s l)) y) w);
    }
