-- `family_lists::has_none` meets its contract: a word that is 0 has no bit.
use mathlib.Core.Path.{◌≡◌, ap, ◌∙◌}
use Prim.Native.Nat.{ℕ, ◌+◌, ◌-◌, ◌*◌, ◌/◌}
use native.Mathlib.Omega.{arith}
use borrow.Author.Tests.{eqb-true}
use lib.ListN.{get_or}
use Rattle.family_lists.proofs.Listing.{node-none}
use Rattle.family_lists.proofs.has_none.Goals as goal

pub returns : goal.returns
returns c =
    let a = c.args in
    let l = a.listed.now in
    let z = c.if-node-ne0.false in
    let low = c.requires.2 in
    let q : a.row * 128 + (a.node / 32 - 1) ≡ a.row * 128 + a.node / 32 - 1 = omega (arith, z, low) in
    λ t. (omega (arith, z, low), λ i h k. node-none l a.row (a.node / 32 - 1) i (ap (λ (j : ℕ). get_or l j 0) q ∙ eqb-true (get_or l (a.row * 128 + a.node / 32 - 1) 0) 0 t) (omega (arith, z, low, h, k)))
