-- `cube::Extremes::wider` meets its contract: of two that are known the library's `min` and `max` are the lesser and the greater.
use mathlib.Core.Path.{◌≡◌, subst, ◌∙◌}
use Prim.Native.Nat.{◌^◌, ◌<◌}
use native.Mathlib.Omega.{arith}
use borrow.Author.Rules.{sfits_of}
use lib.IntN.{ℤ}
use lib.Signed.{mag}
use mir.Syntax.{w64}
use mir.Val.{SFits}
use mir.Facts.{to_z-of_z}
use Rattle.std.specs.Int.{int_min, int_max}
use Rattle.std.proofs.lemmas.Int.{ints}
use Rattle.cube.specs.Extremes.{Readings, lesser, greater}
use Rattle.cube.proofs.Extremes.wider.Goals as goal

fit : (z : ℤ) → mag z < 2 ^ 31 → SFits w64 z
fit z h = omega (arith, h)

min-lesser : (a b : ℤ) → int_min a b ≡ lesser a b
min-lesser a b = grind (arith, ints)

max-greater : (a b : ℤ) → int_max a b ≡ greater a b
max-greater a b = grind (arith, ints)

pub returns-in-Known-Known : goal.returns-in-Known-Known
returns-in-Known-Known c =
    let k = c.in-Known-Known in
    let r = subst Readings k.is-0 c.requires.0 in
    let q = subst Readings k.is-1 c.requires.1 in
    let l = rw (to_z-of_z (fit k.least r.0), to_z-of_z (fit k.l q.0)) at c.min.ensures.value in
    let g = rw (to_z-of_z (fit k.greatest r.1), to_z-of_z (fit k.g q.1)) at c.max.ensures.value in
    rw (to_z-of_z {w = w64} (sfits_of c.min.type_inv), to_z-of_z {w = w64} (sfits_of c.max.type_inv), l ∙ min-lesser k.least k.l, g ∙ max-greater k.greatest k.g, k.is-0, k.is-1)
