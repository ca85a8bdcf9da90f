-- `archive_editions::do_suit` meets its contract: the bounds of the sum fit 64 bits, and the code compares with them.
use mathlib.Core.Path.{◌≡◌, ◌∙◌}
use Prim.Native.Nat.{◌-◌, ◌^◌, ◌≤◌, ◌<◌}
use native.Mathlib.Omega.{arith}
use mathlib.Core.Bool.{false}
use lib.Signed.{mag, lt_z}
use lib.IntN.{ℤ, pos, ◌+ℤ◌, ◌*ℤ◌}
use mir.Syntax.{w64}
use mir.Val.{SFits, to_z, of_z}
use borrow.Author.Rules.{sfits_of}
use mir.Facts.{to_z-of_z}
use Rattle.cube.specs.Bounds.{suits}
use Rattle.archive_editions.proofs.Bounds.{times_fits, bound_fits, below_is, le_int}
use Rattle.archive_editions.proofs.do_suit.Goals as goal
use Rattle.archive_editions.proofs.do_suit.Goals.{Start, After-from-n}

module _ (c : goal.After-from-n) where
  rest-is : to_z w64 (of_z w64 c.from-n.result) ≡ pos (c.args.sums.count - 1)
  rest-is = to_z-of_z {w = w64} (sfits_of c.from-n.type_inv) ∙ c.from-n.ensures

  few : c.args.sums.count - 1 ≤ 1048575
  few = omega (arith, c.requires.counted)

  -- a product, and a bound, of whichever readings
  times : (z : ℤ) → mag z < 2 ^ 31 → SFits w64 (pos (c.args.sums.count - 1) *ℤ z)
  times z q = times_fits (c.args.sums.count - 1) z z few q q

  bound : (y z : ℤ) → mag y < 2 ^ 31 → mag z < 2 ^ 31 → SFits w64 (y +ℤ pos (c.args.sums.count - 1) *ℤ z)
  bound y z p q = bound_fits (c.args.sums.count - 1) y z few p q

  least-times : SFits w64 (pos (c.args.sums.count - 1) *ℤ c.args.least)
  least-times = times c.args.least c.requires.readings.0

  greatest-times : SFits w64 (pos (c.args.sums.count - 1) *ℤ c.args.greatest)
  greatest-times = times c.args.greatest c.requires.readings.1

-- what the test of least and greatest said
order-is : (c : goal.After-from-n) → lt_z c.args.greatest c.args.least ≡ false
order-is c = rw (to_z-of_z c.ranges.greatest, to_z-of_z c.ranges.least) at c.if-greatest-least.false

pub returns-then-greatest-least : goal.returns-then-greatest-least
unfolding suits
returns-then-greatest-least c =
    let h = rw (to_z-of_z c.ranges.greatest, to_z-of_z c.ranges.least) at c.if-greatest-least.true in
    rw (below_is c.args.greatest c.args.least, h)

pub overflow_add-low : goal.overflow_add-low
overflow_add-low c =
    let b = (goal.at.overflow_add-low c).After-from-n in
    simp (rest-is b, to_z-of_z b.ranges.least, to_z-of_z b.ranges.greatest, to_z-of_z (least-times b)) (bound b _ _ (omega arith) (omega arith))

pub overflow_add-high : goal.overflow_add-high
overflow_add-high c =
    let b = (goal.at.overflow_add-high c).After-from-n in
    simp (rest-is b, to_z-of_z b.ranges.least, to_z-of_z b.ranges.greatest, to_z-of_z (greatest-times b)) (bound b _ _ (omega arith) (omega arith))

pub returns : goal.returns
unfolding suits
returns c =
    let b = (goal.at.returns c).After-from-n in
    let l = c.args.least in
    let g = c.args.greatest in
    let r = c.requires.readings in
    let low = simp (rest-is b, to_z-of_z b.ranges.least, to_z-of_z b.ranges.greatest, to_z-of_z (least-times b), to_z-of_z (bound b g l r.1 r.0)) at c.new.ensures.start in
    let high = simp (rest-is b, to_z-of_z b.ranges.least, to_z-of_z b.ranges.greatest, to_z-of_z (greatest-times b), to_z-of_z (bound b l g r.0 r.1)) at c.new.ensures.end in
    let v = rw (low, high, c.new.ensures.exhausted) at c.contains.ensures.value in
    let w = simp le_int at v in
    rw (below_is g l, order-is b) w
