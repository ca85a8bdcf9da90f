-- `text_decimals::put_integer` meets its contract. A minus sign where the integer is negative, then its magnitude.
use mathlib.Core.Path.{◌≡◌, refl, sym, ap}
use mathlib.Core.Bool.{true, false, false≢true}
use mathlib.Core.List.{◌++◌}
use native.Mathlib.Nat.{not-suc-le-zero}
use lib.IntN.{ℤ, pos, negsuc, nat_abs}
use lib.ListN.{length}
use lib.Signed.{lt_z}
use mir.Facts.{to_z-of_z}
use borrow.Author.Rules.{rules}
use borrow.Author.Tests.{ltb-true}
use Rattle.fields.specs.WrittenLaws.{wrote_then}
use Rattle.text_decimals.specs.Decimals.{ascii, decimal, integer}
use Rattle.text_decimals.proofs.put_integer.Goals as goal
use Rattle.text_decimals.proofs.put_integer.Goals.{Else-z-lt0, Then-z-lt0}

integer-below : (z : ℤ) → lt_z z (pos 0) ≡ true → integer z ≡ ascii "-" ++ decimal (nat_abs z)
unfolding integer
integer-below (pos n) h = absurd (not-suc-le-zero (ltb-true n 0 h))
integer-below (negsuc n) h = refl

integer-above : (z : ℤ) → lt_z z (pos 0) ≡ false → integer z ≡ decimal (nat_abs z)
unfolding integer
integer-above (pos n) h = refl
integer-above (negsuc n) h = absurd (false≢true (sym h))

-- the integer's text, by the magnitude that the code computed
below : (c : goal.Then-z-lt0) → integer c.args.z ≡ ascii "-" ++ decimal c.unsigned_abs-n.result
below c = let same = to_z-of_z c.ranges.z in rw (c.unsigned_abs-n.ensures.value, same) (integer-below _ (rw same at c.if-z-lt0.true))

above : (c : goal.Else-z-lt0) → integer c.args.z ≡ decimal c.unsigned_abs-n.result
above c = let same = to_z-of_z c.ranges.z in rw (c.unsigned_abs-n.ensures.value, same) (integer-above _ (rw same at c.if-z-lt0.false))

pub put_character-at-requires : goal.put_character-at-requires
put_character-at-requires c = search (rules, ap length (below (goal.at.put_character-at-requires c).Then-z-lt0))

pub slice_bounds-put_decimal-count : goal.slice_bounds-put_decimal-count
slice_bounds-put_decimal-count c = search (rules, ap length (below (goal.at.slice_bounds-put_decimal-count c).Then-z-lt0))

pub slice_bounds-put_decimal-start : goal.slice_bounds-put_decimal-start
slice_bounds-put_decimal-start c = search (rules, ap length (below (goal.at.slice_bounds-put_decimal-start c).Then-z-lt0))

pub put_decimal-requires : goal.put_decimal-requires
put_decimal-requires c = search (rules, ap length (below (goal.at.put_decimal-requires c).Then-z-lt0))

pub overflow_add-result : goal.overflow_add-result
overflow_add-result c = search (rules, ap length (below (goal.at.overflow_add-result c).Then-z-lt0))

pub returns-then-z-lt0 : goal.returns-then-z-lt0
returns-then-z-lt0 c = rw (below (goal.at.returns-then-z-lt0 c).Then-z-lt0) (wrote_then c.put_character-at.ensures c.put_decimal.ensures)

pub put_decimal-requires-2 : goal.put_decimal-requires-2
put_decimal-requires-2 c = search (rules, ap length (above (goal.at.put_decimal-requires-2 c).Else-z-lt0))

pub returns : goal.returns
returns c = rw (above (goal.at.returns c).Else-z-lt0) c.put_decimal-2.ensures
