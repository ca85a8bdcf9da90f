-- `archive_entries::can_make` meets its contract: the bounds fit 64 bits, and the code compares with them.
use Rattle.std.proofs.Common.{Ordering, Less, Equal, Greater}
use Rattle.std.specs.Prelude.{true, false, ◌≤ℤ◌, ◌<ℤ◌}
use Rattle.std.specs.Ordering.{MatchOrdering, is_le, int_cmp}
use Rattle.std.specs.Int.Signed.{le_z, le_z_yes}
use Rattle.std.specs.Cmp.{int_ranks}
use Rattle.std.proofs.lemmas.Int.{ints}
use mathlib.Core.Path.{◌≡◌, sym, ◌∙◌}
use native.Mathlib.Omega.{arith}
use lib.IntN.{ℤ, pos, negsuc, ◌*ℤ◌}
use mir.Syntax.{w64}
use mir.Val.{SFits, to_z, of_z}
use borrow.Author.Rules.{sfits_of}
use mir.Facts.{to_z-of_z}
use Rattle.lists.proofs.Tests.{cases, truth}
use Rattle.archive_entries.proofs.Bounds.{least_fits, greatest-fits}
use Rattle.cube.specs.Bounds.{can_make}
use Rattle.archive_entries.proofs.can_make.Goals as goal
use Rattle.archive_entries.proofs.can_make.Goals.{Start, After-from-n}

count-is : (c : goal.After-from-n) → to_z w64 (of_z w64 c.from-n.result) ≡ pos c.args.count
count-is c = to_z-of_z {w = w64} (sfits_of c.from-n.type_inv) ∙ c.from-n.ensures

low_fits : (c : goal.Start) → SFits w64 (negsuc 2147483647 *ℤ pos c.args.count)
low_fits c = least_fits c.args.count c.requires

high_fits : (c : goal.Start) → SFits w64 (pos 2147483647 *ℤ pos c.args.count)
high_fits c = greatest-fits c.args.count c.requires

-- what `<=` says of integers
le_yes : (x y : ℤ) → x ≤ℤ y → true ≡ le_z x y
le_yes x y h = cases (truth (le_z x y)) (λ t. sym t) (λ f. absurd (rw f at h.le))

le_no : (x y : ℤ) → y <ℤ x → false ≡ le_z x y
le_no x y h = cases (truth (le_z x y)) (λ t. let l : x ≤ℤ y = le_z_yes (rw t tt) in absurd (omega (arith, ints))) (λ f. sym f)

le_ranked : (x y : ℤ) (o : Ordering) → MatchOrdering o (x <ℤ y) (x ≡ y) (y <ℤ x) → is_le o ≡ le_z x y
le_ranked x y Less h = le_yes x y (omega (arith, ints))
le_ranked x y Equal h = le_yes x y (omega (arith, ints))
le_ranked x y Greater h = le_no x y h

le_int : (x y : ℤ) → is_le (int_cmp x y) ≡ le_z x y
le_int x y = le_ranked x y (int_cmp x y) (int_ranks x y)

pub overflow_mul-low : goal.overflow_mul-low
overflow_mul-low c = rw (count-is c) (low_fits (goal.at.overflow_mul-low c).Start)

pub overflow_mul-high : goal.overflow_mul-high
overflow_mul-high c = rw (count-is c) (high_fits (goal.at.overflow_mul-high c).Start)

pub returns : goal.returns
unfolding can_make
returns c =
    let n = count-is (goal.at.returns c).After-from-n in
    let l = to_z-of_z (low_fits (goal.at.returns c).Start) in
    let h = to_z-of_z (high_fits (goal.at.returns c).Start) in
    let low = rw (n, l) at c.new.ensures.start in
    let high = rw (n, h) at c.new.ensures.end in
    let v = rw (low, high, c.new.ensures.exhausted) at c.contains.ensures.value in
    simp (le_int, to_z-of_z {w = w64} c.ranges.sum) at v
