-- Readings that make a sum (document 01, stop 8: "a sum that this many readings cannot make"), and those with a least and a greatest one (document 02, C-17, stop 19).
--
--   Reading z       a reading: from -2,147,483,648 to 2,147,483,647
--   sum_of zs        the sum of readings
--   Make zs t       zs are readings, as many as t counts, and make its sum
--   Span zs l g     the least of zs is l, and the greatest is g
use Rattle.std.specs.Prelude.{◌≡◌, true, List, [], ◌∷◌, ℤ, pos, negsuc, ◌+ℤ◌, length}
use Rattle.std.specs.Int.Signed.{le_z}
use Rattle.lists.specs.Lists.{◌∈◌}
use Rattle.cube.specs.declared.Total.{Total}

pub record Reading (z : ℤ) : Type 0 where
  pub low : le_z (negsuc 2147483647) z ≡ true
  pub high : le_z z (pos 2147483647) ≡ true

abbrev pub sum_of : List ℤ → ℤ
sum_of [] = pos 0
sum_of (z ∷ zs) = z +ℤ sum_of zs

pub record Make (zs : List ℤ) (t : Total) : Type 0 where
  pub each : (z : ℤ) → z ∈ zs → Reading z
  pub count : length zs ≡ t.count
  pub sum : sum_of zs ≡ t.sum

pub record Span (zs : List ℤ) (l g : ℤ) : Type 0 where
  pub least : l ∈ zs
  pub greatest : g ∈ zs
  pub from : (z : ℤ) → z ∈ zs → le_z l z ≡ true
  pub to : (z : ℤ) → z ∈ zs → le_z z g ≡ true
