-- Where the low word of a sum stands, its high one settles whether the sum does.
use mathlib.Core.Path.{◌≡◌, ◌∙◌}
use mathlib.Core.Bool.{true}
use mathlib.Core.List.{List}
use Prim.Native.Nat.{ℕ, ◌+◌}
use lib.IntN.{ℤ}
use lib.ListN.{drop}
use lib.Seq.{drop-drop}
use Rattle.fields.specs.Words.{word_bytes}
use Rattle.fields_sums.specs.Twos.{low_of, high_of, sum_bytes}
use Rattle.fields.specs.Opening.{starts_with}
use Rattle.fields.specs.OpeningLaws.{starts_with_append}

pub starts-sum : (s : List ℕ) (at : ℕ) (z : ℤ) → starts_with (drop at s) (word_bytes (low_of z)) ≡ true
    → starts_with (drop at s) (sum_bytes z) ≡ starts_with (drop (at + 4) s) (word_bytes (high_of z))
starts-sum s at z h = starts_with_append (drop at s) (word_bytes (low_of z)) (word_bytes (high_of z)) ∙ rw (h, drop-drop 4 at s)
