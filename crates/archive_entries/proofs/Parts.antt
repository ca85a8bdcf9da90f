-- The ends of the parts of a base entry: its codes, its sum and count, its list.
use mathlib.Core.Path.{◌≡◌, ap, ◌∙◌}
use mathlib.Core.Bool.{true, false, and-false}
use mathlib.Core.List.{List}
use Prim.Native.Nat.{ℕ, ◌+◌, ◌*◌, ◌≤◌, ◌<◌}
use native.Mathlib.Omega.{arith}
use lib.IntN.{ℤ}
use lib.ListN.{length, drop}
use borrow.Author.Tests.{lt-leb}
use Rattle.lists.specs.Order.{earlier}
use Rattle.fields.specs.Words.{word_at, words_at}
use Rattle.fields_sums.specs.Twos.{sum_at}
use Rattle.std.specs.Prelude.{Result}
use Rattle.stops.specs.declared.Stop.{Stop}
use Rattle.std.specs.Prelude.{Ok}
use Rattle.fields_walk.specs.Parsed.{Parsed, stop, got, and_then, stop_unless, many}
use Rattle.fields_walk.specs.Fields.{room, word, sum, field, codes}
use Rattle.fields_walk.specs.Walked.{Says, Walked}
use Rattle.fields_walk.proofs.Steps.{then_on, then_off, walked_as}
use Rattle.fields_walk.proofs.Fields.{word-at-place, word_on, word-off}
use Rattle.fields_walk.proofs.Any.{any_word, any_many, any_walked}
use Rattle.cube.specs.declared.Total.{Total}
use Rattle.cube.specs.Bounds.{most, can_make}
use Rattle.archive_entries.specs.Reading.{rising, fair, amount, list}
use Rattle.archive_entries.proofs.Fair.{fair_of}
use Rattle.fields_walk.proofs.Found.{sum-at-place, finds_codes}

sum_on : (l : List ℕ) {u : Unit {0}} {rest : List ℕ} → room 8 l ≡ got u rest → sum l ≡ got (sum_at l 0) rest
unfolding sum
sum_on l e = then_on (λ u rest. got (sum_at l 0) rest) e

sum-off : (l : List ℕ) {n : ℕ} → room 8 l ≡ stop n → sum l ≡ stop n
unfolding sum
sum-off l e = then_off (λ u rest. got (sum_at l 0) rest) e

-- ---- the codes

module _ (s zs before : List ℕ) (at : ℕ) where
  abbrev later : List ℕ → List ℕ → Parsed (List ℕ)
  later x rest = stop_unless (earlier before x) 7 (got x rest)

  pub rising-off : {n : ℕ} → codes zs (drop at s) ≡ stop n → rising zs before (drop at s) ≡ stop n
  unfolding rising
  rising-off e = then_off later e

  module _ (h : at ≤ length s) {k : ℕ} (g : Says s (codes zs (drop at s)) (Ok k)) where
    rising_is : rising zs before (drop at s) ≡ later (words_at s (length zs) at) (drop k s)
    unfolding rising
    rising_is = then_on later g.1 ∙ ap (λ (x : List ℕ). later x (drop k s)) ((finds_codes s zs at).found _ _ h g.1).2

    pub rising_on : earlier before (words_at s (length zs) at) ≡ true → Says s (rising zs before (drop at s)) (Ok k)
    rising_on e = (words_at s (length zs) at, rising_is ∙ rw e, g.2)

    pub rising_not : earlier before (words_at s (length zs) at) ≡ false → rising zs before (drop at s) ≡ stop 7
    rising_not e = rising_is ∙ rw e

-- ---- the sum and the count

module _ (s : List ℕ) (total at : ℕ) where
  abbrev tested : ℤ → ℕ → List ℕ → Parsed Total
  tested z n rest = stop_unless (fair total z n) 8 (got (record { sum = z; count = n }) rest)

  abbrev counted : ℤ → List ℕ → Parsed Total
  counted z rest = and_then (word rest) (tested z)

  pub amount-off : {n : ℕ} → room 8 (drop at s) ≡ stop n → amount total (drop at s) ≡ stop n
  unfolding amount
  amount-off e = then_off counted (sum-off (drop at s) e)

  module _ {p : ℕ} (f : Says s (room 8 (drop at s)) (Ok p)) where
    amount-sum : amount total (drop at s) ≡ counted (sum_at s at) (drop p s)
    unfolding amount
    amount-sum = then_on counted (sum_on (drop at s) f.1) ∙ ap (λ (z : ℤ). counted z (drop p s)) (sum-at-place s at)

    pub amount-ended : {n : ℕ} → room 4 (drop p s) ≡ stop n → amount total (drop at s) ≡ stop n
    amount-ended e = amount-sum ∙ then_off (tested (sum_at s at)) (word-off (drop p s) e)

    module _ {k : ℕ} (g : Says s (room 4 (drop p s)) (Ok k)) where
      amount-is : amount total (drop at s) ≡ tested (sum_at s at) (word_at s p) (drop k s)
      amount-is = amount-sum ∙ then_on (tested (sum_at s at)) (word_on (drop p s) g.1) ∙ ap (λ (n : ℕ). tested (sum_at s at) n (drop k s)) (word-at-place s p)

      pub amount-none : word_at s p ≡ 0 → amount total (drop at s) ≡ stop 8
      unfolding fair
      amount-none h = amount-is ∙ rw (lt-leb 1 (word_at s p) (omega arith))

      pub amount_much : most < total + word_at s p → amount total (drop at s) ≡ stop 8
      unfolding fair
      amount_much h = amount-is ∙ simp (lt-leb (total + word_at s p) most h, and-false)

      pub amount_unmade : can_make (word_at s p) (sum_at s at) ≡ false → amount total (drop at s) ≡ stop 8
      unfolding fair
      amount_unmade h = amount-is ∙ simp (h, and-false)

      pub amount_on : 1 ≤ word_at s p → total + word_at s p ≤ most → can_make (word_at s p) (sum_at s at) ≡ true → Says s (amount total (drop at s)) (Ok k)
      amount_on h i e = (record { sum = sum_at s at; count = word_at s p }, amount-is ∙ rw (fair_of total (sum_at s at) (word_at s p) h e i), g.2)

-- ---- the list

module _ (s : List ℕ) (at : ℕ) where
  pub list-off : {n : ℕ} → field 0 71 9 (drop at s) ≡ stop n → list (drop at s) ≡ stop n
  unfolding list
  list-off e = then_off (λ n. many n word) e

  -- set numbers are so many bytes of any value
  pub list_on : {v w : ℕ} {rest : List ℕ} {r : Result ℕ Stop} → field 0 71 9 (drop at s) ≡ got v rest → w ≡ 4 * v → Walked s (room w rest) r → Walked s (list (drop at s)) r
  unfolding list
  list_on {v} {w} e f h =
      let m : w ≡ v * 4 = omega arith in
      walked_as (then_on (λ n. many n word) e) (any_walked (any_many v any_word) (rw m at h))
