-- What is known of a base entry that was read at a place: its bytes, its row, and that its count is within the bound.
use mathlib.Core.Path.{◌≡◌}
use mathlib.Core.List.{List}
use Prim.Native.Nat.{ℕ, ◌+◌, ◌*◌, ◌≤◌}
use native.Mathlib.Omega.{arith}
use lib.ListN.{length, drop}
use Rattle.lists.specs.Order.{earlier}
use Rattle.fields.specs.Words.{word_at, words_at}
use Rattle.fields_sums.specs.Twos.{sum_at}
use Rattle.fields_walk.specs.Parsed.{got}
use Rattle.cube.specs.declared.Total.{Total}
use Rattle.cube.specs.Measure.{Row}
use Rattle.cube.specs.Bounds.{most}
use Rattle.archive_entries.specs.Layout.{Based}
use Rattle.archive_entries.specs.Reading.{rising, amount, list, entry}
use Rattle.archive_entries.specs.Places.{row_there, width_there}
use Rattle.archive_entries.proofs.Fair.{fair_true}
use Rattle.fields_walk.proofs.Found.{Finds, finds_to, finds_none, finds_if, finds_then, finds_sum, finds_word, finds_field, finds_codes, finds_words}

module _ (s : List ℕ) where
  finds_rising : (zs before : List ℕ) (at : ℕ) → Finds s (rising zs before) at (at + 4 * length zs) (λ x. x ≡ words_at s (length zs) at)
  unfolding rising
  finds_rising zs before at = finds_then (finds_codes s zs at) (λ x e. finds_if (earlier before x) 7 x (λ t. e))

  finds_amount : (total at : ℕ) → Finds s (amount total) at (at + 12) (λ t. (t ≡ record { sum = sum_at s at; count = word_at s (at + 8) }) × (total + word_at s (at + 8) ≤ most))
  unfolding amount
  finds_amount total at =
      let e : at + 8 + 4 ≡ at + 12 = omega arith in
      finds_to e (finds_then (finds_sum s at) (λ z p. finds_then (finds_word s (at + 8)) (λ n q. finds_if _ 8 (record { sum = z; count = n })
      (λ t. (λ i. record { sum = p i; count = q i }, rw (← q) (fair_true total z n t).2)))))

  pub finds_list : (at : ℕ) → Finds s list at (at + 4 + 4 * word_at s at) (λ ss. ss ≡ words_at s (word_at s at) (at + 4))
  unfolding list
  finds_list at = finds_then (finds_field s 0 71 9 at) (λ n e. rw (← e) (finds_words s n (at + 4)))

pub record Entry (s : List ℕ) (d total at : ℕ) (r : Row Total) (rest : List ℕ) : Type 0 where
  pub whole : at + width_there s d at ≤ length s
  pub behind : rest ≡ drop (at + width_there s d at) s
  pub row : r ≡ row_there s d at
  pub few : total + word_at s (at + 4 * d + 8) ≤ most

finds_entry : (s zs before : List ℕ) (total at : ℕ) → Finds s (entry zs before total) at (at + width_there s (length zs) at)
    (λ b. (b.row ≡ row_there s (length zs) at) × (total + word_at s (at + 4 * length zs + 8) ≤ most))
unfolding entry
finds_entry s zs before total at =
    let d = length zs in
    let e : at + 4 * d + 12 + 4 + 4 * word_at s (at + 4 * d + 12) ≡ at + width_there s d at = omega arith in
    finds_to e (finds_then (finds_rising s zs before at) (λ x p. finds_then (finds_amount s total (at + 4 * d)) (λ t q. finds_then (finds_list s (at + 4 * d + 12))
    (λ ss r. finds_none (record { row = record { codes = x; total = t }; list = ss }) (λ i. record { codes = p i; total = q.0 i }, q.1)))))

pub entry_read : (s zs before : List ℕ) (total at : ℕ) {e : Based} {rest : List ℕ} → at ≤ length s → entry zs before total (drop at s) ≡ got e rest
    → Entry s (length zs) total at e.row rest
entry_read s zs before total at {e} {rest} h q =
    let r = (finds_entry s zs before total at).found e rest h q in
    record { whole = r.0; behind = r.1; row = r.2.0; few = r.2.1 }
