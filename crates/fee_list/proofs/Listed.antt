-- The shares as a list of numbers, and read back.
use mathlib.Core.Path.{◌≡◌, sym, ◌∙◌, ap}
use mathlib.Core.List.{List, [], ◌∷◌}
use Prim.Native.Nat.{ℕ, ◌+◌, ◌*◌, ◌^◌, ◌<◌}
use native.Mathlib.Omega.{arith}
use lib.Dec.{T}
use lib.ListN.{length}
use borrow.Author.Tests.{lt-ltb}
use Rattle.lists.specs.Lists.{sum}
use Rattle.fields.specs.Words.{words, are_words}
use Rattle.fields_check.specs.ReadBack.{words_read}
use Rattle.fee_shares.specs.Shares.{shares}
use Rattle.fee_shares.proofs.Proportions.{shares-length, shares_sum}
use Rattle.archive_cells.specs.ListBytes.{list_bytes, list_length}
use Rattle.fee_list.specs.Listed.{fee_bytes}

pub fee_is : {l : List ℕ} (fee : ℕ) (ws : List ℕ) → l ≡ shares fee ws → fee_bytes fee ws ≡ list_bytes l
unfolding fee_bytes
fee_is fee ws e = ap list_bytes (sym e)

-- four bytes for the count and for each cell
pub fee_length : (fee : ℕ) (ws : List ℕ) → length (fee_bytes fee ws) ≡ 4 + 4 * length ws
unfolding fee_bytes
fee_length fee ws = omega (arith, list_length (shares fee ws), shares-length fee ws)

-- numbers whose total is a word are words
sum-words : (l : List ℕ) → sum l < 2 ^ 32 → T (are_words l)
sum-words [] h = tt
sum-words (n ∷ l) h = rw (lt-ltb n (2 ^ 32) (omega (arith, h))) (sum-words l (omega (arith, h)))

-- the fields read back: no share is above the fee
pub fee_read : (fee : ℕ) (ws : List ℕ) → 0 < sum ws → fee < 2 ^ 32 → length ws < 2 ^ 32 → words (fee_bytes fee ws) ≡ length ws ∷ shares fee ws
unfolding fee_bytes list_bytes
fee_read fee ws p h k =
    let n = shares-length fee ws in
    words_read (length (shares fee ws) ∷ shares fee ws) (rw (lt-ltb (length (shares fee ws)) (2 ^ 32) (omega (arith, n, k))) (sum-words (shares fee ws) (omega (arith, shares_sum fee ws p, h))))
    ∙ ap (λ (m : ℕ). m ∷ shares fee ws) n
