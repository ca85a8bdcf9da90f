-- What the call's outcome is for an archive that is refused, and for one that is accepted.
use mathlib.Core.Path.{◌≡◌, sym, ap, subst, ◌∙◌}
use mathlib.Core.List.{List, []}
use Prim.Native.Nat.{ℕ, ◌^◌, ◌≤◌, ◌<◌}
use native.Mathlib.Omega.{arith}
use lib.ListN.{length}
use borrow.Author.Tests.{lt-ltb, le-ltb, le-leb, lt-leb}
use Rattle.std.specs.Prelude.{Err}
use Rattle.cube.specs.declared.Total.{Total}
use Rattle.cube.specs.Measure.{Row}
use Rattle.cube.specs.Bounds.{count_of}
use Rattle.rows.specs.Rows.{rows_of}
use Rattle.rows.proofs.Flat.{rows-length}
use Rattle.archive_entries.specs.Reading.{read_archive, archive_answer, rows_in}
use Rattle.archive_entries.proofs.Accepted.{archive_forth}
use Rattle.call_answers.specs.Answers.{stop as stopped, bytes}
use Rattle.call_answers.proofs.Opened.{Opened}
use Rattle.call_ask.proofs.Outcomes.{refused}
use Rattle.fee_list.specs.Listed.{fee_bytes}
use Rattle.call_fee.specs.Fees.{weights, shares_fee}
use Rattle.call_fee.proofs.Counts.{counts_some}

pub fee_refused : (s : List ℕ) {k : ℕ} → archive_answer (read_archive s) ≡ Err k → (fee set : ℕ) → shares_fee s fee set ≡ stopped k
unfolding shares_fee
fee_refused s e fee set = rw (refused s e)

module _ {s : List ℕ} {d n m : ℕ} {ws : List ℕ} (o : Opened s d n m ws) where
  abbrev rows : List (Row Total)
  rows = rows_of d n ws

  -- as many base rows as the code says
  held_rows : length (rows_in o.held) ≡ n
  held_rows = sym (ap length o.rows) ∙ rows-length d n ws

  pub fee_no_set : (fee : ℕ) {set : ℕ} → 2 ^ d ≤ set → shares_fee s fee set ≡ stopped 14
  unfolding shares_fee
  fee_no_set fee {set} h = rw (o.read, o.dims, le-ltb set (2 ^ d) h)

  pub fee_too_high : {fee set : ℕ} → set < 2 ^ d → 1000000000 < fee → shares_fee s fee set ≡ stopped 23
  unfolding shares_fee
  fee_too_high {fee} {set} h k = rw (o.read, o.dims, lt-ltb set (2 ^ d) h, lt-leb fee 1000000000 k)

  pub fee_no_rows : {fee set : ℕ} → set < 2 ^ d → fee ≤ 1000000000 → n ≡ 0 → shares_fee s fee set ≡ stopped 24
  unfolding shares_fee
  fee_no_rows {fee} {set} h k e = rw (o.read, o.dims, lt-ltb set (2 ^ d) h, le-leb fee 1000000000 k, le-ltb 0 (length (rows_in o.held)) (omega (arith, held_rows, e)))

  pub fee-bytes : {fee set : ℕ} → set < 2 ^ d → fee ≤ 1000000000 → (n ≡ 0 → ⊥) → shares_fee s fee set ≡ bytes (fee_bytes fee (weights d rows set))
  unfolding shares_fee
  fee-bytes {fee} {set} h k e =
      rw (o.read, o.dims, lt-ltb set (2 ^ d) h, le-leb fee 1000000000 k, lt-ltb 0 (length (rows_in o.held)) (omega (arith, held_rows, e)))
      (ap (λ (l : List (Row Total)). bytes (fee_bytes fee (weights d l set))) (sym o.rows))

  -- an accepted archive's base rows have a reading each, so their count is not 0
  pub fee_some : (n ≡ 0 → ⊥) → 0 < count_of rows
  fee_some e =
      let l = (archive_forth s o.held [] o.are o.read).0 in
      subst (λ (l : List (Row Total)). 0 < count_of l) (sym o.rows) (counts_some (rows_in o.held) (omega (arith, held_rows, e)) (λ r i. (l.each r i).counted))
