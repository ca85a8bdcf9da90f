-- C-22: what the call writes for a fee, of an accepted archive that has a base row. (`cells-listed` of Promises.antt: `cells` are what a listing of the set holds.)
use mathlib.Core.Path.{◌≡◌, subst}
use mathlib.Core.List.{List, [], ◌∷◌, map}
use Prim.Native.Nat.{ℕ, ◌*◌, ◌^◌, ◌≤◌, ◌<◌}
use native.Mathlib.Omega.{arith}
use lib.IntN.{ℤ, pos}
use lib.ListN.{length, get_or, length-map}
use borrow.Author.Tests.{lt-ltb, le-leb}
use Rattle.lists.specs.Lists.{sum}
use Rattle.fields.specs.Words.{words}
use Rattle.lattice.proofs.Sets.{sets_of}
use Rattle.fields_walk.specs.Parsed.{got}
use Rattle.fields_walk.specs.Limits.{Bytes}
use Rattle.cube.specs.Measure.{sums}
use Rattle.cube.specs.Bounds.{count_of}
use Rattle.cube.specs.Codes.{plain}
use Rattle.cube.specs.Cube.{cells}
use Rattle.archive_entries.specs.Layout.{Held}
use Rattle.archive_entries.specs.Reading.{read_archive, rows_in}
use Rattle.archive_entries.proofs.Limits.{limits-table}
use Rattle.archive_entries.proofs.Accepted.{archive_forth}
use Rattle.call_answers.specs.Answers.{bytes}
use Rattle.call_answers.specs.Calls.{dims}
use Rattle.fee_shares.specs.Shares.{shares, apart, sumℤ, off}
use Rattle.fee_shares.proofs.Promises as share
use Rattle.fee_list.specs.Listed.{fee_bytes}
use Rattle.fee_list.proofs.Listed.{fee_read}
use Rattle.call_fee.specs.Fees.{weights, shares_fee}
use Rattle.call_fee.proofs.Counts.{weights-total, counts_some}
use Rattle.promises.proofs.Room.{weights-few}

module _ (s : List ℕ) (a : Held) (b : Bytes s) (e : read_archive s ≡ got a []) (n : 0 < length a.bases) {fee set : ℕ} (k : fee ≤ 1000000000) (h : set < 2 ^ dims a) where
  -- the counts of the set's cells, in listing order, and how many readings there are
  abbrev counts : List ℕ
  counts = map (λ r. r.total.count) (cells (plain (dims a)) sums (rows_in a) set)

  abbrev readings : ℕ
  readings = count_of (rows_in a)

  -- the cents of each cell
  abbrev cents : List ℕ
  cents = shares fee counts

  some : 0 < length (rows_in a)
  some = omega (arith, n, length-map a.bases (λ q. q.row))

  -- The counts are together the readings, of which there is at least one.
  pub counts-add_up : sum counts ≡ readings
  unfolding weights
  counts-add_up = weights-total (dims a) (rows_in a) (limits-table a.sizes (rows_in a) (archive_forth s a [] b e).0) (sets_of (dims a) h)

  read-once : 0 < readings
  read-once = counts_some (rows_in a) some (λ r m. ((archive_forth s a [] b e).0.each r m).counted)

  shared : 0 < sum counts
  shared = omega (arith, counts-add_up, read-once)

  few : length counts ≤ 1024
  unfolding weights
  few = omega (arith, weights-few (dims a) (rows_in a) set some, (archive_forth s a [] b e).0.few)

  -- The call writes 32-bit fields: the number of cells, then each cell's cents; there are as many of these.
  pub fee_written : (xs : List ℕ) × (shares_fee s fee set ≡ bytes xs) × (words xs ≡ length counts ∷ cents)
  unfolding shares_fee weights
  fee_written = (
    fee_bytes fee counts,
    rw (e, lt-ltb set (2 ^ dims a) h, le-leb fee 1000000000 k, lt-ltb 0 (length (rows_in a)) some),
    fee_read fee counts shared (omega (arith, k)) (omega (arith, few)),
  )

  pub one_each : length cents ≡ length counts
  one_each = share.one_each fee counts shared

  -- The cents add up to the fee,
  pub shares-add_up : sum cents ≡ fee
  shares-add_up = share.shares-add_up fee counts shared

  -- each differs from the exact proportion by less than a cent,
  pub less_than_a_cent : (i : ℕ) → i < length counts → apart (get_or cents i 0 * readings) (fee * get_or counts i 0) < readings
  less_than_a_cent i l =
      subst (λ (t : ℕ). apart (get_or cents i 0 * t) (fee * get_or counts i 0) < t) counts-add_up (share.less_than_a_cent fee counts shared i l)

  -- and no split into whole cents that adds up to the fee, cents below zero too, has a smaller total of such differences.
  pub no_better : (ys : List ℤ) → length ys ≡ length counts → sumℤ ys ≡ pos fee → off readings fee counts (map pos cents) ≤ off readings fee counts ys
  no_better ys l q = subst (λ (t : ℕ). off t fee counts (map pos cents) ≤ off t fee counts ys) counts-add_up (share.no_better fee counts shared ys l q)
