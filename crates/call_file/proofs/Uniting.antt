-- Two slices of base rows, merged into a store: what is filed of it.
use mathlib.Core.Path.{◌≡◌, refl, sym, ap, ◌∙◌}
use mathlib.Core.List.{List}
use Prim.Native.Nat.{ℕ, ◌+◌, ◌*◌, ◌≤◌, ◌<◌}
use native.Mathlib.Omega.{arith}
use lib.ListN.{length, take}
use lib.Seq.{length-take-le}
use Rattle.std.specs.Prelude.{Option, Some, None, Err}
use Rattle.std.specs.Option.{ok_or}
use Rattle.stops.specs.declared.Stop.{Stop}
use Rattle.cube.specs.declared.Total.{Total}
use Rattle.cube.specs.Measure.{Row, sums as totals}
use Rattle.cube.specs.Bounds.{count_of}
use Rattle.rows.specs.Rows.{width, rows_of}
use Rattle.rows.proofs.Flat.{rows-length}
use Rattle.rows.proofs.Fronts.{Front, fronted}
use Rattle.rows.proofs.Rows.{rows_small}
use Rattle.rows_ready.specs.Ready.{Ready}
use Rattle.rows_ready.proofs.Ready.{rows-front}
use Rattle.rows_merge.specs.United.{united, merged}
use Rattle.rows_merge.specs.Pass.{Collected}
use Rattle.archive_entries.specs.Layout.{Limits, archive_bytes}
use Rattle.archive_judge.proofs.Judged.{limits-ready}
use Rattle.call_answers.specs.Answers.{Outcome, stop, bytes}
use Rattle.call_answers.specs.Joins.{filed}
use Rattle.call_answers.proofs.Limits.{filed-counts, filed-over, limits-merged, filed-merged}
use Rattle.call_file.specs.Stores.{Store}

-- rows in a slice, of which an outcome's archive is written
abbrev pub Written : List ℕ → Outcome → ℕ → ℕ → List ℕ → Type 0
Written zs o d n ws = Ready d n ws × (d ≡ length zs) × Limits zs (rows_of d n ws) × (o ≡ bytes (archive_bytes zs (rows_of d n ws)))

module _ {zs : List ℕ} {d n : ℕ} {ws : List ℕ} {d' m : ℕ} {ws' : List ℕ} (p : Store zs n ws) (q : Store zs m ws') (e : d ≡ length zs) (f : d' ≡ length zs) where
  abbrev first : List (Row Total)
  first = rows_of d n ws

  abbrev second : List (Row Total)
  second = rows_of d' m ws'

  one : Limits zs first
  one = rw e p.limits

  other : Limits zs second
  other = rw f q.limits

  -- what is filed of both
  abbrev both : Outcome
  both = filed zs (united totals (length zs) first second)

  pub stores_many : 1048576 < count_of first + count_of second → both ≡ stop 18
  stores_many = filed-counts zs first second one other

  pub stored-over : (cells : List ℕ) → Collected 1024 (merged totals first second) d None cells → both ≡ stop 18
  stored-over cells s = filed-over zs first second one other s

  module _ {k : ℕ} (cells : List ℕ) (s : Collected 1024 (merged totals first second) d (Some k) cells) where
    stored_small : k * width (length zs) ≤ 11264
    stored_small = rows_small (length zs) k p.ready.dims s.0

    -- the rows in the front of the array
    abbrev front : List (Row Total)
    front = rows_of (length zs) k (take (k * width (length zs)) cells)

    is_merged : front ≡ merged totals first second
    is_merged = rows-front (length zs) k cells ∙ ap (λ (i : ℕ). rows_of i k cells) (sym e) ∙ s.1

    short : length front ≤ 1024
    short = omega (arith, s.0, rows-length (length zs) k (take (k * width (length zs)) cells))

    -- as a slice they are what the archive is written of
    pub stored : {i j : ℕ} {ws'' : List ℕ} → 11264 ≤ length cells → count_of first + count_of second ≤ 1048576 → Front (length zs) k cells i j ws'' → Written zs both i j ws''
    stored room few at =
        let l = limits-merged zs first second one other front is_merged short few in
        fronted cells (Written zs both) at
        (limits-ready l refl refl (sym (length-take-le (k * width (length zs)) cells (omega (arith, stored_small, room)))), refl, l, filed-merged zs first second one other front is_merged short few)

-- the stop that `ok_or` gave where there is none
pub stop_of : {A : Type 0} {o : Option A} {e f : Stop} → o ≡ None → Err e ≡ ok_or o f → e ≡ f
stop_of {f = f} n h = cc (h ∙ ap (λ o. ok_or o f) n)
