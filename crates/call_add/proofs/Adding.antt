-- What the call's outcome is for an archive: its stop, or by the base rows and the record that flat lists hold.
use mathlib.Core.Path.{◌≡◌, refl, sym, ap, ap₂, subst, ◌∙◌}
use mathlib.Core.Bool.{true, false}
use mathlib.Core.List.{List, [], ◌∷◌, ◌++◌}
use Prim.Native.Nat.{ℕ, ◌+◌, ◌*◌, ◌^◌, ◌≤◌, ◌<◌}
use native.Mathlib.Omega.{arith}
use mir.Syntax.{w32, w64}
use mir.Val.{SFits, to_z, of_z}
use mir.Facts.{to_z-of_z}
use lib.IntN.{ℤ}
use lib.Signed.{mag}
use lib.ListN.{length, take}
use lib.Seq.{length-take-le}
use Rattle.std.specs.Prelude.{Result, Err}
use Rattle.stops.specs.declared.Stop.{Stop}
use Rattle.cube.specs.declared.Total.{Total}
use Rattle.cube.specs.Measure.{Row, sums}
use Rattle.cube.specs.Codes.{cell}
use Rattle.cube.proofs.Codes.{cell-wide}
use Rattle.rows.specs.Rows.{width, rows_of}
use Rattle.rows.proofs.Fronts.{Front, fronted}
use Rattle.rows_ready.proofs.Ready.{rows-front}
use Rattle.rows_merge.specs.United.{united}
use Rattle.fields.specs.Words.{words_at}
use Rattle.fields_walk.proofs.Lengths.{length-below}
use Rattle.archive_entries.specs.Reading.{read_archive, archive_answer}
use Rattle.archive_judge.proofs.Judged.{limits-ready}
use Rattle.call_answers.specs.Answers.{Outcome, stop, Answered}
use Rattle.call_answers.specs.Joins.{filed}
use Rattle.call_answers.proofs.Opened.{Opened}
use Rattle.call_ask.proofs.Outcomes.{refused}
use Rattle.call_file.specs.Stores.{Store}
use Rattle.call_add.specs.Adds.{coded, record_of, added, adds}
use Rattle.call_add.proofs.Codes.{coded-below}
use Rattle.call_add.proofs.Records.{record_limits}

pub adds-refused : (s x : List ℕ) (z : ℤ) {k : ℕ} → archive_answer (read_archive s) ≡ Err k → adds s x z ≡ stop k
unfolding adds
adds-refused s x z e = rw (refused s e)

-- a reading that is handed on stays the same
pub same-reading : {z : ℤ} → SFits w32 z → to_z w32 (of_z w32 z) ≡ z
same-reading f = to_z-of_z {w = w32} f

-- and it is the same in 64 bits
pub widened : {z y : ℤ} → SFits w32 z → y ≡ to_z w32 (of_z w32 z) → to_z w64 (of_z w64 y) ≡ z
widened f e = ap (λ (y : ℤ). to_z w64 (of_z w64 y)) (e ∙ same-reading f) ∙ to_z-of_z {w = w64} (record { sfits = omega (arith, f.sfits) })

pub answered-adds : (s x : List ℕ) {z : ℤ} → SFits w32 z → {l m : List ℕ} {r : Result ℕ Stop} → Answered (adds s x (to_z w32 (of_z w32 z))) l m r → Answered (adds s x z) l m r
answered-adds s x f {l} {m} {r} a = subst (λ (y : ℤ). Answered (adds s x y) l m r) (same-reading f) a

-- an archive's sizes and rows, as they stand in its bytes and in a flat list
pub adds_opened : {s : List ℕ} {d n m : ℕ} {ws : List ℕ} → Opened s d n m ws → (x : List ℕ) (z : ℤ) → adds s x z ≡ added (words_at s d 8) (rows_of d n ws) x z
unfolding adds
adds_opened {s} o x z = rw o.read (ap₂ (λ (zs : List ℕ) (rows : List (Row Total)). added zs rows x z) o.sizes (sym o.rows))

pub added_stopped : (zs : List ℕ) (rows : List (Row Total)) (x : List ℕ) (z : ℤ) → false ≡ coded zs x → added zs rows x z ≡ stop 13
unfolding added
added_stopped zs rows x z h = rw (← h)

-- a slice of one record, with which an outcome is the archive of rows as one
abbrev pub Joined : List ℕ → List (Row Total) → Outcome → ℕ → ℕ → List ℕ → Type 0
Joined zs rows o d n ws = Store zs n ws × (d ≡ length zs) × (o ≡ filed zs (united sums (length zs) rows (rows_of d n ws)))

module _ {zs : List ℕ} {n : ℕ} {ws : List ℕ} (p : Store zs n ws) (x : List ℕ) (z : ℤ) (m : mag z < 2 ^ 31) (k : true ≡ coded zs x) where
  wide : length x ≡ length zs
  wide = length-below zs x (coded-below zs x (sym k))

  pub record_small : length x ≤ 8
  record_small = omega (arith, wide, p.ready.dims)

  -- the record, written as the first row of a list
  module _ (before late : List ℕ) {y : ℤ} (room : 11 ≤ length late) (r : y ≡ z)
      (e : rows_of (length x) (0 + 1) late ≡ rows_of (length x) 0 before ++ record { codes = cell 255 x; total = record { sum = y; count = 1 } } ∷ []) where
    abbrev front : List ℕ
    front = take (1 * width (length x)) late

    front_long : 1 * width (length zs) ≡ length front
    front_long = omega (arith, wide, length-take-le (1 * width (length x)) late (omega (arith, record_small, room)))

    holds_record : rows_of (length x) 1 front ≡ record_of x z ∷ []
    unfolding rows_of
    holds_record = rows-front (length x) 1 late ∙ e ∙ ap₂ (λ (c : List ℕ) (y : ℤ). record { codes = c; total = record { sum = y; count = 1 } } ∷ []) (cell-wide 8 x record_small) r

    record_store : Store zs 1 front
    record_store =
        let l = record_limits zs x z m p.limits.sized (sym k) in
        let held = ap (λ (d : ℕ). rows_of d 1 front) (sym wide) ∙ holds_record in
        record { ready = limits-ready l held refl front_long; limits = rw held l }

    added-filed : (rows : List (Row Total)) → added zs rows x z ≡ filed zs (united sums (length zs) rows (rows_of (length x) 1 front))
    unfolding added
    added-filed rows = rw (← k) (ap (λ (l : List (Row Total)). filed zs (united sums (length zs) rows l)) (sym holds_record))

    -- as a slice it is what is united with the base rows
    pub record_stored : {i j : ℕ} {w : List ℕ} (rows : List (Row Total)) → Front (length x) 1 late i j w → Joined zs rows (added zs rows x z) i j w
    record_stored rows at = fronted late (Joined zs rows (added zs rows x z)) at (record_store, wide, added-filed rows)
