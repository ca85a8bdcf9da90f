-- What the calls on keys answer for an archive that is accepted.
use mathlib.Core.Path.{◌≡◌, sym, ap, ◌∙◌}
use mathlib.Core.Bool.{Bool, and-false}
use mathlib.Core.List.{List}
use Prim.Native.Nat.{ℕ, ◌^◌, ◌≤◌, ◌<◌}
use native.Mathlib.Omega.{arith}
use lib.Dec.{leb}
use borrow.Author.Tests.{lt-ltb, le-ltb, le-leb, lt-leb}
use Rattle.std.specs.Prelude.{Ok, Err}
use Rattle.cube.specs.Measure.{codes_of}
use Rattle.cube.specs.Codes.{plain}
use Rattle.cube.specs.Keys.{least_keys, fixes, dimension}
use Rattle.rows.specs.Rows.{cut}
use Rattle.rows.proofs.Rows.{rows-codes}
use Rattle.archive_entries.specs.Reading.{rows_in}
use Rattle.archive_cells.specs.ListBytes.{list_bytes}
use Rattle.call_answers.specs.Answers.{bytes}
use Rattle.call_answers.specs.Keys.{lists_keys, tells_fixed}
use Rattle.call_answers.proofs.Opened.{Opened}

module _ {s : List ℕ} {d n m : ℕ} {ws : List ℕ} (o : Opened s d n m ws) where
  codes_in : cut d n ws ≡ codes_of (rows_in o.held)
  codes_in = sym (rows-codes d n ws) ∙ ap codes_of o.rows

  pub keys-bytes : lists_keys s ≡ bytes (list_bytes (least_keys (plain d) (cut d n ws)))
  unfolding lists_keys
  keys-bytes = rw (o.read, o.dims) (ap (λ (l : List (List ℕ)). bytes (list_bytes (least_keys (plain d) l))) (sym codes_in))

  module _ {set : ℕ} where
    pub fixes_no_set : (i : ℕ) → 2 ^ d ≤ set → Err 14 ≡ tells_fixed s set i
    unfolding tells_fixed
    fixes_no_set i h = rw (o.read, o.dims, le-ltb set (2 ^ d) h)

    module _ {i : ℕ} (h : set < 2 ^ d) where
      pub fixes_zero : i ≡ 0 → Err 16 ≡ tells_fixed s set i
      unfolding tells_fixed
      fixes_zero e = rw (o.read, o.dims, lt-ltb set (2 ^ d) h, lt-leb 1 i (omega (arith, e)))

      pub fixes-high : d < i → Err 16 ≡ tells_fixed s set i
      unfolding tells_fixed
      fixes-high g = rw (o.read, o.dims, lt-ltb set (2 ^ d) h, lt-leb i d g, and-false (leb 1 i))

      pub fixes-told : (i ≡ 0 → ⊥) → i ≤ d → {b : Bool} → b ≡ fixes (plain d) (cut d n ws) set (dimension i) → Ok b ≡ tells_fixed s set i
      unfolding tells_fixed
      fixes-told e g q = rw (o.read, o.dims, lt-ltb set (2 ^ d) h, le-leb 1 i (omega (arith, e)), le-leb i d g)
          (ap Ok (q ∙ ap (λ (l : List (List ℕ)). fixes (plain d) l set (dimension i)) codes_in))
