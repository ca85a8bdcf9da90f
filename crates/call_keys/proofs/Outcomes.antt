-- What the calls answer for an archive that is refused, and what the code knows of one that is accepted.
use mathlib.Core.Path.{◌≡◌, subst}
use mathlib.Core.List.{List}
use Prim.Native.Nat.{ℕ, ◌*◌}
use lib.ListN.{take}
use Rattle.std.specs.Prelude.{Err}
use Rattle.rows.specs.Rows.{width}
use Rattle.fields_walk.specs.Parsed.{Parsed}
use Rattle.archive_entries.specs.Layout.{Held}
use Rattle.archive_entries.specs.Reading.{read_archive, archive_answer}
use Rattle.rows_ready.proofs.Ready.{ready-base}
use Rattle.archive_read.specs.Sharing.{Sharing, Shares}
use Rattle.call_answers.specs.Answers.{stop as stopped}
use Rattle.call_answers.specs.Keys.{lists_keys, tells_fixed}
use Rattle.call_answers.proofs.Opened.{Opened}
use Rattle.call_ask.proofs.Outcomes.{refused}
use Rattle.call_keys.specs.Laid.{Laid}

-- ---- refused

module _ (s : List ℕ) {k : ℕ} (e : archive_answer (read_archive s) ≡ Err k) where
  pub keys-refused : lists_keys s ≡ stopped k
  unfolding lists_keys
  keys-refused = rw (refused s e)

  pub fixes-refused : (set i : ℕ) → Err k ≡ tells_fixed s set i
  unfolding tells_fixed
  fixes-refused set i = rw (refused s e)

-- ---- accepted

module _ {s : List ℕ} {d n m : ℕ} {ws : List ℕ} (o : Opened s d n m ws) where
  pub laid : Laid d n ws
  laid = record { dims = o.ready.dims; few = o.ready.few; size = o.ready.size; base = ready-base o.ready }

  -- how many of its rows share a cell
  pub shared_in : (array used : List ℕ) → ws ≡ take (n * width d) array → Shares (read_archive s) array used → Sharing d n ws used
  shared_in array used e h =
      let f = subst (λ (p : Parsed Held). Shares p array used) o.read h in
      rw (e, ← o.dims, ← o.bases) f
