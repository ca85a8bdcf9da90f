-- Parts written set by set, in a loop over the 256 sets in lattice order, of which those below a bound have a turn.
use mathlib.Core.Path.{◌≡◌, ap, subst, ◌∙◌}
use mathlib.Core.List.{List, [], ◌++◌, flat_map}
use Prim.Native.Nat.{ℕ, ◌+◌, ◌-◌, ◌≤◌, ◌<◌}
use lib.ListN.{length, get_or, length-append}
use borrow.Rule.Slice.PartMut.{mid_of, put_mid}
use Rattle.lattice.specs.Sets.{sets, sets_from}
use Rattle.lattice.proofs.Turns.{from_on, from-off, from-done}
use Rattle.fields.specs.Written.{Wrote}
use Rattle.archive_cells.specs.Writing.{Writing}
use Rattle.archive_cells.specs.WritingLaws.{writing_more, writing_room, writing_done}

module _ (f : ℕ → List ℕ) (m : ℕ) where
  -- the parts of the sets from place k on
  unfoldable pub turns : ℕ → List ℕ
  turns k = flat_map f (sets_from m k)

  pub turns_none : (k : ℕ) → 256 ≤ k → turns k ≡ []
  unfolding turns flat_map
  turns_none k h = rw (from-done m k h)

  module _ {s k : ℕ} (h : k < 256) (e : s ≡ get_or (sets 8) k 0) where
    pub turns_next : s < m → turns k ≡ f s ++ turns (k + 1)
    unfolding turns flat_map
    turns_next l = rw (from_on m k h (rw e at l), e)

    pub turns_past : m ≤ s → turns k ≡ turns (k + 1)
    unfolding turns
    turns_past l = ap (flat_map f) (from-off m k h (rw e at l))

    -- one part more
    pub turns_length : s < m → length (turns k) ≡ length (f s) + length (turns (k + 1))
    turns_length l = ap length (turns_next l) ∙ length-append (f s) (turns (k + 1))

    pub turns_skipped : m ≤ s → length (turns k) ≡ length (turns (k + 1))
    turns_skipped l = ap length (turns_past l)

    module _ {all l out : List ℕ} {at : ℕ} (w : Writing all (turns k) l out at) where
      pub write_skip : m ≤ s → Writing all (turns (k + 1)) l out at
      write_skip p = subst (λ (x : List ℕ). Writing all x l out at) (turns_past p) w

      next : s < m → Writing all (f s ++ turns (k + 1)) l out at
      next p = subst (λ (x : List ℕ). Writing all x l out at) (turns_next p) w

      pub write_room : s < m → length all ≤ length l → at + length (f s) ≤ length out
      write_room p = writing_room (f s) (turns (k + 1)) (next p)

      pub write_more : {r : List ℕ} {j : ℕ} → s < m → Wrote (f s) (mid_of at (length out - at) out) r j → Writing all (turns (k + 1)) l (put_mid at (length out - at) out r) (at + j)
      write_more p = writing_more (f s) (turns (k + 1)) (next p)

  pub turns_over : {k : ℕ} → 256 ≤ k → length (turns k) ≡ 0
  turns_over {k} h = ap length (turns_none k h)

  pub write_done : {all l out : List ℕ} {at k : ℕ} → Writing all (turns k) l out at → 256 ≤ k → Wrote all l out at
  write_done {all} {l} {out} {at} {k} w h = writing_done (subst (λ (x : List ℕ). Writing all x l out at) (turns_none k h) w)
