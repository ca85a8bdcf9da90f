-- What was read of an archive is made of words, and its sums fit 64 bits.
use mathlib.Core.Path.{subst}
use mathlib.Core.List.{List, []}
use Prim.Native.Nat.{ℕ, ◌^◌, ◌≤◌, ◌<◌}
use lib.ListN.{length}
use Rattle.lists.specs.Lists.{◌∈◌}
use Rattle.lattice.specs.Sets.{full}
use Rattle.fields_walk.specs.Limits.{Sized}
use Rattle.fields_walk.proofs.Limits.{below-coded}
use Rattle.cube.specs.declared.Total.{Total}
use Rattle.cube.specs.Measure.{Row}
use Rattle.cube.proofs.Codes.{cell_full}
use Rattle.archive_entries.specs.Layout.{Based, Held}
use Rattle.archive_entries.proofs.Written.{Words, Wide, Enters}
use Rattle.archive_entries.proofs.Walkable.{Walkable}
use Rattle.archive_entries.proofs.Entered.{entered_each}
use Rattle.archive_entries.proofs.Limits.{cell-words}

-- a row
abbrev pub RowFits : ℕ → Row Total → Type 0
RowFits d r = Words d r.codes × Wide r.total

-- a base entry
pub record BaseFits (d : ℕ) (b : Based) : Type 0 where
  pub row : RowFits d b.row
  pub short : length b.list ≤ 70
  pub sets : (s : ℕ) → s ∈ b.list → s < 2 ^ 32

-- the codes of a base entry are the cell of the full set
enters_fits : {zs x : List ℕ} {before : ℕ} {b : Based} → Sized zs → Enters zs x before b → BaseFits (length zs) b
enters_fits {zs} {b = b} s e =
    let d = length zs in
    let y = b.row.codes in
    let k = below-coded zs y (λ z m. (s.each z m).1) e.below in
    record { row = (subst (Words d) (cell_full d y k) (cell-words d (full d) y k), e.wide); short = e.short; sets = e.sets }

pub walkable_fits : {a : Held} → Walkable a → (b : Based) → b ∈ a.bases → BaseFits (length a.sizes) b
walkable_fits {a} w b m = enters_fits w.sized (entered_each a.sizes [] 0 a.bases w.entered m).2
