-- The sections from a place on: where the header has a stop, where it was read, and where the bytes end before the place.
use mathlib.Core.Path.{◌≡◌, refl, ap, ◌∙◌}
use mathlib.Core.List.{List, []}
use Prim.Native.Nat.{ℕ, ◌<◌}
use native.Mathlib.Omega.{arith}
use lib.ListN.{length, drop, drop_of_length-le}
use Rattle.fields_walk.specs.Parsed.{Parsed, stop, got}
use Rattle.fields_walk.specs.Fields.{room, word, field, header, close}
use Rattle.fields_walk.proofs.Steps.{then_on, then_off}
use Rattle.archive_entries.specs.Layout.{CUBE}
use Rattle.archive_entries.specs.Reading.{bases, cells}
use Rattle.archive_sections.specs.Sections.{bases_from, cells_from}

module _ {A : Type 0} (f : List ℕ → Parsed A) {n : ℕ} (e : f [] ≡ stop n) (s : List ℕ) (at : ℕ) where
  past : length s < at → f (drop at s) ≡ stop n
  past h = ap f (drop_of_length-le s {i = at} (omega arith)) ∙ e

pub header_past : (s : List ℕ) (at : ℕ) → length s < at → header CUBE (drop at s) ≡ stop 1
unfolding header
header_past = past (header CUBE) refl

pub close_past : (s : List ℕ) (at : ℕ) → length s < at → close s (drop at s) ≡ stop 2
unfolding close word room
close_past s = past (close s) refl s

module _ (s : List ℕ) (at : ℕ) where
  pub bases-off : {n : ℕ} → header CUBE s ≡ stop n → bases_from s at ≡ stop n
  unfolding bases_from
  bases-off e = then_off (λ zs rest. bases zs (drop at s)) e

  pub cells-off : {n : ℕ} → header CUBE s ≡ stop n → cells_from s at ≡ stop n
  unfolding cells_from
  cells-off e = then_off (λ zs rest. cells (length zs) (drop at s)) e

  module _ {zs rest : List ℕ} (e : header CUBE s ≡ got zs rest) where
    pub bases_on : bases_from s at ≡ bases zs (drop at s)
    unfolding bases_from
    bases_on = then_on (λ zs rest. bases zs (drop at s)) e

    pub cells_on : cells_from s at ≡ cells (length zs) (drop at s)
    unfolding cells_from
    cells_on = then_on (λ zs rest. cells (length zs) (drop at s)) e

    pub bases_past : length s < at → bases_from s at ≡ stop 2
    unfolding bases field word room
    bases_past h = bases_on ∙ past (bases zs) refl s at h

    pub cells_past : length s < at → cells_from s at ≡ stop 2
    unfolding cells word room
    cells_past h = cells_on ∙ past (cells (length zs)) refl s at h
