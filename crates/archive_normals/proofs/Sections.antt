-- The normal entries are those of the sets one after the other, and how long they are.
use mathlib.Core.Path.{◌≡◌, refl, sym, ap, ◌∙◌}
use mathlib.Core.List.{List, [], ◌∷◌, ◌++◌, map, flat_map, map-append, append-nil}
use Prim.Native.Nat.{ℕ, zero, suc, ◌+◌, ◌*◌, ◌≤◌}
use native.Mathlib.Omega.{arith}
use lib.ListN.{length, replicate, length-replicate}
use Rattle.lists.proofs.Members.{flat_append}
use Rattle.lattice.specs.Sets.{full}
use Rattle.lattice.proofs.Turns.{from-full}
use Rattle.cube.specs.declared.Total.{Total}
use Rattle.cube.specs.Measure.{nothing, Row, sums as measure, codes_of}
use Rattle.cube.specs.Codes.{ALL, plain}
use Rattle.cube.specs.Cube.{blank, filled}
use Rattle.cube.specs.Condensed.{proper, shared, common, normals}
use Rattle.archive_entries.specs.Layout.{cell_bytes}
use Rattle.archive_entries.proofs.Lengths.{cell-length}
use Rattle.rows_ready.proofs.Blank.{blank-rows}
use Rattle.rows_condense.specs.Shared.{shared_rows, normal_rows}
use Rattle.archive_cells.proofs.Turns.{turns}
use Rattle.archive_normals.specs.Normals.{shared_bytes, common_bytes, blank_bytes, normal_bytes}

-- ---- set by set

sets-flat : (d : ℕ) (rows : List (Row Total)) (ss : List ℕ)
    → flat_map cell_bytes (map (filled (plain d) measure rows) (flat_map (shared (plain d) (codes_of rows)) ss)) ≡ flat_map (shared_bytes d rows) ss
unfolding flat_map shared_bytes shared_rows
sets-flat d rows [] = refl
sets-flat d rows (s ∷ ss) =
    let cells = shared (plain d) (codes_of rows) in
    let fill = filled (plain d) measure rows in
    ap (flat_map cell_bytes) (map-append fill (cells s) (flat_map cells ss))
    ∙ flat_append cell_bytes (map fill (cells s)) (map fill (flat_map cells ss))
    ∙ ap (λ (k : List ℕ). flat_map cell_bytes (map fill (cells s)) ++ k) (sets-flat d rows ss)

pub turns_start : (d : ℕ) (rows : List (Row Total)) → d ≤ 8 → turns (shared_bytes d rows) (full d) 0 ≡ common_bytes d rows
unfolding turns common_bytes common proper
turns_start d rows h = ap (flat_map (shared_bytes d rows)) (from-full d h) ∙ sym (sets-flat d rows (proper (plain d)))

-- the normal entries: that of an empty table, then those of the sets
pub normal-parts : (d : ℕ) (rows : List (Row Total)) → blank_bytes d (length rows) ++ common_bytes d rows ≡ normal_bytes d rows
unfolding blank_bytes common_bytes normal_bytes normal_rows normals
normal-parts d rows =
    let fill = filled (plain d) measure rows in
    ap (λ (l : List (Row Total)). flat_map cell_bytes l ++ flat_map cell_bytes (map fill (common (plain d) (codes_of rows)))) (sym (blank-rows d rows))
    ∙ sym (flat_append cell_bytes (map fill (blank (plain d) (codes_of rows))) (map fill (common (plain d) (codes_of rows))))
    ∙ ap (flat_map cell_bytes) (sym (map-append fill (blank (plain d) (codes_of rows)) (common (plain d) (codes_of rows))))

-- ---- the entry of an empty table

pub blank_long : (d n : ℕ) → n ≡ 0 → length (blank_bytes d n) ≡ 4 * d + 12
unfolding blank_bytes flat_map
blank_long d zero e = simp append-nil (omega (arith, cell-length d (record { codes = replicate d ALL; total = nothing }) (length-replicate d ALL)))
blank_long d (suc n) e = absurd (omega (arith, e))

-- where there are rows it has none
pub blank_none : (d n : ℕ) → (n ≡ 0 → ⊥) → blank_bytes d n ≡ []
unfolding blank_bytes flat_map
blank_none d zero h = absurd (h refl)
blank_none d (suc n) h = refl

pub blank-one : (d n : ℕ) → n ≡ 0 → cell_bytes (record { codes = replicate d ALL; total = nothing }) ≡ blank_bytes d n
unfolding blank_bytes flat_map
blank-one d zero e = sym (append-nil (cell_bytes (record { codes = replicate d ALL; total = nothing })))
blank-one d (suc n) e = absurd (omega (arith, e))
