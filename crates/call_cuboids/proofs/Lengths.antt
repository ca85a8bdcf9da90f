-- The length of a cuboid, and of the expansion by its sets.
use mathlib.Core.Path.{◌≡◌, refl, sym, ap, ◌∙◌}
use mathlib.Core.List.Memᴰ
use mathlib.Core.List.{List, [], ◌∷◌, ◌++◌, flat_map, append-nil}
use Prim.Native.Nat.{ℕ, zero, suc, ◌+◌, ◌*◌, ◌^◌, ◌≤◌}
use native.Mathlib.Omega.{arith}
use lib.Dec.{eqb}
use borrow.Author.Tests.{ne_eqb}
use lib.ListN.{length, length-append, replicate, length-replicate}
use Rattle.lists.specs.Lists.{◌∈◌, keep}
use Rattle.lists.proofs.Tests.{cases}
use Rattle.lists.proofs.Members.{keep_in}
use Rattle.lattice.proofs.Turns.{from_start}
use Rattle.fields.specs.Words.{word_bytes}
use Rattle.cube.specs.declared.Total.{Total}
use Rattle.cube.specs.Measure.{nothing, Row, sums, codes_of}
use Rattle.cube.specs.Codes.{ALL, cell, set-of, plain}
use Rattle.cube.specs.Cube.{blank, existing, total, cells}
use Rattle.cube.specs.Table.{Table}
use Rattle.cube.proofs.Codes.{set-whole}
use Rattle.cube.proofs.Existing.{blank-whole, existing-none}
use Rattle.cube.proofs.Complete.{cuboid-wide, cells_in}
use Rattle.rows.specs.Rows.{rows_of}
use Rattle.fields_walk.proofs.Lengths.{length-flat}
use Rattle.archive_entries.specs.Layout.{cell_bytes}
use Rattle.archive_entries.proofs.Lengths.{cell-length}
use Rattle.archive_cells.proofs.Turns.{turns}
use Rattle.call_cuboids.specs.Cuboids.{cuboid_bytes, expansion_bytes}

existing-wide : (d : ℕ) (rows : List (Row Total)) (s : ℕ) → Table d rows → {c : List ℕ} → c ∈ existing (plain d) (codes_of rows) s → length c ≡ d
unfolding existing
existing-wide d rows s t m = cases (Memᴰ.append_cases (keep (λ c. eqb (set-of c) s) (blank (plain d) (codes_of rows))) m)
    (λ i. ap length (blank-whole (plain d) (codes_of rows) (keep_in (λ c. eqb (set-of c) s) (blank (plain d) (codes_of rows)) i).0) ∙ length-replicate d ALL)
    (cuboid-wide d rows t s)

cell-wide : (d : ℕ) (rows : List (Row Total)) (s : ℕ) → Table d rows → (r : Row Total) → r ∈ cells (plain d) sums rows s → length r.codes ≡ d
cell-wide d rows s t r m = existing-wide d rows s t (cells_in (plain d) sums rows s m).0

pub cuboid-length : (d : ℕ) (rows : List (Row Total)) (s : ℕ) → Table d rows → length (cuboid_bytes d rows s) ≡ 4 + length (cells (plain d) sums rows s) * (4 * d + 12)
unfolding cuboid_bytes
cuboid-length d rows s t =
    let cs = cells (plain d) sums rows s in
    omega (arith, length-append (word_bytes (length cs)) (flat_map cell_bytes cs), length-flat cell_bytes (4 * d + 12) cs (λ r m. cell-length d r (cell-wide d rows s t r m)))

-- the cell of an empty table is all ALL, at the empty set
cell-whole : (x : List ℕ) → cell 0 x ≡ replicate (length x) ALL
cell-whole [] = refl
cell-whole (a ∷ x) = ap (λ (l : List ℕ). ALL ∷ l) (cell-whole x)

blank_there : (d : ℕ) → cells (plain d) sums [] 0 ≡ record { codes = replicate d ALL; total = nothing } ∷ []
unfolding cells total
blank_there d = rw (existing-none (plain d) 0, set-whole d)

pub blank-bytes : (d : ℕ) → flat_map cell_bytes (cells (plain d) sums [] 0) ≡ cell_bytes (record { codes = replicate d ALL; total = nothing })
unfolding flat_map
blank-bytes d = ap (flat_map cell_bytes) (blank_there d) ∙ append-nil (cell_bytes (record { codes = replicate d ALL; total = nothing }))

pub blank-length : (d : ℕ) → length (flat_map cell_bytes (cells (plain d) sums [] 0)) ≡ 4 * d + 12
blank-length d = ap length (blank-bytes d) ∙ cell-length d (record { codes = replicate d ALL; total = nothing }) (length-replicate d ALL)

pub blank-here : (d : ℕ) (x : List ℕ) → length x ≡ d → record { codes = cell 0 x; total = nothing } ∷ [] ≡ cells (plain d) sums [] 0
blank-here d x e = ap (λ (c : List ℕ). record { codes = c; total = nothing } ∷ []) (cell-whole x ∙ ap (λ (n : ℕ). replicate n ALL) e) ∙ sym (blank_there d)

pub blank_elsewhere : (d s : ℕ) → (s ≡ 0 → ⊥) → [] ≡ cells (plain d) sums [] s
unfolding cells
blank_elsewhere d s n = rw (existing-none (plain d) s, set-whole d, ne_eqb 0 s (λ e. n (sym e)))

-- put as row 0, it is all there is
pub blank_put : (d s : ℕ) (x ws ws₀ : List ℕ) (u : Total) → d ≡ length x → s ≡ 0 → u ≡ nothing
    → rows_of (length x) (0 + 1) ws ≡ rows_of (length x) 0 ws₀ ++ record { codes = cell 0 x; total = u } ∷ [] → rows_of d 1 ws ≡ cells (plain d) sums [] s
unfolding rows_of
blank_put d s x ws ws₀ u e z n f =
    ap (λ (k : ℕ). rows_of k 1 ws) e ∙ f ∙ ap (λ (v : Total). record { codes = cell 0 x; total = v } ∷ []) n
    ∙ blank-here d x (sym e) ∙ ap (cells (plain d) sums []) (sym z)

pub no_rows : (d n : ℕ) (ws : List ℕ) → n ≡ 0 → rows_of d n ws ≡ []
unfolding rows_of
no_rows d zero ws e = refl
no_rows d (suc n) ws e = absurd (omega arith)

-- at the start all cuboids have their turn
pub turns_start : (d : ℕ) (rows : List (Row Total)) → d ≤ 8 → turns (cuboid_bytes d rows) (2 ^ d) 0 ≡ expansion_bytes d rows
unfolding expansion_bytes turns
turns_start d rows h = ap (flat_map (cuboid_bytes d rows)) (from_start d h)
