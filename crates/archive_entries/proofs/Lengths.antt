-- The length of an archive: opening, D, sizes, base count, base entries with their lists, normal count, normal entries, check word.
use mathlib.Core.Path.{◌≡◌, refl}
use mathlib.Core.List.{List, [], ◌∷◌, ◌++◌, map, flat_map}
use Prim.Native.Nat.{ℕ, ◌+◌, ◌*◌}
use native.Mathlib.Nat.{suc-mul}
use native.Mathlib.Omega.{arith}
use lib.ListN.{length, length-append, length-map}
use Rattle.fields.specs.Words.{word_bytes, words_bytes}
use Rattle.fields.specs.WordsLaws.{length_words_bytes}
use Rattle.fields_sums.specs.Twos.{sum_bytes}
use Rattle.fields_check.specs.Check.{check_of}
use Rattle.fields_walk.specs.Fields.{header_bytes}
use Rattle.fields_walk.proofs.Lengths.{length-flat, length-header, length-below}
use Rattle.cube.specs.declared.Total.{Total}
use Rattle.cube.specs.Measure.{sums, Row, codes_of}
use Rattle.cube.specs.Codes.{plain}
use Rattle.cube.specs.Cube.{filled}
use Rattle.cube.specs.Condensed.{listed, normals}
use Rattle.archive_entries.specs.Layout.{CUBE, Based, Held, cell_bytes, base_bytes, section, sets_in, layout, based, required, archive_bytes, Limits}
use Rattle.archive_entries.proofs.Written.{Entered}
use Rattle.archive_entries.proofs.Walkable.{Walkable}
use Rattle.archive_entries.proofs.Limits.{limits_walkable}

pub cell-length : (d : ℕ) (r : Row Total) → length r.codes ≡ d → length (cell_bytes r) ≡ 4 * d + 12
unfolding cell_bytes
cell-length d r h =
    omega (arith, length-append (words_bytes r.codes) (sum_bytes r.total.sum ++ word_bytes r.total.count), length_words_bytes r.codes, h)

pub base-length : (d : ℕ) (b : Based) → length b.row.codes ≡ d → length (base_bytes b) ≡ 4 * d + 16 + 4 * length b.list
unfolding base_bytes
base-length d b h =
    omega (arith, length-append (cell_bytes b.row) (word_bytes (length b.list) ++ words_bytes b.list), length_words_bytes b.list, cell-length d b.row h)

-- our base entries list the sets of our lists
pub sets-listed : (d : ℕ) (rows rs : List (Row Total)) → sets_in (map (based d rows) rs) ≡ length (flat_map (listed (plain d) (codes_of rows)) (codes_of rs))
unfolding flat_map
sets-listed d rows [] = refl
sets-listed d rows (r ∷ rs) =
    let l = listed (plain d) (codes_of rows) in
    omega (arith, sets-listed d rows rs, length-append (l r.codes) (flat_map l (codes_of rs)))

bases-length : (zs x : List ℕ) (before : ℕ) (bs : List Based) → Entered zs x before bs
    → length (flat_map base_bytes bs) ≡ length bs * (4 * length zs + 16) + 4 * sets_in bs
unfolding flat_map
bases-length zs x before [] e = omega arith
bases-length zs x before (b ∷ bs) e =
    let d = length zs in
    let r = bases-length zs b.row.codes (before + b.row.total.count) bs e.1 in
    let f = base-length d b (length-below zs b.row.codes e.0.below) in
    omega (arith, length-append (base_bytes b) (flat_map base_bytes bs), r, f, suc-mul (length bs) (4 * d + 16))

layout-length : (a : Held) → Walkable a → length (layout a)
    ≡ 20 + 4 * length a.sizes + (length a.bases * (4 * length a.sizes + 16) + 4 * sets_in a.bases) + length a.cells * (4 * length a.sizes + 12)
unfolding layout
layout-length a w =
    let d = length a.sizes in
    let front = header_bytes CUBE a.sizes in
    let bases = section base_bytes a.bases in
    let cells = section cell_bytes a.cells in
    let body = front ++ (bases ++ cells) in
    let e = bases-length a.sizes [] 0 a.bases w.entered in
    let f = length-flat cell_bytes (4 * d + 12) a.cells (λ r m. cell-length d r (w.each r m).0.0) in
    omega (arith, length-append body (word_bytes (check_of body)), length-append front (bases ++ cells), length-append bases cells, length-header CUBE a.sizes, e, f)

pub archive_length : (zs : List ℕ) (rows : List (Row Total)) → Limits zs rows → length (archive_bytes zs rows)
    ≡ 20 + 4 * length zs + (length rows * (4 * length zs + 16) + 4 * sets_in (required zs rows).bases) + length (normals (plain (length zs)) (codes_of rows)) * (4 * length zs + 12)
unfolding archive_bytes required
archive_length zs rows l =
    let d = length zs in
    let e = layout-length (required zs rows) (limits_walkable zs rows l) in
    let b = length-map rows (based d rows) in
    let c = length-map (normals (plain d) (codes_of rows)) (filled (plain d) sums rows) in
    rw (b, c) at e
