-- The length of an archive: its header, base count, base entries with their lists, normal count, normal entries, check word.
use mathlib.Core.Path.{◌≡◌, refl}
use mathlib.Core.List.{List, [], ◌∷◌, ◌++◌, map, flat_map}
use Prim.Native.Nat.{ℕ, ◌+◌, ◌*◌}
use native.Mathlib.Nat.{suc-mul}
use native.Mathlib.Omega.{arith}
use lib.ListN.{length, length-append, length-map}
use Rattle.fields.specs.Words.{word_bytes, words_bytes}
use Rattle.fields.specs.WordsLaws.{length_words_bytes}
use Rattle.fields_check.specs.Check.{check_of}
use Rattle.fields_walk.proofs.Lengths.{length-flat, length-header, length-below}
use Rattle.cube.specs.declared.Figures.{Figures}
use Rattle.cube.specs.Measure.{Row, codes_of}
use Rattle.cube.specs.Codes.{plain}
use Rattle.cube.specs.Condensed.{listed, normals}
use Rattle.archive_entries.specs.Layout.{CUBE, section}
use Rattle.archive_editions.specs.Edition.{Edition}
use Rattle.archive_editions.specs.Format.{Format, CUB2, one, two}
use Rattle.archive_editions.specs.Layout.{Based, Held, total_front, cell_words, base_bytes, sets_in, layout, based, celled, required, archive_bytes, Limits}
use Rattle.archive_editions.proofs.Editions.{Tells, words-wide}
use Rattle.archive_editions.proofs.Formats.{Lawful, one_lawful, two_lawful}
use Rattle.archive_editions.proofs.Written.{Entered}
use Rattle.archive_editions.proofs.Walkable.{Walkable}
use Rattle.archive_editions.proofs.Limits.{limits_walkable}

-- our base entries list the nodes of our lists
pub nodes-listed : {H : Type 0} (F : Format H) (h : H) (rows rs : List (Row Figures)) → sets_in (map (based (F.lattice h) rows) rs) ≡ length (flat_map (listed (F.lattice h) (codes_of rows)) (codes_of rs))
unfolding flat_map
nodes-listed F h rows [] = refl
nodes-listed F h rows (r ∷ rs) =
    let l = listed (F.lattice h) (codes_of rows) in
    omega (arith, nodes-listed F h rows rs, length-append (l r.codes) (flat_map l (codes_of rs)))

module _ (E : Edition) (tells : Tells E) where
  pub cell-length : (d : ℕ) (r : Row Figures) → length r.codes ≡ d → length (words_bytes (cell_words E.extra r)) ≡ 4 * (d + 3 + E.extra)
  cell-length d r h =
      omega (arith, length_words_bytes (cell_words E.extra r), length-append r.codes (total_front E.extra r.total), words-wide E tells r.total.extremes, h)

  pub base-length : (d : ℕ) (b : Based) → length b.row.codes ≡ d → length (base_bytes E.extra b) ≡ 4 * (d + 3 + E.extra) + 4 + 4 * length b.list
  unfolding base_bytes
  base-length d b h =
      omega (arith, length-append (words_bytes (cell_words E.extra b.row)) (word_bytes (length b.list) ++ words_bytes b.list), length_words_bytes b.list, cell-length d b.row h)

module _ {H : Type 0} (F : Format H) (lawful : Lawful F) where
  bases-length : (zs x : List ℕ) (before : ℕ) (bs : List Based) → Entered F zs x before bs
      → length (flat_map (base_bytes F.edition.extra) bs) ≡ length bs * (4 * (length zs + 3 + F.edition.extra) + 4) + 4 * sets_in bs
  unfolding flat_map
  bases-length zs x before [] e = omega arith
  bases-length zs x before (b ∷ bs) e =
      let w = 4 * (length zs + 3 + F.edition.extra) + 4 in
      let r = bases-length zs b.row.codes (before + b.row.total.sums.count) bs e.1 in
      let f = base-length F.edition lawful.tells (length zs) b (length-below zs b.row.codes e.0.below) in
      omega (arith, length-append (base_bytes F.edition.extra b) (flat_map (base_bytes F.edition.extra) bs), r, f, suc-mul (length bs) w)

  layout-length : (a : Held H) → Walkable F a → length (layout F a)
      ≡ length (F.head_bytes a.header) + 12 + (length a.bases * (4 * (length (F.sizes a.header) + 3 + F.edition.extra) + 4) + 4 * sets_in a.bases)
      + length a.cells * (4 * (F.width a.header + 3 + F.edition.extra))
  unfolding layout
  layout-length a w =
      let front = F.head_bytes a.header in
      let bases = section (base_bytes F.edition.extra) a.bases in
      let cells = section words_bytes a.cells in
      let body = front ++ (bases ++ cells) in
      let e = bases-length (F.sizes a.header) [] 0 a.bases w.entered in
      let f = length-flat words_bytes (4 * (F.width a.header + 3 + F.edition.extra)) a.cells
      (λ c m. omega (arith, length_words_bytes c, (w.each c m).0)) in
      omega (arith, length-append body (word_bytes (check_of body)), length-append front (bases ++ cells), length-append bases cells, e, f)

  -- The length of an archive is a sum of widths, whatever extremes its rows have.
  pub archive_length : (h : H) (rows : List (Row Figures)) → Limits F h rows → length (archive_bytes F h rows)
      ≡ length (F.head_bytes h) + 12 + (length rows * (4 * (length (F.sizes h) + 3 + F.edition.extra) + 4) + 4 * sets_in (required F h rows).bases)
      + length (normals (F.lattice h) (codes_of rows)) * (4 * (F.width h + 3 + F.edition.extra))
  unfolding archive_bytes required
  archive_length h rows l =
      let e = layout-length (required F h rows) (limits_walkable F lawful h rows l) in
      let b = length-map rows (based (F.lattice h) rows) in
      let c = length-map (normals (F.lattice h) (codes_of rows)) (celled (F.lattice h) F.edition.extra rows) in
      rw (b, c) at e

-- over the sets of dimensions, in either edition
pub one_length : (zs : List ℕ) (rows : List (Row Figures)) → Limits one zs rows → length (archive_bytes one zs rows)
    ≡ 20 + 4 * length zs + (length rows * (4 * length zs + 16) + 4 * sets_in (required one zs rows).bases) + length (normals (plain (length zs)) (codes_of rows)) * (4 * length zs + 12)
one_length zs rows l =
    let d : 4 * (length zs + 3 + 0) ≡ 4 * length zs + 12 = omega arith in
    let e : 4 * (length zs + 3 + 0) + 4 ≡ 4 * length zs + 16 = omega arith in
    let f = rw (e, d) at (archive_length one one_lawful zs rows l) in
    omega (arith, f, length-header CUBE zs)

pub two_length : (zs : List ℕ) (rows : List (Row Figures)) → Limits two zs rows → length (archive_bytes two zs rows)
    ≡ 20 + 4 * length zs + (length rows * (4 * length zs + 28) + 4 * sets_in (required two zs rows).bases) + length (normals (plain (length zs)) (codes_of rows)) * (4 * length zs + 24)
two_length zs rows l =
    let d : 4 * (length zs + 3 + 3) ≡ 4 * length zs + 24 = omega arith in
    let e : 4 * (length zs + 3 + 3) + 4 ≡ 4 * length zs + 28 = omega arith in
    let f = rw (e, d) at (archive_length two two_lawful zs rows l) in
    omega (arith, f, length-header CUB2 zs)
