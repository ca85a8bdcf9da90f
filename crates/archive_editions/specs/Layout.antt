-- An archive as bytes (document 01, "Bytes of the two files"), of any format.
--
--   sums_in rows        rows with their sums and counts alone
--   Based               a base entry: a base row and its list of nodes
--   Held                what an archive's fields hold: the header, the base entries, and the words of each normal entry
--   total_front k f     a total: sum, low word first, count, and k words of its extremes
--   cell_words k r      a normal entry or a listed cell: codes or ALL, and its total
--   base_bytes k b      a base entry: codes, total, list count, list
--   sets_in bs          how many nodes base entries list
--   based L rows r      our base entry of a row
--   layout F a          the file: header, base count, base entries, normal count, normal entries, check word
--   required F h rows   what an archive of this header and these base rows holds: our entries
--   archive_bytes F h rows    the archive of this header and these base rows
--   Fair F h r          a base row: codes below the sizes, a count, a sum that so many readings can make, and extremes that the edition can tell of them
--   Limits F h rows     the limits of documents 01 and 02 on a header and base rows
use Rattle.std.specs.Prelude.{◌≡◌, true, ℕ, ◌+◌, ◌≤◌, length, take}
use mathlib.Core.List.{List, [], ◌∷◌, ◌++◌, map}
use Rattle.lists.specs.Lists.{◌∈◌}
use Rattle.lists.specs.Order.{Rising, earlier}
use Rattle.fields.specs.Words.{word_bytes, words_bytes}
use Rattle.fields_sums.specs.Twos.{low_of, high_of}
use Rattle.fields_check.specs.Check.{checked}
use Rattle.fields_walk.specs.Limits.{Below}
use Rattle.cube.specs.declared.Total.{Total}
use Rattle.cube.specs.declared.Figures.{Figures}
use Rattle.cube.specs.Measure.{Row, codes_of, carried}
use Rattle.cube.specs.Extremes.{figures}
use Rattle.cube.specs.Bounds.{most, can_make, count_of}
use Rattle.cube.specs.Lattice.{Lattice}
use Rattle.cube.specs.Cube.{filled}
use Rattle.cube.specs.Condensed.{listed, normals}
use Rattle.archive_entries.specs.Layout.{section}
use Rattle.archive_editions.specs.Edition.{extreme_words, Kept}
use Rattle.archive_editions.specs.Format.{Format, Headed}

abbrev pub sums_in : List (Row Figures) → List (Row Total)
sums_in rows = map (carried (λ f. f.sums)) rows

pub record Based : Type 0 where
  pub row : Row Figures
  pub list : List ℕ

pub record Held (H : Type 0) : Type 0 where
  pub header : H
  pub bases : List Based
  pub cells : List (List ℕ)

abbrev pub total_front : ℕ → Figures → List ℕ
total_front k f = low_of f.sums.sum ∷ high_of f.sums.sum ∷ f.sums.count ∷ take k (extreme_words f.extremes)

abbrev pub cell_words : ℕ → Row Figures → List ℕ
cell_words k r = r.codes ++ total_front k r.total

unfoldable pub base_bytes : ℕ → Based → List ℕ
base_bytes k b = words_bytes (cell_words k b.row) ++ (word_bytes (length b.list) ++ words_bytes b.list)

abbrev pub sets_in : List Based → ℕ
sets_in [] = 0
sets_in (b ∷ bs) = length b.list + sets_in bs

-- our base entry of a row: the row with our list
abbrev pub based : Lattice → List (Row Figures) → Row Figures → Based
based L rows r = record { row = r; list = listed L (codes_of rows) r.codes }

-- our normal entry of a cell
abbrev pub celled : Lattice → ℕ → List (Row Figures) → List ℕ → List ℕ
celled L k rows c = cell_words k (filled L figures rows c)

module _ {H : Type 0} (F : Format H) where
  unfoldable pub layout : Held H → List ℕ
  layout a = checked (F.head_bytes a.header ++ (section (base_bytes F.edition.extra) a.bases ++ section words_bytes a.cells))

  unfoldable pub required : H → List (Row Figures) → Held H
  required h rows = record {
    header = h;
    bases = map (based (F.lattice h) rows) rows;
    cells = map (celled (F.lattice h) F.edition.extra rows) (normals (F.lattice h) (codes_of rows));
  }

  unfoldable pub archive_bytes : H → List (Row Figures) → List ℕ
  archive_bytes h rows = layout (required h rows)

  pub record Fair (h : H) (r : Row Figures) : Type 0 where
    pub below : Below (F.sizes h) r.codes
    pub counted : 1 ≤ r.total.sums.count
    pub made : can_make r.total.sums.count r.total.sums.sum ≡ true
    pub kept : Kept F.edition r.total.sums r.total.extremes

  pub record Limits (h : H) (rows : List (Row Figures)) : Type 0 where
    pub headed : Headed F h
    pub few : length rows ≤ 1024
    pub rising : Rising earlier (codes_of rows)
    pub each : (r : Row Figures) → r ∈ rows → Fair h r
    pub counts : count_of (sums_in rows) ≤ most
