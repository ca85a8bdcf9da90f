-- What the kinds of archive differ in: one layout and one reading serve them all. H is what a header tells.
--
--   Format H            how the header is read, with its opening, and written; the sizes that it tells; the lattice by whose nodes rows are grouped; how many words a
--                       cell's codes have; the edition; and the length at which a list of nodes is too long (stop 9)
--   Headed F h          headers that are read back
--   CUB2                the opening bytes of edition two, 43 55 42 32
--   sets_format o E     the archive over the sets of dimensions, with opening o: its header tells the sizes
--   one, two            the archives of the two editions
--   format s            the format of bytes by their opening: edition two, or else edition one, whose reading stops with 1 on any other opening
use Rattle.std.specs.Prelude.{◌≡◌, cond, List, [], ◌∷◌, ◌++◌, ℕ, length}
use Rattle.fields.specs.Opening.{starts_with}
use Rattle.fields_walk.specs.Parsed.{Parsed, got}
use Rattle.fields_walk.specs.Fields.{header, header_bytes}
use Rattle.cube.specs.Lattice.{Lattice}
use Rattle.cube.specs.Codes.{plain}
use Rattle.archive_entries.specs.Layout.{CUBE}
use Rattle.archive_editions.specs.Edition.{Edition, edition_one, edition_two}

pub record Format (H : Type 0) : Type 1 where
  pub head : List ℕ → Parsed H
  pub head_bytes : H → List ℕ
  pub sizes : H → List ℕ
  pub lattice : H → Lattice
  pub width : H → ℕ
  pub edition : Edition
  pub limit : ℕ

pub record Headed {H : Type 0} (F : Format H) (h : H) : Type 0 where
  pub back : (l : List ℕ) → F.head (F.head_bytes h ++ l) ≡ got h l

abbrev pub CUB2 : List ℕ
CUB2 = 0x43 ∷ 0x55 ∷ 0x42 ∷ 0x32 ∷ []

abbrev pub sets_format : List ℕ → Edition → Format (List ℕ)
sets_format opening E = record {
  head = header opening;
  head_bytes = header_bytes opening;
  sizes = λ zs. zs;
  lattice = λ zs. plain (length zs);
  width = length;
  edition = E;
  limit = 71;
}

abbrev pub one : Format (List ℕ)
one = sets_format CUBE edition_one

abbrev pub two : Format (List ℕ)
two = sets_format CUB2 edition_two

abbrev pub format : List ℕ → Format (List ℕ)
format s = cond (starts_with s CUB2) two one
