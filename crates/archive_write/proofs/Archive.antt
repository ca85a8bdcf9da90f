-- An archive of rows in a flat list, as its sections one after the other, and how long it is.
use mathlib.Core.Path.{◌≡◌, sym, ap, ap₂, ◌∙◌}
use mathlib.Core.List.{List, ◌++◌, flat_map, append_assoc}
use Prim.Native.Nat.{ℕ, ◌+◌, ◌*◌, ◌≤◌}
use native.Mathlib.Nat.{mul-le-mul}
use native.Mathlib.Omega.{arith}
use lib.ListN.{length, length-append, length-map}
use Rattle.fields.specs.Words.{word_bytes}
use Rattle.fields_check.specs.Check.{check_of, checked}
use Rattle.fields_walk.specs.Fields.{header_bytes}
use Rattle.fields_walk.proofs.Lengths.{length-header}
use Rattle.cube.specs.declared.Total.{Total}
use Rattle.cube.specs.Measure.{sums as measure, Row, codes_of}
use Rattle.cube.specs.Codes.{plain}
use Rattle.cube.specs.Cube.{filled}
use Rattle.cube.specs.Condensed.{normals}
use Rattle.rows.specs.Rows.{cut, rows_of}
use Rattle.rows.proofs.Rows.{rows-codes}
use Rattle.rows.proofs.Flat.{rows-length}
use Rattle.archive_entries.specs.Layout.{CUBE, base_bytes, sets_in, layout, based, required, archive_bytes, Limits}
use Rattle.archive_entries.proofs.Lengths.{archive_length}
use Rattle.archive_entries.proofs.Limits.{normals-few}
use Rattle.rows_condense.specs.Shared.{normal_rows}
use Rattle.archive_bases.specs.Listed.{Listed, our_bases}
use Rattle.archive_normals.specs.Normals.{normal_bytes}

-- five sections, as they are written and as an archive has them
nested : {A : Type 0} (a b c d e : List A) → (((a ++ b) ++ c) ++ d) ++ e ≡ a ++ ((b ++ c) ++ (d ++ e))
nested a b c d e = simp append_assoc

module _ (zs : List ℕ) {d n : ℕ} {ws ls : List ℕ} {cells : ℕ} (same : d ≡ length zs) (rows : Listed d n ws ls) (e : cells ≡ length (normals (plain d) (cut d n ws))) where
  abbrev table : List (Row Total)
  table = rows_of d n ws

  abbrev bases : List ℕ
  bases = flat_map base_bytes (our_bases d table)

  -- the sections before the check word, as they are written
  abbrev body : List ℕ
  body = (((header_bytes CUBE zs ++ word_bytes n) ++ bases) ++ word_bytes cells) ++ normal_bytes d table

  normals-count : cells ≡ length (normals (plain d) (codes_of table))
  normals-count = e ∙ ap (λ (xs : List (List ℕ)). length (normals (plain d) xs)) (sym (rows-codes d n ws))

  pub archive_parts : checked body ≡ archive_bytes zs table
  unfolding archive_bytes layout required our_bases normal_bytes normal_rows
  archive_parts =
      let b : n ≡ length (our_bases d table) = sym (length-map table (based d table) ∙ rows-length d n ws) in
      let c : cells ≡ length (normal_rows d table) = normals-count ∙ sym (length-map (normals (plain d) (codes_of table)) (filled (plain d) measure table)) in
      ap checked (nested (header_bytes CUBE zs) (word_bytes n) bases (word_bytes cells) (normal_bytes d table)
      ∙ ap₂ (λ (k m : ℕ). header_bytes CUBE zs ++ ((word_bytes k ++ bases) ++ (word_bytes m ++ normal_bytes d table))) b c
      ∙ ap (λ (d : ℕ). header_bytes CUBE zs ++ ((word_bytes (length (our_bases d table)) ++ flat_map base_bytes (our_bases d table)) ++ (word_bytes (length (normal_rows d table)) ++ normal_bytes d table))) same)

  -- its length, by those of its sections
  pub archive_sum : length (archive_bytes zs table) ≡ 8 + 4 * length zs + 4 + length bases + 4 + length (normal_bytes d table) + 4
  archive_sum =
      let h = header_bytes CUBE zs in
      let m = normal_bytes d table in
      omega (
        arith,
        ap length archive_parts,
        length-append body (word_bytes (check_of body)),
        length-append (((h ++ word_bytes n) ++ bases) ++ word_bytes cells) m,
        length-append ((h ++ word_bytes n) ++ bases) (word_bytes cells),
        length-append (h ++ word_bytes n) bases,
        length-append h (word_bytes n),
        length-header CUBE zs,
      )

  -- and by how much the rows list and share
  pub archive_long : Limits zs table → length (archive_bytes zs table) ≡ 20 + 4 * length zs + n * (4 * length zs + 16) + 4 * sets_in (our_bases d table) + cells * (4 * length zs + 12)
  unfolding required our_bases
  archive_long l =
      let f = rw (rows-length d n ws, ← same, ← normals-count) at (archive_length zs table l) in
      rw (← same) (omega (arith, f))

  -- there are not many entries, and they do not take many bytes
  pub bases-most : n * (4 * length zs + 16) ≤ 1024 * 48
  bases-most = let h : 4 * length zs + 16 ≤ 48 = omega (arith, same, rows.ready.dims) in mul-le-mul rows.ready.few h

  pub cells-few : cells ≤ 262144
  cells-few = omega (arith, normals-count, normals-few d table rows.ready.dims (omega (arith, rows.ready.few, rows-length d n ws)))

  pub normals-most : cells * (4 * length zs + 12) ≤ 262144 * 44
  normals-most = let h : 4 * length zs + 12 ≤ 44 = omega (arith, same, rows.ready.dims) in mul-le-mul cells-few h
