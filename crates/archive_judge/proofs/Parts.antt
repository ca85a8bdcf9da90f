-- The four parts of what base rows require.
use mathlib.Core.Path.{◌≡◌, sym, ap, ap₂, ◌∙◌}
use mathlib.Core.List.{List, ◌++◌, flat_map}
use Prim.Native.Nat.{ℕ}
use lib.ListN.{length, length-map}
use Rattle.fields.specs.Words.{word_bytes}
use Rattle.cube.specs.declared.Total.{Total}
use Rattle.cube.specs.Measure.{Row, sums as measure, codes_of}
use Rattle.cube.specs.Codes.{plain}
use Rattle.cube.specs.Cube.{filled}
use Rattle.cube.specs.Condensed.{normals}
use Rattle.rows.specs.Rows.{cut, rows_of}
use Rattle.rows.proofs.Rows.{rows-codes}
use Rattle.rows.proofs.Flat.{rows-length}
use Rattle.archive_entries.specs.Layout.{base_bytes, based}
use Rattle.rows_condense.specs.Shared.{normal_rows}
use Rattle.archive_bases.specs.Listed.{our_bases}
use Rattle.archive_normals.specs.Normals.{normal_bytes}
use Rattle.archive_judge.specs.Read.{sections}

-- the four parts, with the counts that the code has
module _ (d n : ℕ) (ws : List ℕ) where
  abbrev table : List (Row Total)
  table = rows_of d n ws

  pub four-parts : {cells : ℕ} → cells ≡ length (normals (plain d) (cut d n ws))
      → (word_bytes n ++ flat_map base_bytes (our_bases d table)) ++ (word_bytes cells ++ normal_bytes d table) ≡ sections d table
  unfolding sections our_bases normal_rows normal_bytes
  four-parts {cells} e =
      let b : n ≡ length (our_bases d table) = sym (length-map table (based d table) ∙ rows-length d n ws) in
      let c : cells ≡ length (normal_rows d table) =
      e ∙ ap (λ (xs : List (List ℕ)). length (normals (plain d) xs)) (sym (rows-codes d n ws)) ∙ sym (length-map (normals (plain d) (codes_of table)) (filled (plain d) measure table)) in
      ap₂ (λ (p q : ℕ). (word_bytes p ++ flat_map base_bytes (our_bases d table)) ++ (word_bytes q ++ normal_bytes d table)) b c
