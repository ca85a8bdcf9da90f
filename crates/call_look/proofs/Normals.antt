-- The normal entries of an accepted archive stand right before its check word.
use mathlib.Core.Path.{◌≡◌, sym, ap, ◌∙◌}
use mathlib.Core.List.{List, ◌++◌, flat_map, append_assoc}
use Prim.Native.Nat.{ℕ, ◌+◌, ◌-◌, ◌*◌, ◌≤◌}
use native.Mathlib.Omega.{arith}
use lib.ListN.{length, drop, length-append}
use lib.Seq.{drop_at}
use Rattle.fields.specs.Words.{word_bytes}
use Rattle.fields.specs.Opening.{starts_with}
use Rattle.fields.specs.OpeningLaws.{starts_append}
use Rattle.fields_check.specs.Check.{check_of, checked}
use Rattle.fields_walk.specs.Fields.{header_bytes}
use Rattle.fields_walk.proofs.Lengths.{length-flat, length-header}
use Rattle.cube.specs.declared.Total.{Total}
use Rattle.cube.specs.Measure.{Row}
use Rattle.rows.specs.Rows.{rows_of}
use Rattle.rows.proofs.Rows.{rows-codes}
use Rattle.archive_entries.specs.Layout.{CUBE, Held, section, base_bytes, cell_bytes, required}
use Rattle.archive_entries.proofs.Lengths.{cell-length}
use Rattle.archive_entries.proofs.Limits.{normals-wide}
use Rattle.rows_ready.proofs.Ready.{ready-base}
use Rattle.rows_condense.specs.Shared.{normal_rows}
use Rattle.call_questions.specs.Questions.{NormalsAt}
use Rattle.archive_bases.specs.Listed.{our_bases}
use Rattle.archive_judge.specs.Read.{sections}
use Rattle.archive_judge.proofs.Judged.{archive-sections}
use Rattle.call_answers.proofs.Opened.{Opened}
use Rattle.call_ask.proofs.Opened.{opened_bytes, opened_held}

regroup : (h b w n l : List ℕ) → (h ++ (b ++ (w ++ n))) ++ l ≡ h ++ ((b ++ w) ++ (n ++ l))
regroup h b w n l = append_assoc h (b ++ (w ++ n)) l ∙ ap (λ (x : List ℕ). h ++ x) (ap (λ (x : List ℕ). x ++ l) (sym (append_assoc b w n)) ∙ append_assoc (b ++ w) n l)

module _ {s : List ℕ} {d n m : ℕ} {ws : List ℕ} (o : Opened s d n m ws) where
  abbrev table : List (Row Total)
  table = rows_of d n ws

  abbrev width : ℕ
  width = m * (4 * d + 12)

  cells_are : m ≡ length (normal_rows d table)
  unfolding required normal_rows
  cells_are = sym o.cells ∙ ap (λ (a : Held). length a.cells) (opened_held o) ∙ ap (λ (k : ℕ). length (normal_rows k table)) o.dims

  -- what stands in front of them, they themselves, and what stands behind
  abbrev header : List ℕ
  header = header_bytes CUBE o.held.sizes

  abbrev bases : List ℕ
  bases = section base_bytes (our_bases d table) ++ word_bytes (length (normal_rows d table))

  abbrev normals : List ℕ
  normals = flat_map cell_bytes (normal_rows d table)

  abbrev last : List ℕ
  last = word_bytes (check_of (header ++ sections d table))

  parts : s ≡ header ++ (bases ++ (normals ++ last))
  unfolding sections
  parts =
      opened_bytes o ∙ archive-sections o.held.sizes table
      ∙ ap (λ (k : ℕ). checked (header ++ sections k table)) o.dims
      ∙ regroup header (section base_bytes (our_bases d table)) (word_bytes (length (normal_rows d table))) normals last

  normals_long : length normals ≡ width
  unfolding normal_rows
  normals_long =
      let base = rw (← rows-codes d n ws) at (ready-base o.ready) in
      length-flat cell_bytes (4 * d + 12) (normal_rows d table) (λ r i. cell-length d r (normals-wide d table base o.ready.summable i).0.0)
      ∙ ap (λ (k : ℕ). k * (4 * d + 12)) (sym cells_are)

  parts_long : length s ≡ 8 + 4 * d + length bases + width + 4
  parts_long =
      omega (arith, ap length parts, length-append header (bases ++ (normals ++ last)), length-append bases (normals ++ last), length-append normals last, length-header CUBE o.held.sizes, o.dims, normals_long)

  pub opened_long : 8 + 4 * d ≤ length s
  opened_long = omega (arith, parts_long)

  pub normals-room : width + 4 ≤ length s
  normals-room = omega (arith, parts_long)

  pub normals-held : NormalsAt s (length s - 4 - width) m d table
  normals-held =
      let at = length s - 4 - width in
      let e : length (header ++ bases) ≡ at = omega (arith, parts_long, length-append header bases, length-header CUBE o.held.sizes, o.dims) in
      let there : drop at s ≡ normals ++ last = ap (drop at) (parts ∙ sym (append_assoc header bases (normals ++ last))) ∙ drop_at (header ++ bases) (normals ++ last) at e in
      record {
        within = omega (arith, normals-room);
        bytes = ap (λ (l : List ℕ). starts_with l normals) there ∙ starts_append normals last;
        count = cells_are;
      }
