-- The front page of the programs: for an accepted table the builder prints the archive, and the lister, given that, the text of its entries. That the code prints what is defined are the contracts
-- of `build_text` and `list_text` (src/lib.rt).
use mathlib.Core.Path.{◌≡◌, ap, ◌∙◌}
use mathlib.Core.List.{List, []}
use Prim.Native.Nat.{ℕ, ◌+◌, ◌*◌, ◌≤◌, ◌<◌}
use native.Mathlib.Nat.{mul-le-mul}
use native.Mathlib.Omega.{arith}
use lib.ListN.{length}
use borrow.Author.Tests.{le-leb, lt-leb}
use Rattle.fields_walk.specs.Parsed.{got}
use Rattle.fields_walk.specs.Limits.{Bytes}
use Rattle.table.specs.Layout.{Records}
use Rattle.table.specs.Reading.{read_table, base_rows}
use Rattle.table.proofs.Accepted.{table_forth}
use Rattle.table.proofs.Lengths.{table-length}
use Rattle.archive_entries.specs.Layout.{required, archive_bytes}
use Rattle.call_answers.specs.Answers.{Outcome, within}
use Rattle.call_answers.specs.Calls.{builds}
use Rattle.promises.proofs.Promises as Archive
use Rattle.text_listing.specs.Listing.{listing}
use Rattle.program_texts.specs.Programs.{longest, refused, built_text, builder, listed_text, lister}
use Rattle.program_texts.proofs.Printed.{short_text, lister-short}

module _ (s : List ℕ) (t : Records) (b : Bytes s) (e : read_table s ≡ got t []) where
  abbrev our_archive : List ℕ
  our_archive = archive_bytes t.sizes (base_rows t)

  -- no accepted table is too long
  pub table-short : length s ≤ longest
  table-short =
      let f = table_forth s t [] b e in
      let rows = mul-le-mul f.0.few (let z = f.0.sized.few in let y : 4 * length t.sizes + 4 ≤ 36 = omega arith in y) in
      omega (arith, ap length f.1, table-length t f.0, rows, f.0.sized.few)

  settled : builder s ≡ built_text (within longest (builds s))
  unfolding builder
  settled = short_text s (built_text (within longest (builds s))) table-short

  -- the archive, where 65,536 bytes are enough,
  pub prints_archive : length our_archive ≤ longest → builder s ≡ our_archive
  prints_archive h = settled ∙ ap (λ (o : Outcome). built_text (within longest o)) (Archive.built s t b e) ∙ rw (le-leb (length our_archive) longest h)

  -- stop 15 where they are not,
  pub prints_fifteen : longest < length our_archive → builder s ≡ refused 15
  prints_fifteen h = settled ∙ ap (λ (o : Outcome). built_text (within longest o)) (Archive.built s t b e) ∙ rw (lt-leb (length our_archive) longest h)

  -- and of the archive its entries as text: the base rows with their lists, and the normal cells.
  pub prints_text : length our_archive ≤ longest → lister (builder s) ≡ listing (required t.sizes (base_rows t))
  prints_text h = ap lister (prints_archive h) ∙ lister-short our_archive h ∙ ap listed_text (Archive.built_read s t b e)
