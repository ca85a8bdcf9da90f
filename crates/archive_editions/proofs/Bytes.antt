-- What an archive is made of are bytes: so are those of one that was read with all its stops, since it is the one that its base rows require.
use mathlib.Core.Path.{◌≡◌, sym, subst}
use mathlib.Core.List.{List}
use Prim.Native.Nat.{ℕ}
use lib.ListN.{length}
use Rattle.lists.proofs.Members.{flat_in}
use Rattle.lists.proofs.Order.{same-eq}
use Rattle.fields.specs.Words.{words_bytes}
use Rattle.fields_walk.specs.Parsed.{got}
use Rattle.fields_walk.specs.Limits.{Bytes}
use Rattle.archive_editions.specs.Format.{Format}
use Rattle.archive_editions.specs.Layout.{Based, Held, cell_words, base_bytes, layout, required, archive_bytes}
use Rattle.archive_editions.specs.Reading.{rows_in, read}
use Rattle.archive_editions.proofs.Formats.{append_are, word_are, words_are, Lawful}
use Rattle.archive_editions.proofs.Accepted.{read_forth}
use mathlib.Core.List.{flat_map}

flat_are : {A : Type 0} (f : A → List ℕ) → ((y : A) → Bytes (f y)) → (l : List A) → Bytes (flat_map f l)
flat_are f h l x m = let r = flat_in f l m in h r.0 x r.2

base_are : (k : ℕ) (b : Based) → Bytes (base_bytes k b)
unfolding base_bytes
base_are k b = append_are (words_are (cell_words k b.row)) (append_are (word_are (length b.list)) (words_are b.list))

module _ {H : Type 0} (F : Format H) (lawful : Lawful F) where
  layout_are : (a : Held H) → Bytes (layout F a)
  unfolding layout
  layout_are a =
      let bases = append_are (word_are (length a.bases)) (flat_are (base_bytes F.edition.extra) (base_are F.edition.extra) a.bases) in
      let cells = append_are (word_are (length a.cells)) (flat_are words_bytes words_are a.cells) in
      append_are (append_are (lawful.bytes a.header) (append_are bases cells)) (word_are _)

  pub read_bytes : (s : List ℕ) {a : Held H} {rest : List ℕ} → read F s ≡ got a rest → Bytes s
  unfolding archive_bytes
  read_bytes s {a} e = subst Bytes (sym (same-eq s (archive_bytes F a.header (rows_in a)) (read_forth F s e).1)) (layout_are (required F a.header (rows_in a)))
