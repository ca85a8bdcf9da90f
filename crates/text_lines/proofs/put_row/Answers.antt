-- `text_lines::put_row` meets its contract: the codes, the sum, a space and the count, one straight after the other.
use mathlib.Core.Path.{◌≡◌, ◌∙◌}
use mir.Syntax.{w64}
use mir.Val.{to_z, of_z}
use mir.Facts.{to_z-of_z}
use Rattle.fields.specs.WrittenLaws.{wrote_then}
use Rattle.archive_entries.specs.Places.{row_there}
use Rattle.text_lines.proofs.Texts.{row_text_is}
use borrow.Author.Rules.{sfits_of}
use Rattle.text_lines.proofs.put_row.Goals as goal

pub returns : goal.returns
returns c =
    let a = c.args in
    let sum : to_z w64 (of_z w64 c.sum_at-sum.result) ≡ (row_there a.s.now a.dims a.at).total.sum = to_z-of_z {w = w64} (sfits_of c.sum_at-sum.type_inv) ∙ c.sum_at-sum.ensures in
    rw (row_text_is (row_there a.s.now a.dims a.at), ← sum, ← c.word_at-count.ensures, ← c.from.ensures)
    (wrote_then (wrote_then (wrote_then c.put_words-done.ensures c.put_integer-done.ensures) c.put_character-done.ensures) c.put_decimal.ensures)
