-- `text_lines::put_base` meets its contract: the row, a space, a colon, the list and the end of the line, one straight after the other.
use Rattle.fields.specs.WrittenLaws.{wrote_then}
use Rattle.archive_entries.specs.Places.{base_there}
use Rattle.text_lines.proofs.Texts.{base_text_is}
use Rattle.text_lines.proofs.put_base.Goals as goal

pub returns : goal.returns
returns c =
    let a = c.args in
    rw (base_text_is (base_there a.s.now a.dims a.at), ← c.word_at-n.ensures)
    (wrote_then (wrote_then (wrote_then (wrote_then c.put_row-done.ensures c.put_character-done.ensures) c.put_character-done-2.ensures) c.put_words-done.ensures) c.put_character.ensures)
